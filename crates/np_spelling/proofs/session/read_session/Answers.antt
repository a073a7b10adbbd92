use Rattle.np_spelling.proofs.Prelude.{ap, arith, length}
use Rattle.np_spelling.proofs.Readers.{left_of}
use Rattle.np_spelling.proofs.Records.{session_read}
use Rattle.np_spelling.proofs.session.read_session.Goals as goal

pub answer-requires : goal.answer-requires
answer-requires c = omega (arith, left_of session_read _ _ _ c.session-found.ensures, ap length c.new-cursor.ensures)
