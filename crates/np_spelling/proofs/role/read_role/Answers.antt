use Rattle.np_spelling.proofs.Prelude.{ap, arith, length}
use Rattle.np_spelling.proofs.Readers.{left_of}
use Rattle.np_spelling.proofs.Records.{role_read}
use Rattle.np_spelling.proofs.role.read_role.Goals as goal

pub answer-requires : goal.answer-requires
answer-requires c = omega (arith, left_of role_read _ _ _ c.role-found.ensures, ap length c.new-cursor.ensures)
