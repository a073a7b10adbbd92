use Rattle.np_spelling.proofs.Prelude.{ap, arith, length}
use Rattle.np_spelling.proofs.Readers.{left_of}
use Rattle.np_spelling.proofs.RequestForm.{request_read}
use Rattle.np_spelling.proofs.request.read_request_record.Goals as goal

pub answer-requires : goal.answer-requires
answer-requires c = omega (arith, left_of request_read _ _ _ c.request-found.ensures, ap length c.new-cursor.ensures)
