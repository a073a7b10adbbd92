use Rattle.np_spelling.proofs.Prelude.{arith}
use Rattle.np_spelling.proofs.Readers.{sequence_most}
use Rattle.np_spelling.proofs.id.sequence.Goals as goal

pub overflow_cast-result : goal.overflow_cast-result
overflow_cast-result c = omega (arith, sequence_most _ _ _ c.in_ok-digits.ensures)
