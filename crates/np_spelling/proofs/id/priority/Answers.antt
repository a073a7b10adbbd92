use Rattle.np_spelling.proofs.Prelude.{arith}
use Rattle.np_spelling.proofs.Readers.{priority_most}
use Rattle.np_spelling.proofs.id.priority.Goals as goal

pub overflow_cast-result : goal.overflow_cast-result
overflow_cast-result c = omega (arith, priority_most _ _ _ c.in_ok-digits.ensures)
