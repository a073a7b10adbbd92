use Rattle.np_machine.proofs.Rises.{RisesFrom-next}
use Rattle.np_machine.proofs.law.the_next_numbers_never_fall.Goals as goal

pub returns : goal.returns
returns c = RisesFrom-next
