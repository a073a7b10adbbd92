use Rattle.np_changes.proofs.Shapes.{Fits-Runs}
use Rattle.np_changes.proofs.numbers.the_numbers_of_every_run_fit.Goals as goal

pub returns : goal.returns
returns c = Fits-Runs
