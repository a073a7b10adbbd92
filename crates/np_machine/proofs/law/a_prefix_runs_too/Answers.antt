use Rattle.np_machine.proofs.Runs.{Runs-prefix}
use Rattle.np_machine.proofs.law.a_prefix_runs_too.Goals as goal

pub returns : goal.returns
returns c = Runs-prefix
