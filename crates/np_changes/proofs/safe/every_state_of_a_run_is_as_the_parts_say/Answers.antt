use Rattle.np_changes.proofs.Runs.{invariant-Runs}
use Rattle.np_changes.proofs.safe.every_state_of_a_run_is_as_the_parts_say.Goals as goal

pub returns : goal.returns
returns c = invariant-Runs
