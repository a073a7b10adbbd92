use Rattle.np_changes.proofs.Runs.{safe-every_step}
use Rattle.np_changes.proofs.safe.every_run_is_safe_after_every_step.Goals as goal

pub returns : goal.returns
returns c = safe-every_step
