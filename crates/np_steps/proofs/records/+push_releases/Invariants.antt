use Rattle.np_steps.proofs.Prelude.{length}
use Rattle.np_steps.proofs.records.+push_releases.Given as goal

abbrev pub decreases-push_releases : goal.decreases-push_releases
decreases-push_releases g l = length l.semaphores.now
