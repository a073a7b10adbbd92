use Rattle.np_jobs.proofs.Settles.{outside-idle}
use Rattle.np_jobs.proofs.law.a_role_outside_is_idle.Goals as goal

pub returns : goal.returns
returns c = outside-idle
