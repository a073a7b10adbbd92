use Rattle.np_jobs.proofs.Settles.{role-of}
use Rattle.np_jobs.proofs.law.a_session_is_of_a_role_of_the_configuration.Goals as goal

pub returns : goal.returns
returns c = role-of
