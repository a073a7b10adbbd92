use Rattle.np_worker.proofs.Leaving.{left_with_cause}
use Rattle.np_worker.proofs.law.servers.servers_leave_with_a_cause.Goals as goal

pub returns-clause-cause : goal.returns-clause-cause
returns-clause-cause g = left_with_cause
