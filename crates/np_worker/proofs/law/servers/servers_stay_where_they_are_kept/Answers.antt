use Rattle.np_worker.proofs.Leaving.{kept_stay}
use Rattle.np_worker.proofs.law.servers.servers_stay_where_they_are_kept.Goals as goal

pub returns : goal.returns
returns g = kept_stay
