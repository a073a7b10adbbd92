use Rattle.np_lock.proofs.LawLemmas.{ends-leave}
use Rattle.np_lock.proofs.laws.ends_leave.Goals as goal

pub returns : goal.returns
returns c = ends-leave
