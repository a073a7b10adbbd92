use Rattle.np_lock.proofs.LawLemmas.{parts-leave}
use Rattle.np_lock.proofs.laws.parts_leave.Goals as goal

pub returns : goal.returns
returns c = parts-leave
