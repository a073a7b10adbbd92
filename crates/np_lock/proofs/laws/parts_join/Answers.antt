use Rattle.np_lock.proofs.LawLemmas.{parts-join}
use Rattle.np_lock.proofs.laws.parts_join.Goals as goal

pub returns : goal.returns
returns c = parts-join
