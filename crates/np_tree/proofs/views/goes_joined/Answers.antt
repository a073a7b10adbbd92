use Rattle.np_tree.proofs.CallLemmas.{goes-empty, goes-front, goes-joined}
use Rattle.np_tree.proofs.views.goes_joined.Goals as goal

pub returns : goal.returns
returns c = record { empty = goes-empty; front = goes-front; joined = goes-joined }
