use Rattle.np_tree.proofs.LaterLemmas.{elsewhere, goes-whole}
use Rattle.np_tree.proofs.views.elsewhere.Goals as goal

pub returns : goal.returns
returns c = record { rows = elsewhere; whole = goes-whole }
