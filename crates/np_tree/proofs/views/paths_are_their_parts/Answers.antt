use Rattle.np_tree.proofs.CallLemmas.{paths-are-their-parts}
use Rattle.np_tree.proofs.views.paths_are_their_parts.Goals as goal

pub returns : goal.returns
returns c = paths-are-their-parts
