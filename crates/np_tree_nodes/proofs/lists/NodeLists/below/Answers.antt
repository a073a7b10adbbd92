use Rattle.np_tree_nodes.proofs.Prelude.{[]}
use Rattle.np_tree_nodes.proofs.PlaceLemmas.{IsSplit-first_le, IsSplit-halves_le}
use Rattle.np_tree_nodes.proofs.lists.NodeLists.below.Goals as goal

pub place-requires : goal.place-requires
place-requires c = record { split = IsSplit-halves_le c.args.before.now [] c.args.self.now.nodes c.requires }

pub place-requires-2 : goal.place-requires-2
place-requires-2 c = record { split = IsSplit-first_le c.args.before.now c.args.self.now.nodes c.requires }
