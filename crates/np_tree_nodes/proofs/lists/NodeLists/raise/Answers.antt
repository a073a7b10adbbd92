use Rattle.np_tree_nodes.proofs.Prelude.{None, refl, with_counter}
use Rattle.np_tree_nodes.proofs.PlanLemmas.{Plans-touch}
use Rattle.np_tree_nodes.proofs.lists.NodeLists.raise.Goals as goal

pub returns : goal.returns
returns c =
    let node = c.args.found.node.now in
    Plans-touch c.args.found.place node (record { bytes = None; facts = record node.facts { counter = c.args.to } }) (with_counter c.args.to) c.args.self.now.nodes c.args.self.now.marks
    c.requires.kept c.requires.there (λ _. refl) (λ _. refl) refl
