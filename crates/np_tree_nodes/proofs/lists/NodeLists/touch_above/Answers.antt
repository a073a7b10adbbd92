use Rattle.np_tree_nodes.proofs.Prelude.{None, refl, sym}
use Rattle.np_tree_nodes.proofs.PlanLemmas.{without_child_above-none, without_child_above-some}
use Rattle.np_tree_nodes.proofs.lists.NodeLists.touch_above.Goals as goal

pub returns-in_err-above-clause-nodes : goal.returns-in_err-above-clause-nodes
returns-in_err-above-clause-nodes c =
    rw c.from_residual-in_err-above.ensures
    (without_child_above-none c.args.change c.args.path.now c.in_ok-parent.field-0.now c.args.self.now.nodes (sym c.in_ok-parent.ensures) c.in_err-above.ensures)

pub returns-clause-nodes : goal.returns-clause-nodes
returns-clause-nodes c =
    let node = c.in_ok-above.above.node.now in
    without_child_above-some c.args.change c.args.path.now c.in_ok-parent.field-0.now c.args.self.now.nodes c.in_ok-above.above.place node (record { bytes = None; facts = record node.facts { pzxid = c.args.change } }) (sym c.in_ok-parent.ensures) c.requires.sorted c.in_ok-above.ensures refl
