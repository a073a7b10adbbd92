use Rattle.np_tree_nodes.proofs.Prelude.{None, Some, Swap, ap, arith, if◌then◌else◌, is_ephemeral, length, made_path, new_node, with_child, with_swap, ◌<◌, ◌∙◌, ◌≡◌}
use Rattle.np_tree_nodes.proofs.PlanLemmas.{Plans-creation, new_node-parts, then_some-cond}
use Rattle.np_tree_nodes.proofs.lists.NodeLists.creation.Goals as goal

pub returns : goal.returns
returns c =
    let nodes = c.args.self.now.nodes in
    let marks = c.args.self.now.marks in
    let parent = c.args.spot.parent.node.now in
    let made = made_path parent c.args.name.now c.args.mode in
    let swap : Swap = record { bytes = None; facts = c.with_child.result } in
    let facts : with_swap swap parent ≡ with_child c.args.change c.args.mode parent = ap (λ (f : _). record parent { facts = f }) c.with_child.ensures in
    let few_nodes : length nodes < 18_446_744_073_709_551_615 = omega (arith) in
    let few_marks : length marks < 18_446_744_073_709_551_615 = omega (arith) in
    let plan = Plans-creation c.args.change c.args.session c.args.name.now c.args.bytes.now c.args.mode c.args.spot nodes marks swap c.requires.kept c.requires.name c.requires.spot facts few_nodes few_marks in
    let owner : c.then_some.result ≡ (if is_ephemeral c.args.mode then Some c.args.session else None) = (rw c.is_ephemeral.ensures at c.then_some.ensures) ∙ then_some-cond (is_ephemeral c.args.mode) c.args.session in
    let node : c.in_ok-new.field-0 ≡ new_node c.args.change c.args.session made c.args.bytes.now c.args.mode =
    c.in_ok-new.ensures ∙ new_node-parts c.args.change c.args.session made _ c.args.bytes.now _ c.args.mode c.new.result c.then_some.result (c.path.view_is ∙ c.in_ok-path.ensures) c.in_ok-copy.ensures c.new.ensures owner in
    rw (node, c.in_ok-mark.ensures) plan
