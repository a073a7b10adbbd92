use Rattle.np_tree_rows.proofs.Prelude.{node_queue, rules, ◌<◌, ◌^◌}
use Rattle.np_tree_rows.proofs.NodeReads.{node-waits}
use Rattle.np_tree_rows.proofs.node_table.node_queue.Goals as goal

pub returns : goal.returns
returns c config s stored =
    let small : c.args.node.0 < 2 ^ 32 = search rules in
    let waits = node-waits config s c.args.tree.now stored c.args.node small in
    c.waiting_at.ensures waits.0 (node_queue c.args.node s.nodes) waits.1
