use Rattle.np_tables.proofs.Prelude.{List, NodeId, ap, at_drop_all, drop, same_node, sym, ◌∙◌, ◌≡◌}
use Rattle.np_tables.proofs.TableLemmas.{each_left, nodes-left}
use Rattle.np_tables.proofs.ends.leave_nodes.Goals as goal

pub returns : goal.returns
returns c =
    let left_by = λ (ids : List NodeId). each_left same_node c.args.session ids c.loop-node.nodes.rows in
    let all : left_by (drop c.loop-node.node-index c.args.ids.now) ≡ c.loop-node.nodes.rows = at_drop_all left_by c.args.ids.now c.loop-node.node-index c.loop-node-test.false in
    sym all
    ∙ c.loop-node.invariant
    ∙ ap (λ (ids : List NodeId). each_left same_node c.args.session ids c.args.nodes.now.rows) c.requires.ids
    ∙ nodes-left c.args.session c.args.nodes.now.rows c.requires.rise
