use Rattle.np_steps.proofs.Prelude.{List, NodeId, Op, ap, arith, drop, drop_more, each_changed, edited_entry, get_or, length, sym, ◌++◌, ◌+◌, ◌<◌, ◌∙◌}
use Rattle.np_steps.proofs.RecordRows.{each-behind}
use Rattle.np_steps.proofs.nodes.push_edits.Goals as goal

pub loop-node-preserved : goal.loop-node-preserved
loop-node-preserved g c =
    let what = c.args.edit in
    let nodes = c.args.nodes.now in
    let rows = (g.R.Rows.state c.args.rows.now).nodes in
    let at = c.loop-node.node-index in
    let blank : NodeId = record { 0 = 0 } in
    let within : at < length nodes = omega (arith, c.loop-node-test.true) in
    let front = sym (ap (λ (numbers : List NodeId). c.loop-node.ops.items ++ each_changed (edited_entry what) numbers rows) (drop_more nodes at blank within)) ∙ c.loop-node.invariant in
    ap (λ (items : List Op). items ++ each_changed (edited_entry what) (drop (at + 1) nodes) rows) c.in_ok-push_edit.ensures
    ∙ each-behind what (get_or nodes at blank) (drop (at + 1) nodes) rows c.loop-node.ops.items (c.args.ops.now.items ++ each_changed (edited_entry what) nodes rows) front
