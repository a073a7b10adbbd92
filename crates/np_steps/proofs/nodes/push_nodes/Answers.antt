use Rattle.np_steps.proofs.Prelude.{List, NodeId, NodesChange, OnOk, each_changed, in_use, nodes_parts, subst, sym, ℕ, ◌++◌, ◌≡◌}
use Rattle.np_steps.proofs.nodes.push_nodes.Goals as goal

pub returns-in-TakeOver : goal.returns-in-TakeOver
returns-in-TakeOver g c =
    let s = g.R.Rows.state c.args.rows.now in
    let ticked = subst (λ (tick : ℕ). OnOk c.push_edits.result (c.push_edits.new.ops.items ≡ c.args.ops.now.items ++ each_changed (in_use tick) c.items.result.now s.nodes)) c.tick.ensures c.push_edits.ensures in
    let numbered = subst (λ (numbers : List NodeId). OnOk c.push_edits.result (c.push_edits.new.ops.items ≡ c.args.ops.now.items ++ each_changed (in_use s.tick) numbers s.nodes)) c.items.ensures ticked in
    subst (λ (change : NodesChange). OnOk c.push_edits.result (c.push_edits.new.ops.items ≡ c.args.ops.now.items ++ nodes_parts c.args.maker s.tick s.requests change s.nodes c.args.tree.now)) (sym c.in-TakeOver.is) numbered
