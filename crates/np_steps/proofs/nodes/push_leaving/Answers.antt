use Rattle.np_steps.proofs.Prelude.{List, NodeEntry, NodeLock, OnOk, Op, leave_parts, node_entry, subst, ◌++◌, ◌≡◌}
use Rattle.np_steps.proofs.RecordRows.{row-none, row-some}
use Rattle.np_steps.proofs.nodes.push_leaving.Goals as goal

pub returns-in_default : goal.returns-in_default
returns-in_default g c =
    let s = g.R.Rows.state c.args.rows.now in
    row-none (λ (e : NodeEntry). e.kept) (node_entry c.args.id s.nodes) (λ e. leave_parts (NodeLock c.args.id) c.args.tree.now c.args.session) c.args.ops.now.items c.in_default.ensures

pub returns : goal.returns
returns g c =
    let s = g.R.Rows.state c.args.rows.now in
    subst (λ (parts : List Op). OnOk c.push_leave.result (c.push_leave.new.ops.items ≡ c.args.ops.now.items ++ parts))
    (row-some (λ (e : NodeEntry). e.kept) (node_entry c.args.id s.nodes) c.in-Some.field-0 (leave_parts (NodeLock c.args.id) c.args.tree.now c.args.session) c.in-Some.ensures) c.push_leave.ensures
