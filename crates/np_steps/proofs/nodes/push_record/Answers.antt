use Rattle.np_steps.proofs.Prelude.{List, NodeEntry, OnOk, Op, node_entry, subst, ◌++◌, ◌≡◌}
use Rattle.np_steps.proofs.RecordRows.{node-put, row-none, row-some}
use Rattle.np_steps.proofs.nodes.push_record.Goals as goal

pub returns-in_default : goal.returns-in_default
returns-in_default g c =
    let s = g.R.Rows.state c.args.rows.now in
    row-none (λ (e : NodeEntry). e.kept) (node_entry c.args.id s.nodes) _ c.args.ops.now.items c.in_default.ensures

pub push_set-requires-clause-sound : goal.push_set-requires-clause-sound
push_set-requires-clause-sound g c =
    let s = g.R.Rows.state c.args.rows.now in
    node-put s.nodes c.args.id c.args.kept.now c.in-Some.field-0 c.requires c.in-Some.ensures

pub returns : goal.returns
returns g c =
    let s = g.R.Rows.state c.args.rows.now in
    let is = c.in-Some.ensures in
    subst (λ (parts : List Op). OnOk c.push_set.result (c.push_set.new.ops.items ≡ c.args.ops.now.items ++ parts)) (row-some (λ (e : NodeEntry). e.kept) (node_entry c.args.id s.nodes) c.in-Some.field-0 _ is) c.push_set.ensures
