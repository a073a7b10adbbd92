use Rattle.np_steps.proofs.Prelude.{List, Node, NodeEntry, NodeLock, OnOk, Op, delete, delete_parts, node_deletes, node_entry, path_of, subst, under, where_there, ◌≡◌}
use Rattle.np_steps.proofs.RecordRows.{parts-behind, row-none, row-some}
use Rattle.np_steps.proofs.nodes.push_removal.Goals as goal

pub returns-in_default : goal.returns-in_default
returns-in_default g c =
    let s = g.R.Rows.state c.args.rows.now in
    row-none (λ (e : NodeEntry). e.kept) (node_entry c.args.id s.nodes) (λ e. node_deletes c.args.id c.args.tree.now) c.args.ops.now.items c.in_default.ensures

pub returns : goal.returns
returns g c =
    let s = g.R.Rows.state c.args.rows.now in
    let lock = NodeLock c.args.id in
    let is = c.in-Some.ensures in
    let all = row-some (λ (e : NodeEntry). e.kept) (node_entry c.args.id s.nodes) c.in-Some.field-0 (node_deletes c.args.id c.args.tree.now) is in
    let behind = parts-behind c.args.ops.now.items (delete_parts (path_of lock) (under lock c.args.tree.now)) c.push_deletes.new.ops.items c.push_delete.new.ops.items
    (where_there (node_entry c.args.id s.nodes) (λ e. node_deletes c.args.id c.args.tree.now)) (delete lock) (delete (Node c.args.id)) c.in_ok-push_deletes.ensures c.in_ok-push_delete.ensures all in
    subst (λ (items : List Op). OnOk c.push_delete-2.result (c.push_delete-2.new.ops.items ≡ items)) behind c.push_delete-2.ensures
