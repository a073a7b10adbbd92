use Rattle.np_steps.proofs.Prelude.{IsNode, List, Node, NodeEntry, NodeRecord, OnOk, Op, change_parts, edited_entry, node_entry, node_text, set, subst, sym, [], ◌++◌, ◌∷◌, ◌≡◌}
use Rattle.np_steps.proofs.RecordRows.{edit-parts, edit-sound, row-none}
use Rattle.np_steps.proofs.nodes.push_edit.Goals as goal

pub returns-in_default : goal.returns-in_default
returns-in_default g c =
    let s = g.R.Rows.state c.args.rows.now in
    row-none (λ (e : NodeEntry). e.kept) (node_entry c.args.id s.nodes) (change_parts (edited_entry c.args.edit)) c.args.ops.now.items c.in_default.ensures

pub push_set-requires-clause-sound : goal.push_set-requires-clause-sound
push_set-requires-clause-sound g c =
    let s = g.R.Rows.state c.args.rows.now in
    subst IsNode (sym c.edited-later.ensures) (edit-sound c.args.edit c.args.id c.in-Some.kept s.nodes c.requires.sound c.requires.carried.spelled.nodes c.in-Some.ensures)

pub returns : goal.returns
returns g c =
    let s = g.R.Rows.state c.args.rows.now in
    let is = c.in-Some.ensures in
    let written = subst (λ (later : NodeRecord). OnOk c.push_set.result (c.push_set.new.ops.items ≡ c.args.ops.now.items ++ set (node_text later) (Node c.args.id) ∷ [])) c.edited-later.ensures c.push_set.ensures in
    subst (λ (parts : List Op). OnOk c.push_set.result (c.push_set.new.ops.items ≡ c.args.ops.now.items ++ parts)) (edit-parts c.args.edit c.args.id c.in-Some.kept s.nodes is) written
