use Rattle.np_steps.proofs.Prelude.{List, NodeId, OnOk, Option, RequestRecord, ap, append-nil, each_changed, freed_from, option_map_or, subst, sym, [], ◌++◌, ◌∙◌, ◌≡◌}
use Rattle.np_steps.proofs.nodes.push_freed.Goals as goal

pub returns-in_default : goal.returns-in_default
returns-in_default g c =
    let s = g.R.Rows.state c.args.rows.now in
    let none = ap (λ (o : Option RequestRecord). c.args.ops.now.items ++ each_changed (freed_from c.args.id) (option_map_or (λ (kept : RequestRecord). kept.nodes) o []) s.nodes) c.in_default.ensures in
    sym (append-nil c.args.ops.now.items) ∙ none

pub returns : goal.returns
returns g c =
    let s = g.R.Rows.state c.args.rows.now in
    let there = ap (λ (o : Option RequestRecord). option_map_or (λ (kept : RequestRecord). kept.nodes) o []) c.in-Some.ensures in
    subst (λ (numbers : List NodeId). OnOk c.push_edits.result (c.push_edits.new.ops.items ≡ c.args.ops.now.items ++ each_changed (freed_from c.args.id) numbers s.nodes)) (c.items.ensures ∙ there) c.push_edits.ensures
