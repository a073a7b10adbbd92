use Rattle.np_steps.proofs.Prelude.{List, Op, ap, grown_parts, is_numbered, list_all, settled_parts, ◌++◌, ◌∙◌}
use Rattle.np_steps.proofs.ReadyTables.{parts-numbered}
use Rattle.np_steps.proofs.call.parts.Goals as goal

pub returns-clause-numbered : goal.returns-clause-numbered
returns-clause-numbered g c =
    let configuration = g.R.Rows.site c.args.rows.now in
    let changes = c.args.changes.now in
    let t = c.args.tree.now in
    let s = g.R.Rows.state c.args.rows.now in
    let all =
    c.in_ok-push_settled.ensures
    ∙ ap (λ (parts : List Op). parts ++ settled_parts configuration changes s t)
    (c.in_ok-push_growth.ensures ∙ ap (λ (parts : List Op). parts ++ grown_parts configuration changes.maker changes.grows s) c.new-ops.ensures.items) in
    ap (list_all is_numbered) all ∙ parts-numbered configuration changes s t
