use Rattle.np_steps.proofs.Prelude.{List, Row, ap, find, is_some, is_waiting, option_map, rows_at, under, ℕ, ◌∙◌}
use Rattle.np_steps.proofs.RecordRows.{found-any, mapped-some}
use Rattle.np_steps.proofs.ops.waits.Goals as goal

pub returns : goal.returns
returns c =
    let t = c.args.tree.now in
    let p = is_waiting c.args.session in
    c.is_some.ensures
    ∙ mapped-some _ c.wait_name.result
    ∙ ap is_some (c.wait_name.ensures ∙ ap (λ (q : List ℕ). option_map (λ (row : Row). row.name) (find p (rows_at t q))) (c.text.ensures ∙ c.of-path.ensures))
    ∙ found-any (λ (row : Row). row.name) p (under c.args.lock t)
