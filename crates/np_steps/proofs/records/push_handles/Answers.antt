use Rattle.np_steps.proofs.Prelude.{Configuration, HandlesChange, IsSound, List, OnOk, Op, ap, handles_parts, slice_get, subst, sym, ◌++◌, ◌∙◌, ◌≡◌}
use Rattle.np_steps.proofs.RecordRows.{handles-read}
use Rattle.np_steps.proofs.records.push_handles.Goals as goal

pub returns-in-Some : goal.returns-in-Some
returns-in-Some g c =
    let s = g.R.Rows.state c.args.rows.now in
    let sound = subst IsSound c.config-config.ensures c.know_soundness.ensures in
    let there = c.in-Some.ensures ∙ ap (λ (site : Configuration). slice_get site.jobs c.in-Release.job.0) c.config-config.ensures in
    subst (λ (change : HandlesChange). OnOk c.push_releases.result (c.push_releases.new.ops.items ≡ c.args.ops.now.items ++ handles_parts (g.R.Rows.site c.args.rows.now) change s.handles)) (sym c.in-Release.is)
    (subst (λ (parts : List Op). OnOk c.push_releases.result (c.push_releases.new.ops.items ≡ c.args.ops.now.items ++ parts))
    (handles-read (g.R.Rows.site c.args.rows.now) c.in-Release.job c.in-Some.row.now c.items.result.now s.handles sound there c.items.ensures)
    c.push_releases.ensures)
