use Rattle.np_steps.proofs.Prelude.{Configuration, IsSound, Job, List, Op, Option, SemId, acquire_parts, ap, option_map_or, slice_get, subst, sym, [], ◌++◌, ◌∙◌}
use Rattle.np_steps.proofs.RecordRows.{acquire-job, handle_parts, on-ok}
use Rattle.np_steps.proofs.grow.push_handles.Goals as goal

pub returns-in-Some : goal.returns-in-Some
returns-in-Some g c =
    let s = g.R.Rows.state c.args.rows.now in
    let sound = subst IsSound c.config-config.ensures c.know_soundness.ensures in
    let there = c.in-Some.ensures ∙ ap (λ (site : Configuration). slice_get site.jobs c.args.job.0) c.config-config.ensures in
    on-ok c.push_each_handle.result
    (λ made. made
    ∙ ap (λ (xs : List SemId). c.args.ops.now.items ++ handle_parts c.args.job xs s.handles) c.items.ensures
    ∙ sym (ap (λ (parts : List Op). c.args.ops.now.items ++ parts) (acquire-job (g.R.Rows.site c.args.rows.now) c.args.job c.in-Some.row.now s.handles sound (sym there)))
    ∙ ap (λ (o : Option Job). c.args.ops.now.items ++ acquire_parts c.args.job (option_map_or (λ (job : Job). job.semaphores) o []) s.handles) there)
    c.push_each_handle.ensures
