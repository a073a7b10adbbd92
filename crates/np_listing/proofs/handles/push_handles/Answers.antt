use Rattle.np_listing.proofs.Prelude.{Configuration, JobId, SemId, Some, ap, handle_row, handle_rows_of, handles_of, option_map, slice_get, sym, ◌++◌, ◌∙◌, ◌≡◌}
use Rattle.np_listing.proofs.Walks.{put}
use Rattle.np_listing.proofs.handles.push_handles.Goals as goal

pub loop-at-preserved : goal.loop-at-preserved
loop-at-preserved g c =
    let site = g.R.Rows.site c.args.rows.now in
    let state = g.R.Rows.state c.args.rows.now in
    let semaphore : SemId = record { 0 = c.args.number } in
    let jobs = handles_of semaphore state.handles in
    let there : slice_get jobs c.loop-at.at ≡ Some c.in-Some.job = sym c.in-Some.ensures in
    let made : c.in_ok-handle_row.field-0 ≡ handle_row site semaphore c.in-Some.job =
    c.in_ok-handle_row.ensures ∙ ap (λ (config : Configuration). handle_row config semaphore c.in-Some.job) c.config.ensures in
    put (λ (j : JobId). j) (handle_row site semaphore) jobs c.loop-at.at c.in-Some.job c.in_ok-handle_row.field-0 c.loop-at.table.items c.push.new.self.items
    (c.args.table.now.items ++ handle_rows_of site state c.args.number) (ap (option_map (λ (j : JobId). j)) there) made c.in_ok-push.ensures.items c.loop-at.invariant
