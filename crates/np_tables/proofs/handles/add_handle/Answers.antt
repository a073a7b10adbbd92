use Rattle.np_tables.proofs.Prelude.{JobId, Roomy, all-get_or, all-set, arith, has_place, length, true, with_handle, ◌<◌, ◌≡◌}
use Rattle.np_tables.proofs.TableLemmas.{rows_of-past, rows_of-set}
use Rattle.np_tables.proofs.handles.add_handle.Goals as goal

pub returns-then-at-len-clause-rows : goal.returns-then-at-len-clause-rows
returns-then-at-len-clause-rows c = rows_of-past (with_handle c.args.job) c.args.handles.now.items c.args.at (omega (arith, c.len.ensures))

pub add_job-requires : goal.add_job-requires
add_job-requires c =
    let within : c.args.at < length c.args.handles.now.items = omega (arith, c.len.ensures) in
    rw c.index_mut-jobs.ensures.value (all-get_or (λ (t : Roomy JobId). has_place c.args.job t ≡ true) c.args.handles.now.items c.args.at _ c.requires within)

pub returns-clause-rows : goal.returns-clause-rows
returns-clause-rows c =
    let within : c.args.at < length c.args.handles.now.items = omega (arith, c.len.ensures) in
    rows_of-set (with_handle c.args.job) c.args.handles.now.items c.args.at c.index_mut-jobs.result.now c.add_job.new.jobs within c.index_mut-jobs.ensures.value c.add_job.ensures.rows

pub returns-clause-place : goal.returns-clause-place
returns-clause-place c = all-set (λ (t : Roomy JobId). has_place c.args.job t ≡ true) c.args.handles.now.items c.args.at c.add_job.new.jobs c.add_job.ensures.place c.requires
