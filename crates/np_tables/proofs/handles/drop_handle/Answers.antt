use Rattle.np_tables.proofs.Prelude.{arith, length, without_handle, ◌<◌}
use Rattle.np_tables.proofs.TableLemmas.{rows_of-past, rows_of-set}
use Rattle.np_tables.proofs.handles.drop_handle.Goals as goal

pub returns-then-at-len : goal.returns-then-at-len
returns-then-at-len c = rows_of-past (without_handle c.args.job) c.args.handles.now.items c.args.at (omega (arith, c.len.ensures))

pub returns : goal.returns
returns c =
    let within : c.args.at < length c.args.handles.now.items = omega (arith, c.len.ensures) in
    rows_of-set (without_handle c.args.job) c.args.handles.now.items c.args.at c.index_mut-jobs.result.now c.drop_job.new.jobs within c.index_mut-jobs.ensures.value c.drop_job.ensures
