use Rattle.np_tables.proofs.Prelude.{sym, ◌∙◌}
use Rattle.np_tables.proofs.TableLemmas.{fewer, without_handle-first, without_handle-none}
use Rattle.np_tables.proofs.handles.drop_job.Goals as goal

pub loop-job-preserved : goal.loop-job-preserved
loop-job-preserved c = rw c.remove.ensures (without_handle-first c.args.job c.loop-job.jobs.rows ∙ c.loop-job.invariant)

pub loop-job-smaller : goal.loop-job-smaller
loop-job-smaller c = rw c.remove.ensures (fewer c.args.job c.loop-job.jobs.rows (sym c.has.ensures ∙ c.loop-job-test.true))

pub returns : goal.returns
returns c = sym (without_handle-none c.args.job c.loop-job.jobs.rows (sym c.has.ensures ∙ c.loop-job-test.false)) ∙ c.loop-job.invariant
