use Rattle.np_tables.proofs.Prelude.{arith, sym}
use Rattle.np_tables.proofs.TableLemmas.{slice_set-past}
use Rattle.np_tables.proofs.settle.put_job.Goals as goal

pub returns-then-at-len : goal.returns-then-at-len
returns-then-at-len c = sym (slice_set-past c.args.jobs.now.items c.args.job.0 c.args.kept.now (omega (arith, c.len.ensures)))
