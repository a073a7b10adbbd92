use Rattle.np_tree_rows.proofs.Prelude.{IsJob, arith, job_text, slice_get, ◌∙◌}
use Rattle.np_tree_rows.proofs.Shown.{read-none, read-some}
use Rattle.np_tree_rows.proofs.Stored.{job-bytes, job-sound, text-none, text-some}
use Rattle.np_tree_rows.proofs.job_table.job.Goals as goal

pub returns-in_default : goal.returns-in_default
returns-in_default c config s stored = text-none IsJob job_text (slice_get s.jobs c.args.job.0) (c.in_default.ensures ∙ job-bytes config s c.args.tree.now stored c.args.job (omega arith))

pub returns-in-Ok : goal.returns-in-Ok
returns-in-Ok c config s stored =
    read-some (slice_get s.jobs c.args.job.0) c.in-Ok.kept
    (text-some IsJob job_text (slice_get s.jobs c.args.job.0) c.in-Some.bytes.now _ (job-sound config s c.args.tree.now stored c.args.job) (c.in-Some.ensures ∙ job-bytes config s c.args.tree.now stored c.args.job (omega arith)) c.in-Ok.ensures.all)

pub returns-in-Err : goal.returns-in-Err
returns-in-Err c config s stored =
    read-none (slice_get s.jobs c.args.job.0) _
    (text-some IsJob job_text (slice_get s.jobs c.args.job.0) c.in-Some.bytes.now _ (job-sound config s c.args.tree.now stored c.args.job) (c.in-Some.ensures ∙ job-bytes config s c.args.tree.now stored c.args.job (omega arith)) c.in-Err.ensures.all)
