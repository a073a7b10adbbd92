use Rattle.np_tree_rows.proofs.Prelude.{◌∙◌}
use Rattle.np_tree_rows.proofs.Stored.{jobs-counted}
use Rattle.np_tree_rows.proofs.job_table.jobs.Goals as goal

pub returns : goal.returns
returns c config s stored = c.count_at.ensures ∙ jobs-counted config s c.args.tree.now stored
