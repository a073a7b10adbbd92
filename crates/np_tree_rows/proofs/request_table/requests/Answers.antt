use Rattle.np_tree_rows.proofs.Prelude.{◌∙◌}
use Rattle.np_tree_rows.proofs.Shown.{requests-counted}
use Rattle.np_tree_rows.proofs.request_table.requests.Goals as goal

pub returns : goal.returns
returns c config s stored = c.count_at.ensures ∙ requests-counted config s c.args.tree.now stored
