use Rattle.np_tree_rows.proofs.Prelude.{◌∙◌}
use Rattle.np_tree_rows.proofs.Stored.{sessions-counted}
use Rattle.np_tree_rows.proofs.session_table.sessions.Goals as goal

pub returns : goal.returns
returns c config s stored = c.count_at.ensures ∙ sessions-counted config s c.args.tree.now stored
