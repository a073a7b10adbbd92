use Rattle.np_tree_rows.proofs.Prelude.{◌∙◌}
use Rattle.np_tree_rows.proofs.Stored.{registrations-counted}
use Rattle.np_tree_rows.proofs.session_table.registrations.Goals as goal

pub returns : goal.returns
returns c config s stored = c.count_at.ensures ∙ registrations-counted config s c.args.tree.now stored
