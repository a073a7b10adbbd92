use Rattle.np_tree_rows.proofs.Prelude.{◌∙◌}
use Rattle.np_tree_rows.proofs.NodeReads.{nodes-counted}
use Rattle.np_tree_rows.proofs.node_table.nodes.Goals as goal

pub returns : goal.returns
returns c config s stored = c.count_at.ensures ∙ nodes-counted config s c.args.tree.now stored
