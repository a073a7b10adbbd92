use Rattle.np_tree_rows.proofs.Prelude.{◌∙◌}
use Rattle.np_tree_rows.proofs.NodeReads.{node-kept, node-unviewed, node-viewed}
use Rattle.np_tree_rows.proofs.node_table.node_view.Goals as goal

pub returns-in_err-id : goal.returns-in_err-id
returns-in_err-id c config s stored = c.from_residual.ensures ∙ node-unviewed config s c.args.tree.now stored c.args.at (c.in_err-id.ensures config s stored)

pub returns-in_err-kept : goal.returns-in_err-kept
returns-in_err-kept c config s stored = c.from_residual-in_err-kept.ensures ∙ node-kept config s c.args.tree.now stored c.args.at c.in_ok-id.id (c.in_ok-id.ensures config s stored) (c.in_err-kept.ensures config s stored)

pub returns : goal.returns
returns c config s stored =
    node-viewed config s c.args.tree.now stored c.args.at c.in_ok-id.id c.in_ok-kept.kept c.node_queue-holder.result
    (c.in_ok-id.ensures config s stored) (c.in_ok-kept.ensures config s stored) (c.node_queue-holder.ensures config s stored)
