use Rattle.np_tree_rows.proofs.Prelude.{◌∙◌}
use Rattle.np_tree_rows.proofs.NodeReads.{node-named, node-unnamed, spelled-none, spelled-some}
use Rattle.np_tree_rows.proofs.node_table.node_at.Goals as goal

pub returns-in_err-name : goal.returns-in_err-name
returns-in_err-name c config s stored = c.from_residual.ensures ∙ node-unnamed config s c.args.tree.now stored c.args.at c.in_err-name.ensures

pub returns-in_err-number : goal.returns-in_err-number
returns-in_err-number c config s stored = c.from_residual-in_err-number.ensures ∙ spelled-none c.in_ok-name.name.now _ (node-named config s c.args.tree.now stored c.args.at c.in_ok-name.name.now c.in_ok-name.ensures) c.in_err-number.ensures

pub returns : goal.returns
returns c config s stored = spelled-some c.in_ok-name.name.now _ c.in_ok-number.number (node-named config s c.args.tree.now stored c.args.at c.in_ok-name.name.now c.in_ok-name.ensures) c.in_ok-number.ensures
