use Rattle.np_tree_rows.proofs.Prelude.{ap, length, sym}
use Rattle.np_tree_rows.proofs.Shown.{rows-counted, rows-none}
use Rattle.np_tree_rows.proofs.directory.children.Goals as goal

pub returns-in-Some : goal.returns-in-Some
returns-in-Some c = rows-counted c.args.tree.now c.args.dir.now c.in-Some.stat (sym c.in-Some.ensures)

pub returns-in-None : goal.returns-in-None
returns-in-None c = sym (ap length (rows-none c.args.tree.now c.args.dir.now c.changes.ensures.tree.whole (sym c.in-None.ensures)))
