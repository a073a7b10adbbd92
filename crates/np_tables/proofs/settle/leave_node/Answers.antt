use Rattle.np_tables.proofs.Prelude.{left, refl}
use Rattle.np_tables.proofs.TableLemmas.{node-queued}
use Rattle.np_tables.proofs.settle.leave_node.Goals as goal

pub returns-in-Some : goal.returns-in-Some
returns-in-Some c = rw c.in-Some.is (rw (c.edit.ensures, node-queued (left c.in-Some.maker.session) c.args.node c.args.nodes.now.rows) refl)
