use Rattle.np_tree_nodes.proofs.Prelude.{insert-remove, remove-insert}
use Rattle.np_tree_nodes.proofs.step.Step.make.Goals as goal

pub returns-in-Take-clause-back : goal.returns-in-Take-clause-back
returns-in-Take-clause-back g c =
    rw c.remove.ensures.rest (insert-remove c.args.items.now c.in-Take.place c.remove.result c.remove.ensures.piece)

pub returns-in-Put-clause-back : goal.returns-in-Put-clause-back
returns-in-Put-clause-back g c =
    let can = rw c.in-Put.is at c.requires in
    rw c.insert.ensures (remove-insert c.args.items.now c.in-Put.place c.in-Put.piece can.0)
