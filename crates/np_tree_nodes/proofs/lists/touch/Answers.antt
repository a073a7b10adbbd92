use Rattle.np_tree_nodes.proofs.Prelude.{length-change_at, with_swap}
use Rattle.np_tree_nodes.proofs.PlanLemmas.{with_touch-back}
use Rattle.np_tree_nodes.proofs.lists.touch.Goals as goal

pub returns-in-Some-clause-back : goal.returns-in-Some-clause-back
returns-in-Some-clause-back c =
    rw c.change.ensures.items (with_touch-back c.args.nodes.now c.in-Some.field-0.place c.in-Some.field-0.swap c.change.new.change c.change.ensures.kept)

pub returns-in-Some-clause-can : goal.returns-in-Some-clause-can
returns-in-Some-clause-can c =
    let can = rw c.in-Some.is at c.requires in
    rw (c.change.ensures.items, length-change_at c.in-Some.field-0.place (with_swap c.in-Some.field-0.swap) c.args.nodes.now) can
