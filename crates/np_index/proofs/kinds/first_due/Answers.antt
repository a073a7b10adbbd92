use Rattle.np_index.proofs.Prelude.{◌∙◌}
use Rattle.np_index.proofs.Nodes.{due-none, due-some}
use Rattle.np_index.proofs.kinds.first_due.Goals as goal

pub returns-in_err-due : goal.returns-in_err-due
returns-in_err-due c site state are =
    c.from_residual.ensures
    ∙ due-none site state c.args.classes.now are c.args.pool c.args.kind c.unheld_group-first.result c.unheld_group-first.ensures c.node_group_from.result c.node_group_from.ensures
    c.third_if.result c.third_if.ensures c.in_err-due.was

pub returns : goal.returns
returns c site state are =
    due-some site state c.args.classes.now are c.args.pool c.args.kind c.unheld_group-first.result c.unheld_group-first.ensures c.node_group_from.result c.node_group_from.ensures
    c.third_if.result c.third_if.ensures c.in_ok-due.due c.in_ok-due.was c.unheld_group.result c.unheld_group.ensures c.node_at.result c.node_at.ensures
