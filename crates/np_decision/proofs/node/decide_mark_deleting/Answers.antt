use Rattle.np_decision.proofs.Prelude.{Some, arith, found-is, node_in, ◌≡◌}
use Rattle.np_decision.proofs.Room.{since-fits}
use Rattle.np_decision.proofs.node.decide_mark_deleting.Goals as goal

pub may_delete-requires-clause-since : goal.may_delete-requires-clause-since
may_delete-requires-clause-since g c =
    let has : node_in c.args.node (g.L.Look.state c.args.look.now).nodes ≡ Some c.in_ok-kept.kept = rw (← c.rows-rows.ensures.state) (found-is _ _ _ c.in_ok-kept.ensures) in
    omega (arith, since-fits _ _ c.args.node c.in_ok-kept.kept c.requires has, c.requires.tick)
