use Rattle.np_decision.proofs.Prelude.{Some, arith, found-is, is_building, nat_tests, node_in, not, true, ◌&&◌, ◌≡◌}
use Rattle.np_decision.proofs.Room.{attempts-fit}
use Rattle.np_decision.proofs.node.decide_start.Goals as goal

pub overflow_add-attempts : goal.overflow_add-attempts
overflow_add-attempts g c =
    let has : node_in c.args.node (g.R.Rows.state c.args.rows.now).nodes ≡ Some c.in_ok-kept.kept = found-is _ _ _ c.in_ok-kept.ensures in
    let idle : (is_building c.in_ok-kept.kept.state && not c.in_ok-kept.kept.in_flight) ≡ true = grind (arith, nat_tests) in
    omega (arith, attempts-fit _ _ c.args.node c.in_ok-kept.kept c.requires has idle)
