use Rattle.np_active.proofs.Prelude.{arith, node_queue, sym}
use Rattle.np_active.proofs.KindLemmas.{list-next}
use Rattle.np_active.proofs.past_given.list_sessions.Goals as goal

pub loop-at-preserved : goal.loop-at-preserved
loop-at-preserved g c = record {
  items =
      list-next c.args.requester (node_queue c.args.node (g.R.Rows.state c.args.rows.now).nodes) c.loop-at.at c.in-Some.session _ _ _ _
      (sym c.in-Some.ensures) c.locked_group.ensures c.loop-at.invariant.items c.in_ok-push.ensures.items;
  len = omega arith;
  capacity = omega arith;
}
