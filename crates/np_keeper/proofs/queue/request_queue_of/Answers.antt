use Rattle.np_keeper.proofs.Prelude.{arith, slice_get_within, sym, ◌∙◌}
use Rattle.np_keeper.proofs.Queued.{copied_next, request_queue-fits, take_past}
use Rattle.np_keeper.proofs.queue.request_queue_of.Goals as goal

pub overflow_add-at : goal.overflow_add-at
overflow_add-at g c =
    omega (arith, c.loop-session.invariant.within, request_queue-fits (g.R.Rows.site c.args.rows.now) (g.R.Rows.state c.args.rows.now) c.args.request c.requires)

pub loop-session-smaller : goal.loop-session-smaller
loop-session-smaller g c = omega (arith, slice_get_within _ c.loop-session.at c.in-Some.session (sym c.in-Some.ensures))

pub loop-session-preserved : goal.loop-session-preserved
loop-session-preserved g c = record {
  within = omega (arith, slice_get_within _ c.loop-session.at c.in-Some.session (sym c.in-Some.ensures));
  copied = copied_next _ _ _ c.loop-session.at c.in-Some.session c.in-Some.ensures c.loop-session.invariant.copied c.in_ok-push.ensures.ok;
}

pub returns : goal.returns
returns g c = c.loop-session.invariant.copied ∙ take_past _ c.loop-session.at c.in_default.ensures
