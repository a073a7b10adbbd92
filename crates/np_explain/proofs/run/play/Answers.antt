use Rattle.np_explain.proofs.Goes.{GoesOn-none, GoesOn-join}
use Rattle.np_explain.proofs.run.play.Goals as goal

pub loop-event-init : goal.loop-event-init
loop-event-init g c = record { played = c.requires.played; goes_on = GoesOn-none c.args.run.now.machine }

pub loop-event-preserved : goal.loop-event-preserved
loop-event-preserved g c = record {
  played = c.in_ok-step.ensures.played;
  goes_on = GoesOn-join _ _ _ _ _ c.loop-event.invariant.goes_on c.in_ok-step.ensures.goes_on;
}
