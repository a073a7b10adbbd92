use Rattle.np_explain.proofs.Prelude.{GoesOn, IsPlayed}
use Rattle.np_explain.proofs.run.play.Given as goal

abbrev pub invariant-loop-event : goal.invariant-loop-event
invariant-loop-event g l = record {
  played : IsPlayed l.run.machine l.run.tally;
  goes_on : GoesOn l.fn.run.machine l.run.machine l.event-index;
}
