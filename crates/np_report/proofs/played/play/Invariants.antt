use Rattle.np_report.proofs.Prelude.{ran, ran_of, take, ◌≡◌}
use Rattle.np_report.proofs.played.play.Given as goal

abbrev pub invariant-loop-event : goal.invariant-loop-event
invariant-loop-event g l = record {
  first : l.machine.earlier ≡ 0;
  ran : ran_of l.machine ≡ ran l.fn.machine.configuration (take l.event-index l.events);
}
