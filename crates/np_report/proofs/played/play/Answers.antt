use Rattle.np_report.proofs.Prelude.{Ran, Tick, ap, applied, applied-first, arith, get_or, length, ran_of, ◌<◌, ◌∙◌}
use Rattle.np_report.proofs.PlayedLemmas.{ran-next}
use Rattle.np_report.proofs.played.play.Goals as goal

pub loop-event-preserved : goal.loop-event-preserved
loop-event-preserved g c =
    let at = c.loop-event.event-index in
    let events = c.args.events.now in
    let within : at < length events = omega (arith, c.loop-event-test.true) in
    record {
      first = c.in_ok-apply.ensures.earlier ∙ c.loop-event.invariant.first;
      ran = c.in_ok-apply.ensures.ok
          ∙ applied-first c.loop-event.machine.earlier (ran_of c.loop-event.machine) (get_or events at Tick) c.loop-event.invariant.first
          ∙ ap (λ (m : Ran). applied m (get_or events at Tick)) c.loop-event.invariant.ran
          ∙ ran-next c.args.machine.now.configuration events at Tick within c.requires.few;
    }
