use Rattle.np_report.proofs.Prelude.{Configuration, Event, IfOk, IsPrinted, List, Running, ap, played, subst}
use Rattle.np_report.proofs.played.text_of_script.Goals as goal

pub returns : goal.returns
returns c =
    let machine = c.in_ok-machine.machine in
    subst (λ (k : Configuration). IfOk c.text_of_events.result (λ text. IsPrinted k (played k c.args.script.events) text.items)) (ap (λ (m : Running (Unit {0})). m.configuration) c.in_ok-machine.ensures)
    (subst (λ (events : List Event). IfOk c.text_of_events.result (λ text. IsPrinted machine.configuration (played machine.configuration events) text.items)) c.items.ensures c.text_of_events.ensures)
