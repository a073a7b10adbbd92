use Rattle.np_report.proofs.Prelude.{sym, ◌∙◌}
use Rattle.np_report.proofs.PlayedLemmas.{playable-parts}
use Rattle.np_report.proofs.script.read_script.Goals as goal

pub returns-in-Ok-3-clause-playable : goal.returns-in-Ok-3-clause-playable
returns-in-Ok-3-clause-playable c =
    playable-parts c.in-Some.before.now c.in-Some.after.now c.in-Ok-2.config c.in-Ok-3.events
    (sym c.in_ok-config.ensures ∙ c.in-Ok-2.is) (sym c.in_ok-events.ensures ∙ c.in-Ok-3.is)
