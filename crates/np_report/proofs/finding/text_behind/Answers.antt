use Rattle.np_report.proofs.Prelude.{ap, later_lines, leading_events, ◌∙◌}
use Rattle.np_report.proofs.PlayedLemmas.{playable-read}
use Rattle.np_report.proofs.finding.text_behind.Goals as goal

pub text_of_script-requires : goal.text_of_script-requires
text_of_script-requires c =
    playable-read c.args.config (later_lines c.args.rest.now) c.in_ok-events.events c.requires (c.in_ok-events.ensures ∙ ap leading_events c.split_line.ensures.later)
