use Rattle.np_event.proofs.Prelude.{ap, find, is_headed_refusal, ◌∙◌}
use Rattle.np_event.proofs.line.refusal_form_of.Goals as goal

pub returns : goal.returns
returns c = c.copied.ensures ∙ c.headed.ensures ∙ ap (find (is_headed_refusal c.args.first.now)) c.refusal_forms.ensures
