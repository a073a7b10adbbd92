use Rattle.np_event.proofs.Prelude.{None, Some, ap, chosen, event_forms, find, is_agreed, is_headed, left_of, option_copied, sym, ◌∙◌, ◌≡◌}
use Rattle.np_event.proofs.line.event_form_of.Goals as goal

pub returns-in-Some-headed : goal.returns-in-Some-headed
returns-in-Some-headed c =
    let first = c.args.first.now in
    let rest = left_of (option_copied c.args.rest) in
    let none : find (is_agreed first rest) event_forms ≡ None = ap (find (is_agreed first rest)) (sym c.event_forms.ensures) ∙ sym c.agreed.ensures ∙ ap option_copied c.in_default.is in
    let some : find (is_headed first) event_forms ≡ Some c.in-Some-headed.form.now = ap (find (is_headed first)) (sym c.event_forms-2.ensures) ∙ sym c.headed.ensures ∙ ap option_copied c.in-Some-headed.is in
    c.undecided.ensures ∙ sym (ap (λ o. chosen rest o (find (is_headed first) event_forms)) none ∙ ap (chosen rest None) some)
