use Rattle.np_rules.proofs.Prelude.{Changes, Refusal, Result, Verdict, ap, changed, is_ok, judge, plan, plan-next, sym, true, ◌∙◌, ◌≡◌}
use Rattle.np_decision.specs.Verdicts.{answer_of}
use Rattle.np_rules.proofs.change.step.Goals as goal

pub returns-in_ok-change-in-Ok-clause-ok : goal.returns-in_ok-change-in-Ok-clause-ok
returns-in_ok-change-in-Ok-clause-ok g c =
    let site = c.args.tables.now.configuration in
    let state = c.args.tables.now.state in
    let accepted : is_ok (judge site state c.args.event) ≡ true = sym (ap (λ answer. is_ok answer) c.requires.answer) ∙ ap (λ (d : Result Verdict Refusal). is_ok (answer_of d)) c.in-Ok.is in
    let changes : c.in-Ok.verdict.changes ≡ plan site state c.args.event = rw c.in-Ok.is at c.requires.changes in
    c.in_ok-change-in-Ok.ensures.ok
    ∙ ap (λ (ch : Changes). changed site ch state) changes
    ∙ plan-next site state c.args.event accepted
