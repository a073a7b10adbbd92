use Rattle.np_path.proofs.Prelude.{ap, arith, subst, sym, take, take-take, ℕ, ◌-◌, ◌∙◌}
use Rattle.np_path.proofs.PartsLemmas.{AfterLast, AfterLast-passed, IsPassed, before_last-last, name_of-last, none_passed}
use Rattle.np_path.proofs.path.halves.Goals.{then-loop-at-test+else-text-at-ne47, else-loop-at-test}
use Rattle.np_path.proofs.path.halves.Goals as goal

pub returns-then-at-eq0-clause-none : goal.returns-then-at-eq0-clause-none
returns-then-at-eq0-clause-none c =
    let none = none_passed c.args.text.now (subst (λ (n : ℕ). IsPassed c.args.text.now n) c.if-at-eq0.true c.loop-at.invariant) in
    (λ is. absurd (cc), λ is. sym none ∙ is)

pub returns-clause-before : goal.returns-clause-before
returns-clause-before c =
    let last : AfterLast c.args.text.now c.loop-at.at = elim c.loop-at-test.branch [
      | then-loop-at-test+else-text-at-ne47 w ↦ AfterLast-passed c.args.text.now c.loop-at.at c.loop-at.invariant (omega arith) w.if-text-at-ne47.false
      | else-loop-at-test w ↦ absurd (omega arith)
    ] in
    ap (take (c.loop-at.at - 1)) c.split_at.ensures.front ∙ take-take (c.loop-at.at - 1) c.loop-at.at c.args.text.now (omega arith) ∙ sym (before_last-last _ _ last)

pub returns-clause-name : goal.returns-clause-name
returns-clause-name c =
    let last : AfterLast c.args.text.now c.loop-at.at = elim c.loop-at-test.branch [
      | then-loop-at-test+else-text-at-ne47 w ↦ AfterLast-passed c.args.text.now c.loop-at.at c.loop-at.invariant (omega arith) w.if-text-at-ne47.false
      | else-loop-at-test w ↦ absurd (omega arith)
    ] in
    c.split_at.ensures.back ∙ sym (name_of-last _ _ last)
