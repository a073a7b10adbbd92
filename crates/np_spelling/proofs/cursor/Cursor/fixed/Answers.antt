use Rattle.np_spelling.proofs.Prelude.{ap, sym, ◌∙◌}
use Rattle.np_spelling.proofs.Readers.{fixed_other}
use Rattle.np_spelling.proofs.cursor.Cursor.fixed.Goals as goal

pub returns-in_err-value : goal.returns-in_err-value
returns-in_err-value c =
    sym c.loop-limit.invariant
    ∙ fixed_other c.args.limits.now c.loop-limit.self c.digit.new.self c.loop-limit.value c.loop-limit.limit-index c.loop-limit-test.true c.in_err-value.ensures
    ∙ ap (λ o. (o, c.digit.new.self)) (sym c.from_residual.ensures)
