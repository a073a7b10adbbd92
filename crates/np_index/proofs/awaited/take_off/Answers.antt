use Rattle.np_index.proofs.Prelude.{Amount, Option, Rest, ap, arith, change_at-past, minus, sym, without_rest, ◌∙◌}
use Rattle.np_index.proofs.AmountLemmas.{set-changed}
use Rattle.np_index.proofs.awaited.take_off.Goals as goal

pub returns-then-at-len : goal.returns-then-at-len
returns-then-at-len c =
    let amounts = c.args.amounts.now.items in
    sym (ap (λ (o : Option Rest). without_rest o amounts) c.in-Some.is
    ∙ change_at-past c.in-Some.rest.tenant.0 (λ (a : Amount). minus a c.in-Some.rest.amount) amounts (omega (arith, c.len.ensures)))

pub returns : goal.returns
returns c =
    let amounts = c.args.amounts.now.items in
    set-changed c.in-Some.rest.tenant.0 amounts c.index.result.now (omega (arith, c.len.ensures)) c.index.ensures (λ (a : Amount). minus a c.in-Some.rest.amount) c.less.result c.less.ensures
    ∙ sym (ap (λ (o : Option Rest). without_rest o amounts) c.in-Some.is)
