use Rattle.np_index.proofs.Prelude.{Amount, IsSmall, Option, Rest, amount_at, ap, arith, change_at-past, nothing, plus, subst, sym, with_rest, ◌∙◌}
use Rattle.np_index.proofs.AmountLemmas.{found-changed, set-changed}
use Rattle.np_index.proofs.awaited.add.Goals as goal

pub returns-then-at-len : goal.returns-then-at-len
returns-then-at-len c =
    let amounts = c.args.amounts.now.items in
    λ small. sym (ap (λ (o : Option Rest). with_rest o amounts) c.in-Some.is
    ∙ change_at-past c.in-Some.rest.tenant.0 (λ (a : Amount). plus a c.in-Some.rest.amount) amounts (omega (arith, c.len.ensures)))

pub returns : goal.returns
returns c =
    let amounts = c.args.amounts.now.items in
    let rest = c.in-Some.rest in
    λ small.
    let sum_is = ap (λ (o : Option Rest). amount_at rest.tenant (with_rest o amounts)) c.in-Some.is
    ∙ found-changed rest.tenant.0 amounts c.index.result.now (omega (arith, c.len.ensures)) c.index.ensures (λ (a : Amount). plus a rest.amount) nothing in
    set-changed rest.tenant.0 amounts c.index.result.now (omega (arith, c.len.ensures)) c.index.ensures (λ (a : Amount). plus a rest.amount) c.more.result
    (c.more.ensures (subst IsSmall sum_is (small rest.tenant)))
    ∙ sym (ap (λ (o : Option Rest). with_rest o amounts) c.in-Some.is)
