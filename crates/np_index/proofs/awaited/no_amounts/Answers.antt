use Rattle.np_index.proofs.Prelude.{Amount, List, ap, arith, default_tenant, length, nothing, past-end, replicate, replicate_more, slice_get_within, suc, sym, ℕ, [], ◌++◌, ◌∙◌, ◌∷◌, ◌≡◌}
use Rattle.np_index.proofs.awaited.no_amounts.Goals as goal

pub loop-amounts-preserved : goal.loop-amounts-preserved
loop-amounts-preserved c =
    let within = slice_get_within (default_tenant ∷ c.args.config.now.tenants) c.loop-amounts.count c.in-Some.field-0.now (sym c.in-Some.ensures) in (
      omega (arith, within),
      c.in_ok-push.ensures.items
          ∙ ap (λ (amounts : List Amount). amounts ++ nothing ∷ []) c.loop-amounts.invariant.1
          ∙ replicate_more c.loop-amounts.count nothing,
    )

pub returns : goal.returns
returns c =
    let past = past-end (default_tenant ∷ c.args.config.now.tenants) c.loop-amounts.count (sym c.in_default.ensures) in
    let all : c.loop-amounts.count ≡ suc (length c.args.config.now.tenants) = omega (arith, past, c.loop-amounts.invariant.0) in
    c.loop-amounts.invariant.1 ∙ ap (λ (n : ℕ). replicate n nothing) all
