use Rattle.np_check.proofs.Prelude.{OfferTooLarge, drop, filter, flat_map, is_true, [], ◌++◌, ◌∷◌, ◌≡◌}
use Rattle.np_check.proofs.find.add_each.Given as goal

abbrev pub invariant-loop-offer : goal.invariant-loop-offer
invariant-loop-offer l =
    l.out.items ++ flat_map (λ o. filter (is_true l.config) (OfferTooLarge l.pool o.label ∷ [])) (drop l.offer-index l.offers)
    ≡ l.fn.out.items ++ flat_map (λ o. filter (is_true l.config) (OfferTooLarge l.pool o.label ∷ [])) l.offers
