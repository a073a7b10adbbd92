use Rattle.np_listing.proofs.Prelude.{drop, flat_map, ◌++◌, ◌≡◌}
use Rattle.np_listing.proofs.row.put_each.Given as goal

abbrev pub invariant-loop-told : goal.invariant-loop-told
invariant-loop-told g l = l.out.items ++ flat_map (λ told. l.gap ++ g.T.Told.words l.config told) (drop l.told-index l.each) ≡ l.fn.out.items ++ flat_map (λ told. l.gap ++ g.T.Told.words l.config told) l.each
