use Rattle.np_listing.proofs.Prelude.{replicate, ◌++◌, ◌≡◌}
use Rattle.np_listing.proofs.columns.put_spaces.Given as goal

abbrev pub invariant-loop-at : goal.invariant-loop-at
invariant-loop-at l = l.out.items ≡ l.fn.out.items ++ replicate l._at 32
