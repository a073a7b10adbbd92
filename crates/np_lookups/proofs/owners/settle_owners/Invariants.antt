use Rattle.np_lookups.proofs.Prelude.{drop, owners_with, ◌≡◌}
use Rattle.np_lookups.proofs.owners.settle_owners.Given as goal

abbrev pub invariant-loop-marked : goal.invariant-loop-marked
invariant-loop-marked l = owners_with l.job (drop l.marked-index l.marked-items) l.owners.items ≡ owners_with l.job l.marked-items l.initial.owners.items
