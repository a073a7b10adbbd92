use Rattle.np_tables.proofs.Prelude.{no_deeds, replicate, ◌≡◌}
use Rattle.np_tables.proofs.start.idle_roles.Given as goal

abbrev pub invariant-loop-at : goal.invariant-loop-at
invariant-loop-at l = l.roles.items ≡ replicate l._at no_deeds
