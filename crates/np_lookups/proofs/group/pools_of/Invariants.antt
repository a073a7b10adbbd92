use Rattle.np_lookups.proofs.Prelude.{length, ◌≤◌}
use Rattle.np_lookups.proofs.group.pools_of.Given as goal

abbrev pub invariant-loop-number : goal.invariant-loop-number
invariant-loop-number l = l.number ≤ length l.config.pools
