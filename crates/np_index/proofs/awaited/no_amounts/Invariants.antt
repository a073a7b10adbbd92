use Rattle.np_index.proofs.Prelude.{Amount, length, nothing, replicate, suc, ◌-◌, ◌≡◌, ◌≤◌}
use Rattle.np_index.proofs.awaited.no_amounts.Given as goal

abbrev pub invariant-loop-amounts : goal.invariant-loop-amounts
invariant-loop-amounts l = (l.count ≤ suc (length l.config.tenants)) × (l.amounts.items ≡ replicate {A = Amount} l.count nothing)

abbrev pub decreases-loop-amounts : goal.decreases-loop-amounts
decreases-loop-amounts l = suc (length l.config.tenants) - l.count
