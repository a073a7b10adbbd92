use Rattle.np_check.proofs.Prelude.{is_offered, number_below, ◌≡◌, ◌≤◌}
use Rattle.np_check.proofs.ready.pools_with.Given as goal

abbrev pub invariant-loop-at : goal.invariant-loop-at
invariant-loop-at l = record {
  few : l.count ≤ l.at;
  count : l.count ≡ number_below (λ n. is_offered l.config (record { 0 = n }) l.label) l.at;
}
