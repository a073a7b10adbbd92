use Rattle.np_useful.proofs.Prelude.{drop, filter, length, same_role, slice_get, ◌-◌, ◌≡◌, ◌≤◌}
use Rattle.np_useful.proofs.session.fault_of.Given as goal

abbrev pub invariant-loop-fault : goal.invariant-loop-fault
invariant-loop-fault l = record {
  within : l.at ≤ length l.config.faults;
  rest : slice_get (filter (λ f. same_role f.role l.role) (drop l.at l.config.faults)) l.left ≡ slice_get (filter (λ f. same_role f.role l.role) l.config.faults) l.place;
}

abbrev pub decreases-loop-fault : goal.decreases-loop-fault
decreases-loop-fault l = length l.config.faults - l.at
