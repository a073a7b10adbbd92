use Rattle.np_index.proofs.Prelude.{option_map_or, ◌-◌, ◌≡◌}
use Rattle.np_index.proofs.Requests.{first_below}
use Rattle.np_index.proofs.declined.first_of_sets.Given as goal

abbrev pub invariant-loop-next : goal.invariant-loop-next
invariant-loop-next g l = l.best ≡ first_below (g.R.Rows.state l.rows) l.next

abbrev pub decreases-loop-next : goal.decreases-loop-next
decreases-loop-next g l = option_map_or (λ set. 18446744073709551616 - set) l.next 0
