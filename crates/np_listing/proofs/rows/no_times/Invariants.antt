use Rattle.np_listing.proofs.Prelude.{map, range_with_len, semaphore_row, [], ◌≡◌}
use Rattle.np_listing.proofs.rows.no_times.Given as goal

abbrev pub invariant-loop-at : goal.invariant-loop-at
invariant-loop-at l = l.rows.items ≡ map (semaphore_row l.config []) (range_with_len 0 l.at)
