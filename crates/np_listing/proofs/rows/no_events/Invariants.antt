use Rattle.np_listing.proofs.Prelude.{kind_count, map, range_with_len, [], ◌≡◌}
use Rattle.np_listing.proofs.rows.no_events.Given as goal

abbrev pub invariant-loop-kind : goal.invariant-loop-kind
invariant-loop-kind l = l.rows.items ≡ map (kind_count []) (range_with_len 0 l.kind)
