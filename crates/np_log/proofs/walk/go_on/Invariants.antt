use Rattle.np_log.proofs.Prelude.{IsNear, go_on, length, walk_view, ◌≡◌}
use Rattle.np_log.proofs.walk.go_on.Given as goal

-- the walk from here ends as the whole walk does
abbrev pub invariant-records : goal.invariant-records
invariant-records l = record {
  same : go_on (walk_view l.fn.start) l.fn.bytes ≡ go_on (walk_view l.walk) l.rest;
  near : IsNear (walk_view l.walk);
}

abbrev pub decreases-records : goal.decreases-records
decreases-records l = length l.rest
