use Rattle.np_lookups.proofs.Prelude.{JobId, List, length, replicate, [], ◌-◌, ◌≡◌, ◌≤◌}
use Rattle.np_lookups.proofs.unfinished.no_jobs.Given as goal

abbrev pub invariant-loop-lists : goal.invariant-loop-lists
invariant-loop-lists l = (l.count ≤ length l.config.requesters) × (l.lists.items ≡ replicate {A = List JobId} l.count [])

abbrev pub decreases-loop-lists : goal.decreases-loop-lists
decreases-loop-lists l = length l.config.requesters - l.count
