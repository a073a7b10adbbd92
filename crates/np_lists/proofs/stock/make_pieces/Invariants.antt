use Rattle.np_lists.proofs.Prelude.{length, max, ◌-◌, ◌≤◌}
use Rattle.np_lists.proofs.stock.make_pieces.Given as goal

abbrev pub invariant-loop-alloc : goal.invariant-loop-alloc
invariant-loop-alloc g l = (length l.initial.spare ≤ length l.spare) × (length l.spare ≤ max l.count (length l.initial.spare))

abbrev pub decreases-loop-alloc : goal.decreases-loop-alloc
decreases-loop-alloc g l = l.count - length l.spare
