use Rattle.np_lookups.proofs.Prelude.{AreAsKept, AreBy, Bool, Group, Rank, length, passes_moved, take, ◌*◌, ◌+◌, ◌-◌, ◌≤◌}
use Rattle.np_lookups.proofs.moves.move_all.Given as goal

abbrev pub invariant-loop-past : goal.invariant-loop-past
invariant-loop-past g l = record {
  members : (passes : Group → Rank → Bool) → AreAsKept (g.R.Rows.site l.rows) l.lines l.moved passes → AreBy passes l.fn.groups.members
      → AreBy (passes_moved (g.R.Rows.site l.rows) (g.R.Rows.state l.rows) l.lines (take l.past-index l.moved) passes) l.groups.members;
  room : (length l.moved - l.past-index) * (length (g.R.Rows.site l.rows).pools + 1) ≤ l.groups.room;
}
