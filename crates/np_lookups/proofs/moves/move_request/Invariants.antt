use Rattle.np_lookups.proofs.Prelude.{AreBy, Bool, Group, IsEither, Rank, line_of, ◌+◌, ◌≤◌}
use Rattle.np_lookups.proofs.Members.{passes_so_far}
use Rattle.np_lookups.proofs.moves.move_request.Given as goal

abbrev pub invariant-loop-number : goal.invariant-loop-number
invariant-loop-number l = record {
  members : (passes : Group → Rank → Bool) → IsEither l.pools (line_of l.config l.lines) l.request l.was l.now passes → AreBy passes l.fn.groups.members
      → AreBy (passes_so_far l.pools (line_of l.config l.lines) l.request l.now l.number passes) l.groups.members;
  room : l.fn.groups.room ≤ l.groups.room + (l.number + 1);
}
