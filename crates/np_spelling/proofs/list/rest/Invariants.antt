use Rattle.np_spelling.proofs.Prelude.{length, rest_in, with_front, ◌+◌, ◌-◌, ◌≡◌, ◌≤◌}
use Rattle.np_spelling.proofs.list.rest.Given as goal

abbrev pub invariant-loop-at : goal.invariant-loop-at
invariant-loop-at g l =
    (with_front l.row (rest_in g.T.Part.reads (l.room - l.at) l.cursor) ≡ with_front l.fn.row (rest_in g.T.Part.reads l.room l.fn.cursor))
    × (length l.row + (l.room - l.at) ≤ g.row.N)
