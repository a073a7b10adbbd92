use Rattle.np_listing.proofs.Prelude.{drop, map, take, ◌++◌, ◌≡◌}
use Rattle.np_listing.proofs.notes.note_all.Given as goal

abbrev pub invariant-loop-row : goal.invariant-loop-row
invariant-loop-row g l = l.row-items ≡ map (g.T.Noted.noted (g.L.Look.site l.look) (g.L.Look.state l.look) l.entry) (take l.row-index l.initial.row-items) ++ drop l.row-index l.initial.row-items
