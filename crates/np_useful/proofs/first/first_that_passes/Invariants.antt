use Rattle.np_useful.proofs.Prelude.{None, passing, ℕ, ◌<◌, ◌≡◌}
use Rattle.np_useful.proofs.first.first_that_passes.Given as goal

abbrev pub invariant-loop-at : goal.invariant-loop-at
invariant-loop-at g l =
    (k : ℕ) → k < l.at → passing (g.L.Look.site l.look) (g.L.Look.state l.look) (g.R.RoleRows.role l.rows) (g.C.Candidates.candidate l.candidates (g.L.Look.site l.look) (g.L.Look.state l.look) k) ≡ None
