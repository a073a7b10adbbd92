use Rattle.np_janitor.proofs.Prelude.{Janitor, NoneReleased, ℕ, ◌<◌}
use Rattle.np_janitor.proofs.janitor.first_release_of_all.Given as goal

abbrev pub invariant-loop-at : goal.invariant-loop-at
invariant-loop-at g l = (k : ℕ) → k < l.at → NoneReleased (g.L.Look.site l.look) (g.L.Look.state l.look) (Janitor l.rows.known.pool) (record { 0 = k })
