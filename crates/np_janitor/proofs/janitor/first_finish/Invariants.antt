use Rattle.np_janitor.proofs.Prelude.{NoneFinished, ℕ, ◌<◌}
use Rattle.np_janitor.proofs.janitor.first_finish.Given as goal

abbrev pub invariant-loop-at : goal.invariant-loop-at
invariant-loop-at g l = (k : ℕ) → k < l.at → NoneFinished (g.L.Look.site l.look) (g.L.Look.state l.look) l.rows.known.pool (record { 0 = k })
