use Rattle.np_config_text.proofs.Prelude.{map, placed, take, view, ◌≡◌}
use Rattle.np_config_text.proofs.value.placed_value.Given as goal

abbrev pub invariant-loop-place : goal.invariant-loop-place
invariant-loop-place g l = map view l.values.items ≡ placed (g.T.Placed.shown l.config) 0 (take l.place l.rows)
