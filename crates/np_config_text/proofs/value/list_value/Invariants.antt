use Rattle.np_config_text.proofs.Prelude.{map, take, view, ◌≡◌}
use Rattle.np_config_text.proofs.value.list_value.Given as goal

abbrev pub invariant-loop-row : goal.invariant-loop-row
invariant-loop-row g l = map view l.values.items ≡ map (g.T.Shown.shown l.config) (take l.row-index l.rows)
