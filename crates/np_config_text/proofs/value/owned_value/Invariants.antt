use Rattle.np_config_text.proofs.Prelude.{filter, map, take, view, ◌==◌, ◌≡◌}
use Rattle.np_config_text.proofs.value.owned_value.Given as goal

abbrev pub invariant-loop-row : goal.invariant-loop-row
invariant-loop-row g l = map view l.values.items ≡ map (g.T.Shown.shown l.config) (filter (λ r. g.T.Owned.owner r == l.owner) (take l.row-index l.rows))
