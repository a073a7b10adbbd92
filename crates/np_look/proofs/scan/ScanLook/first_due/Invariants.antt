use Rattle.np_look.proofs.Prelude.{filter, is_unheld_as, node_view, option_map, soonest, take, ◌≡◌}
use Rattle.np_look.proofs.scan.ScanLook.first_due.Given as goal

abbrev pub invariant-loop-at : goal.invariant-loop-at
invariant-loop-at g l = l.best ≡ option_map node_view (soonest (g.R.Rows.site l.self.rows.now) l.kind (filter (is_unheld_as (g.R.Rows.state l.self.rows.now) l.pool l.kind) (take l.at (g.R.Rows.state l.self.rows.now).nodes)))
