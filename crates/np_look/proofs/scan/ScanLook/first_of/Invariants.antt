use Rattle.np_look.proofs.Prelude.{filter, is_candidate, least, option_map, request_view, take, ◌≡◌}
use Rattle.np_look.proofs.scan.ScanLook.first_of.Given as goal

abbrev pub invariant-loop-at : goal.invariant-loop-at
invariant-loop-at g l = l.best ≡ option_map request_view (least (filter (is_candidate (g.R.Rows.site l.self.rows.now) (g.R.Rows.state l.self.rows.now) l.pool) (take l.at (g.R.Rows.state l.self.rows.now).requests)))
