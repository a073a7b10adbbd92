use Rattle.np_look.proofs.Prelude.{false, is_sooner, is_unclaimed, is_unheld_as, is_unheld_by, node_seen, node_view, sooner, sym, true}
use Rattle.np_look.proofs.Looks.{best_at, sooner-seen, unheld-seen}
use Rattle.np_look.proofs.scan.ScanLook.first_due.Goals as goal

pub loop-at-preserved-then-not-is_sooner_unheld : goal.loop-at-preserved-then-not-is_sooner_unheld
loop-at-preserved-then-not-is_sooner_unheld g c =
    best_at (sooner (g.R.Rows.site c.args.self.now.rows.now) c.args.kind) (is_unheld_as (g.R.Rows.state c.args.self.now.rows.now) c.args.pool c.args.kind) node_view (λ v. is_unheld_by c.args.pool c.args.kind (is_unclaimed (g.R.Rows.state c.args.self.now.rows.now) v.kept) (node_seen v)) (is_sooner (g.R.Rows.site c.args.self.now.rows.now) c.args.kind) (unheld-seen (g.R.Rows.state c.args.self.now.rows.now) c.args.pool c.args.kind) (sooner-seen (g.R.Rows.site c.args.self.now.rows.now) c.args.kind) (g.R.Rows.state c.args.self.now.rows.now).nodes c.loop-at.at c.in_ok-view.view c.loop-at.best (sym c.in_ok-view.ensures) c.loop-at.invariant false cc

pub loop-at-preserved : goal.loop-at-preserved
loop-at-preserved g c =
    best_at (sooner (g.R.Rows.site c.args.self.now.rows.now) c.args.kind) (is_unheld_as (g.R.Rows.state c.args.self.now.rows.now) c.args.pool c.args.kind) node_view (λ v. is_unheld_by c.args.pool c.args.kind (is_unclaimed (g.R.Rows.state c.args.self.now.rows.now) v.kept) (node_seen v)) (is_sooner (g.R.Rows.site c.args.self.now.rows.now) c.args.kind) (unheld-seen (g.R.Rows.state c.args.self.now.rows.now) c.args.pool c.args.kind) (sooner-seen (g.R.Rows.site c.args.self.now.rows.now) c.args.kind) (g.R.Rows.state c.args.self.now.rows.now).nodes c.loop-at.at c.in_ok-view.view c.loop-at.best (sym c.in_ok-view.ensures) c.loop-at.invariant true cc
