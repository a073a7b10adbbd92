use Rattle.np_look.proofs.Prelude.{Asked, ap, blocking, false, new_record, refl, sym, true, ◌∙◌}
use Rattle.np_look.proofs.Looks.{candidate_at}
use Rattle.np_look.proofs.scan.ScanLook.first_of.Goals as goal

pub loop-at-preserved-then-not-is_better : goal.loop-at-preserved-then-not-is_better
loop-at-preserved-then-not-is_better g c =
    candidate_at (g.R.Rows.site c.args.self.now.rows.now) (g.R.Rows.state c.args.self.now.rows.now) c.args.pool (g.R.Rows.state c.args.self.now.rows.now).requests c.loop-at.at c.in-Some.view c.loop-at.best (sym c.in-Some.ensures) c.loop-at.invariant _ refl false _ (sym c.if-not-is_better.ensures) refl

pub loop-at-preserved-then-is_some : goal.loop-at-preserved-then-is_some
loop-at-preserved-then-is_some g c =
    candidate_at (g.R.Rows.site c.args.self.now.rows.now) (g.R.Rows.state c.args.self.now.rows.now) c.args.pool (g.R.Rows.state c.args.self.now.rows.now).requests c.loop-at.at c.in-Some.view c.loop-at.best (sym c.in-Some.ensures) c.loop-at.invariant _ (c.blocking.ensures ∙ ap (λ (a : Asked). blocking (g.R.Rows.site c.args.self.now.rows.now) (g.R.Rows.state c.args.self.now.rows.now) c.args.pool (new_record a)) c.asked_of.ensures) true true (sym c.if-not-is_better.ensures) (sym c.if-is_some.ensures)

pub loop-at-preserved : goal.loop-at-preserved
loop-at-preserved g c =
    candidate_at (g.R.Rows.site c.args.self.now.rows.now) (g.R.Rows.state c.args.self.now.rows.now) c.args.pool (g.R.Rows.state c.args.self.now.rows.now).requests c.loop-at.at c.in-Some.view c.loop-at.best (sym c.in-Some.ensures) c.loop-at.invariant _ (c.blocking.ensures ∙ ap (λ (a : Asked). blocking (g.R.Rows.site c.args.self.now.rows.now) (g.R.Rows.state c.args.self.now.rows.now) c.args.pool (new_record a)) c.asked_of.ensures) true false (sym c.if-not-is_better.ensures) (sym c.if-is_some.ensures)
