use Rattle.np_active.proofs.Prelude.{IsBest, arith, subst}
use Rattle.np_active.proofs.Searches.{best-first, best-next, lines-fall}
use Rattle.np_active.proofs.begin.earliest.Goals as goal

pub loop-next-init : goal.loop-next-init
loop-next-init g c rises = best-first (g.R.Rows.site c.args.rows.now) (g.R.Rows.state c.args.rows.now) c.args.jobs.now.members c.args.lines rises c.args.old c.first_line-next.result c.first_line-next.ensures

pub loop-next-smaller : goal.loop-next-smaller
loop-next-smaller g c =
    lines-fall c.args.lines c.in-Some.line c.line_after-next.result c.loop-next.next c.args.jobs.now.members c.in-Some.is c.line_after-next.ensures (omega arith)

pub loop-next-preserved : goal.loop-next-preserved
loop-next-preserved g c rises =
    best-next (g.R.Rows.site c.args.rows.now) (g.R.Rows.state c.args.rows.now) c.args.jobs.now.members c.args.lines rises c.in-Some.line c.line_after-next.result c.line_after-next.ensures c.args.old c.loop-next.best
    (subst (λ next. IsBest (g.R.Rows.site c.args.rows.now) (g.R.Rows.state c.args.rows.now) c.args.jobs.now.members c.args.lines c.args.old next c.loop-next.best) c.in-Some.is (c.loop-next.invariant rises))
    c.earlier_in_line-best.result c.earlier_in_line-best.ensures

pub returns : goal.returns
returns g c rises =
    subst (λ next. IsBest (g.R.Rows.site c.args.rows.now) (g.R.Rows.state c.args.rows.now) c.args.jobs.now.members c.args.lines c.args.old next c.loop-next.best) c.in_default.is (c.loop-next.invariant rises)
