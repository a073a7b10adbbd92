use Rattle.np_useful.proofs.Prelude.{None, below_more, passing, sym, ◌∙◌, ◌≡◌}
use Rattle.np_useful.proofs.Useful.{none-is}
use Rattle.np_useful.proofs.first.first_that_passes.Goals as goal

pub loop-at-preserved : goal.loop-at-preserved
loop-at-preserved g c =
    below_more (λ k. passing (g.L.Look.site c.args.look.now) (g.L.Look.state c.args.look.now) (g.R.RoleRows.role c.args.rows.now) (g.C.Candidates.candidate c.args.candidates.now (g.L.Look.site c.args.look.now) (g.L.Look.state c.args.look.now) k) ≡ None) c.loop-at.at c.loop-at.invariant (rw (← c.candidate.ensures) (sym c.passing-found.ensures ∙ none-is c.passing-found.result c.if-is_some.ensures))
