use Rattle.np_index.proofs.Prelude.{Amount, IsFew, subst, sym, ◌∙◌}
use Rattle.np_index.proofs.AmountLemmas.{awaited-few}
use Rattle.np_index.proofs.tenant.awaited_by.Goals as goal

pub returns-clause-awaited : goal.returns-clause-awaited
returns-clause-awaited g c = c.of.ensures ∙ c.requires.awaited.each c.args.tenant

pub returns-clause-few : goal.returns-clause-few
returns-clause-few g c =
    subst (λ (a : Amount). IsFew a 8388608) (sym (c.of.ensures ∙ c.requires.awaited.each c.args.tenant))
    (awaited-few (g.R.Rows.site c.args.rows.now) (g.R.Rows.state c.args.rows.now) c.requires.fits c.args.tenant)
