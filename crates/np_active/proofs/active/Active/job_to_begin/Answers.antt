use Rattle.np_active.proofs.Prelude.{AreActive, Group, IsBest, None, subst, sym}
use Rattle.np_active.proofs.Searches.{first-begins}
use Rattle.np_active.proofs.active.Active.job_to_begin.Goals as goal

pub returns : goal.returns
returns g c is =
    let are = subst (AreActive (g.R.Rows.site c.args.rows.now) (g.R.Rows.state c.args.rows.now)) (sym c.self.view_is) is in
    first-begins (g.R.Rows.site c.args.rows.now) (g.R.Rows.state c.args.rows.now) _ are c.args.requester c.first_prompt-first.result c.first_prompt-first.ensures c.earliest.result
    (subst (λ (lines : Group). IsBest (g.R.Rows.site c.args.rows.now) (g.R.Rows.state c.args.rows.now) c.self.inside.jobs.members lines c.first_prompt-first.result None c.earliest.result)
    c.waiting_group.ensures (c.earliest.ensures are.jobs.rises))
