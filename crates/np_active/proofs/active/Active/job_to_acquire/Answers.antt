use Rattle.np_active.proofs.Prelude.{AreActive, Group, IsBest, None, subst, sym}
use Rattle.np_active.proofs.Searches.{first-acquires}
use Rattle.np_active.proofs.active.Active.job_to_acquire.Goals as goal

pub returns : goal.returns
returns g c is =
    let are = subst (AreActive (g.R.Rows.site c.args.rows.now) (g.R.Rows.state c.args.rows.now)) (sym c.self.view_is) is in
    first-acquires (g.R.Rows.site c.args.rows.now) (g.R.Rows.state c.args.rows.now) _ are c.args.requester c.earliest.result
    (subst (λ (lines : Group). IsBest (g.R.Rows.site c.args.rows.now) (g.R.Rows.state c.args.rows.now) c.self.inside.jobs.members lines None None c.earliest.result)
    c.lacking_group.ensures (c.earliest.ensures are.jobs.rises))
