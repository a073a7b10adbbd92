use Rattle.np_active.proofs.Prelude.{ap, ◌∙◌}
use Rattle.np_active.proofs.Changes.{given-noted}
use Rattle.np_active.proofs.given.Given.note.Goals as goal

pub returns : goal.returns
returns g c site s ch reached planned prepared same_site after was =
    given-noted site (g.R.Rows.site c.args.rows.now) s (g.R.Rows.state c.args.rows.now) ch c.args.prepared.now c.args.self.now.members _ _ _ _
    (ap (λ (x : _). x.members) c.self.view_is) (c.as_slice-moved.ensures.value ∙ ap (λ (x : _). x.past) c.prepared.view_is) (ap (λ (x : _). x.most) c.prepared.view_is) c.move_nodes.ensures
    reached prepared same_site after was
