use Rattle.np_lookups.proofs.Prelude.{JobId, List, Member, Past, Rank, ap, subst, ◌∙◌}
use Rattle.np_lookups.proofs.Members.{Moves, open-noted}
use Rattle.np_lookups.proofs.requests.Open.note.Goals as goal

pub returns : goal.returns
returns g c site s ch reached prepared same_site after was =
    let now = g.R.Rows.site c.args.rows.now in
    let state = g.R.Rows.state c.args.rows.now in
    open-noted site now s state ch c.args.moved.now c.args.self.now _ (ap (λ kept. kept.lines) c.self.view_is)
    (subst (λ (ms : List (Member Rank)). Moves c.args.self.now.lines c.args.moved.now ms c.move_all.new.groups.members now state) (ap (λ kept. kept.members) c.self.view_is)
    (subst (λ (moved : List Past). Moves c.args.self.now.lines moved c.self.inside.groups.members c.move_all.new.groups.members now state) (c.as_slice-2.ensures.value ∙ c.moved.view_is)
    (subst (λ (lines : List JobId). Moves lines c.as_slice-2.result.now c.self.inside.groups.members c.move_all.new.groups.members now state)
    (c.as_slice.ensures.value ∙ ap (λ kept. kept.lines) c.self.view_is) c.move_all.ensures)))
    reached prepared same_site after was
