use Rattle.np_active.proofs.Prelude.{AreGivenGroups, subst, sym}
use Rattle.np_active.proofs.KindLemmas.{leaves-by}
use Rattle.np_active.proofs.given.Given.node_to_leave.Goals as goal

pub returns : goal.returns
returns c config s is queued =
    let are = subst (λ given. AreGivenGroups config s given.members) (sym c.self.view_is) is in
    leaves-by config s _ are c.args.requester c.args.session _ _ c.args.at _ c.locked_group-locked.ensures queued (c.outside_list_at.ensures are.rises)
