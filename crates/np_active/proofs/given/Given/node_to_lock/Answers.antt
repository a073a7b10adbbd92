use Rattle.np_active.proofs.Prelude.{AreGivenGroups, subst, sym}
use Rattle.np_active.proofs.KindLemmas.{locks-by}
use Rattle.np_active.proofs.given.Given.node_to_lock.Goals as goal

pub returns : goal.returns
returns c config s is =
    let are = subst (λ given. AreGivenGroups config s given.members) (sym c.self.view_is) is in
    locks-by config s _ are c.args.requester c.args.session _ _ _ c.given_group-given.ensures c.locked_group-locked.ensures (c.outside_at.ensures are.rises)
