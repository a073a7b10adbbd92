-- the ids of the group rise, and each of the inner group is among them
use Rattle.np_lists.proofs.Prelude.{◌∙◌}
use Rattle.np_lists.proofs.Members.{ids-has, ids-rise}
use Rattle.np_lists.proofs.ranks.outside_at.Goals as goal

pub returns : goal.returns
returns g c = λ rises inside.
    c.id_outside.ensures (record {
      members_rise = rises;
      ids_rise = ids-rise c.args.group g.O.Order.before c.args.groups.now.members rises;
      all_there = λ i member. ids-has g.O.Order.same c.args.group i c.args.groups.now.members ∙ inside i member;
    })
