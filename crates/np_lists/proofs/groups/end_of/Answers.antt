-- the members of later groups come last, so a search counts the others
use Rattle.np_lists.proofs.Prelude.{is_group_before, is_member_before, not}
use Rattle.np_lists.proofs.Members.{down-high}
use Rattle.np_lists.proofs.Searches.{IsSplit-rises}
use Rattle.np_lists.proofs.groups.end_of.Goals as goal

pub place-requires : goal.place-requires
place-requires g c = record {
  split = IsSplit-rises (is_member_before g.O.Order.before) (λ m. not (is_group_before c.args.group m.group)) (down-high g.O.Order.before c.args.group) c.args.members.now.items c.requires;
}
