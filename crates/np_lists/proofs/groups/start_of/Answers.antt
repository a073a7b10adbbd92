-- the members of earlier groups come first, so a search counts them
use Rattle.np_lists.proofs.Prelude.{is_group_before, is_member_before}
use Rattle.np_lists.proofs.Members.{down-low}
use Rattle.np_lists.proofs.Searches.{IsSplit-rises}
use Rattle.np_lists.proofs.groups.start_of.Goals as goal

pub place-requires : goal.place-requires
place-requires g c = record {
  split = IsSplit-rises (is_member_before g.O.Order.before) (λ m. is_group_before m.group c.args.group) (down-low g.O.Order.before c.args.group) c.args.members.now.items c.requires;
}
