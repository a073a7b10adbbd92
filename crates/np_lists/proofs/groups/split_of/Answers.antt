-- the members before this one come first, so a search finds where they end
use Rattle.np_lists.proofs.Prelude.{is_member_before, prefix_len-le-length}
use Rattle.np_lists.proofs.Members.{member-transitive}
use Rattle.np_lists.proofs.Searches.{IsPartitionPoint-rises, IsSplit-rises}
use Rattle.np_lists.proofs.groups.split_of.Goals as goal

pub place-requires : goal.place-requires
place-requires g c =
    let before = is_member_before g.O.Order.before in
    record { split = IsSplit-rises before (λ m. before m c.args.one) (λ a b. member-transitive g.O.Order.before g.met.O.Order.transitive a b c.args.one) c.args.members.now.items c.requires }

pub returns-clause-within : goal.returns-clause-within
returns-clause-within g c = rw c.place.ensures (prefix_len-le-length (λ m. is_member_before g.O.Order.before m c.args.one) c.args.members.now.items)

pub returns-clause-point : goal.returns-clause-point
returns-clause-point g c =
    let before = is_member_before g.O.Order.before in
    rw c.place.ensures (IsPartitionPoint-rises before (λ m. before m c.args.one) (λ a b. member-transitive g.O.Order.before g.met.O.Order.transitive a b c.args.one) c.args.members.now.items c.requires)
