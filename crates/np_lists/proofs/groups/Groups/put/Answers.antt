use Rattle.np_lists.proofs.Prelude.{ap, is_member_before, member, same_member, sym, with_member, ◌∙◌}
use Rattle.np_lists.proofs.Changes.{Rises-insert, insert_before-at}
use Rattle.np_lists.proofs.Members.{member-one_way, member-some_way, member-transitive}
use Rattle.np_lists.proofs.Searches.{member-new, member-there}
use Rattle.np_lists.proofs.groups.Groups.put.Goals as goal

pub returns-then-is_at-clause-members : goal.returns-then-is_at-clause-members
returns-then-is_at-clause-members g c =
    ap (λ known. known.members) (sym c.self.view_is)
    ∙ member-there g.O.Order.before g.O.Order.same c.args.group c.args.id c.self.inside.rows.items c.split_of-at.result c.if-is_at.ensures.yes
    ∙ ap (λ known. with_member g.O.Order.before g.O.Order.same c.args.group c.args.id known.members) c.self.view_is

pub invariant_of-self : goal.invariant_of-self
invariant_of-self g c =
    rw c.insert.ensures.items (
    Rises-insert (is_member_before g.O.Order.before) (same_member g.O.Order.same) (member-transitive g.O.Order.before g.met.O.Order.transitive)
    (member-one_way g.O.Order.before g.met.O.Order.one_way) (member-some_way g.O.Order.before g.O.Order.same g.met.O.Order.some_way)
    (member c.args.group c.args.id) c.self.inside.rows.items c.split_of-at.result c.split_of-at.ensures.within c.split_of-at.ensures.point c.if-is_at.ensures.no c.self.invariant)

pub returns-clause-members : goal.returns-clause-members
returns-clause-members g c =
    c.insert.ensures.items
    ∙ sym (insert_before-at (is_member_before g.O.Order.before) (same_member g.O.Order.same) (member-transitive g.O.Order.before g.met.O.Order.transitive)
    (member-one_way g.O.Order.before g.met.O.Order.one_way) (member-some_way g.O.Order.before g.O.Order.same g.met.O.Order.some_way)
    (member c.args.group c.args.id) c.self.inside.rows.items c.split_of-at.result c.split_of-at.ensures.within c.split_of-at.ensures.point c.if-is_at.ensures.no)
    ∙ sym (member-new g.O.Order.before g.O.Order.same c.args.group c.args.id c.self.inside.rows.items c.if-is_at.ensures.no)
    ∙ ap (λ known. with_member g.O.Order.before g.O.Order.same c.args.group c.args.id known.members) c.self.view_is
