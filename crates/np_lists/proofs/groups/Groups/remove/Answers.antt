use Rattle.np_lists.proofs.Prelude.{ap, is_member_before, sym, without_member, ◌∙◌}
use Rattle.np_lists.proofs.Searches.{remove_first-first, remove_first-none}
use Rattle.np_lists.proofs.Changes.{Rises-remove}
use Rattle.np_lists.proofs.groups.Groups.remove.Goals as goal

pub returns-in_default-clause-members : goal.returns-in_default-clause-members
returns-in_default-clause-members g c =
    ap (λ known. known.members) (sym c.self.view_is)
    ∙ sym (remove_first-none _ c.self.inside.rows.items c.in_default.ensures.place)
    ∙ ap (λ known. without_member g.O.Order.same c.args.group c.args.id known.members) c.self.view_is

pub invariant_of-self : goal.invariant_of-self
invariant_of-self g c = rw c.remove.ensures.items (Rises-remove (is_member_before g.O.Order.before) c.self.inside.rows.items c.in-Some.at c.self.invariant)

pub returns-clause-members : goal.returns-clause-members
returns-clause-members g c =
    c.remove.ensures.items
    ∙ sym (remove_first-first _ c.self.inside.rows.items c.in-Some.at c.in-Some.ensures.place)
    ∙ ap (λ known. without_member g.O.Order.same c.args.group c.args.id known.members) c.self.view_is
