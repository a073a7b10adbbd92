use Rattle.np_lists.proofs.Prelude.{ap, has_member, sym, ◌∙◌}
use Rattle.np_lists.proofs.Changes.{list_any-none}
use Rattle.np_lists.proofs.Searches.{any-first}
use Rattle.np_lists.proofs.groups.Groups.has.Goals as goal

pub returns-in-Some : goal.returns-in-Some
returns-in-Some g c =
    sym (any-first _ _ _ c.in-Some.ensures.place)
    ∙ ap (λ known. has_member g.O.Order.same c.args.group c.args.id known.members) c.self.view_is

pub returns-in-None : goal.returns-in-None
returns-in-None g c =
    sym (list_any-none _ _ c.in-None.ensures.place)
    ∙ ap (λ known. has_member g.O.Order.same c.args.group c.args.id known.members) c.self.view_is
