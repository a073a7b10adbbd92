use Rattle.np_lists.proofs.Prelude.{ap, ids_in, is_group_before, length, not, ◌∙◌}
use Rattle.np_lists.proofs.Changes.{prefix_len-le}
use Rattle.np_lists.proofs.Members.{group-between}
use Rattle.np_lists.proofs.Searches.{length-ids}
use Rattle.np_lists.proofs.groups.Groups.count.Goals as goal

pub overflow_sub-result : goal.overflow_sub-result
overflow_sub-result g c =
    rw (c.start_of.ensures, c.end_of.ensures)
    (prefix_len-le (λ m. is_group_before m.group c.args.group) (λ m. not (is_group_before c.args.group m.group)) c.self.inside.rows.items (λ m first. group-between m.group c.args.group first))

pub returns : goal.returns
returns g c =
    rw (c.start_of.ensures, c.end_of.ensures) (length-ids g.O.Order.before c.args.group c.self.inside.rows.items c.self.invariant)
    ∙ ap (λ known. length (ids_in c.args.group known.members)) c.self.view_is
