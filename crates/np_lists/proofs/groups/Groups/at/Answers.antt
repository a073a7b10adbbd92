use Rattle.np_lists.proofs.Prelude.{None, ap, arith, ids_in, is_group_before, prefix_len-le-length, slice_get, slice_get_past, sym, ◌+◌, ◌∙◌}
use Rattle.np_lists.proofs.Searches.{id-there}
use Rattle.np_lists.proofs.groups.Groups.at.Goals as goal

pub overflow_sub-len : goal.overflow_sub-len
overflow_sub-len g c = rw (c.start_of-start.ensures, c.len.ensures) (prefix_len-le-length (λ m. is_group_before m.group c.args.group) c.self.inside.rows.items)

pub returns-then-len-start : goal.returns-then-len-start
returns-then-len-start g c =
    let most = c.len.ensures in
    id-there g.O.Order.before c.args.group c.self.inside.rows.items c.self.invariant c.start_of-start.result c.args.at c.start_of-start.ensures
    None (sym (slice_get_past c.self.inside.rows.items (c.start_of-start.result + c.args.at) (omega arith)))
    ∙ ap (λ known. slice_get (ids_in c.args.group known.members) c.args.at) c.self.view_is

pub returns : goal.returns
returns g c =
    c.id_if.ensures
    ∙ id-there g.O.Order.before c.args.group c.self.inside.rows.items c.self.invariant c.start_of-start.result c.args.at c.start_of-start.ensures
    c.at.result c.at.ensures
    ∙ ap (λ known. slice_get (ids_in c.args.group known.members) c.args.at) c.self.view_is
