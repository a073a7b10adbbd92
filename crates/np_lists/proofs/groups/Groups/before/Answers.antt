use Rattle.np_lists.proofs.Prelude.{ap, arith, ids_in, prefix_len, ◌∙◌}
use Rattle.np_lists.proofs.Searches.{count-before, length-before}
use Rattle.np_lists.proofs.groups.Groups.before.Goals as goal

pub overflow_sub-result : goal.overflow_sub-result
overflow_sub-result g c = rw (c.start_of.ensures, c.split_of.ensures.count) (omega (arith, count-before g.O.Order.before c.args.group c.args.id c.self.inside.rows.items c.self.invariant))

pub returns : goal.returns
returns g c =
    rw (c.start_of.ensures, c.split_of.ensures.count) (length-before g.O.Order.before c.args.group c.args.id c.self.inside.rows.items c.self.invariant)
    ∙ ap (λ known. prefix_len (λ k. g.O.Order.before k c.args.id) (ids_in c.args.group known.members)) c.self.view_is
