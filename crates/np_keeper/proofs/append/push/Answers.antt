use Rattle.np_keeper.proofs.Prelude.{List, ap, insert_before, insert_before-end, none-later, ◌∙◌}
use Rattle.np_keeper.proofs.Queued.{not_there}
use Rattle.np_keeper.proofs.append.push.Goals as goal

pub insert-requires-clause-none : goal.insert-requires-clause-none
insert-requires-clause-none g c =
    rw c.in_ok-reserve.ensures.rows (not_there g.O.Order.key g.O.Order.before g.O.Order.same g.met.O.Order.one_way g.met.O.Order.equal c.args.row c.args.table.now.rows c.requires)

pub returns : goal.returns
returns g c =
    c.insert.ensures
    ∙ ap (λ (rows : List _). insert_before (λ other. g.O.Order.before (g.O.Order.key c.args.row) (g.O.Order.key other)) c.args.row rows) c.in_ok-reserve.ensures.rows
    ∙ insert_before-end _ _ _ (none-later g.O.Order.key g.O.Order.before g.O.Order.same g.met.O.Order.one_way c.args.row c.args.table.now.rows c.requires)
