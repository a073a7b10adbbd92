use Rattle.np_lookups.proofs.Prelude.{insert_before-end, ◌∙◌}
use Rattle.np_lookups.proofs.QueueLemmas.{none-later}
use Rattle.np_lookups.proofs.lists.push.Goals as goal

pub returns : goal.returns
returns g c =
    c.in_ok-insert.ensures.ok
    ∙ insert_before-end _ _ _ (none-later g.O.Order.key g.O.Order.before g.O.Order.same g.met.O.Order.one_way c.args.row c.args.table.now c.requires)
