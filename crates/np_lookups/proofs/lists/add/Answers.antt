use Rattle.np_lookups.proofs.Prelude.{none-list_any, sym, ◌∙◌}
use Rattle.np_lookups.proofs.QueueLemmas.{row-undo}
use Rattle.np_lookups.proofs.lists.add.Goals as goal

pub insert-requires : goal.insert-requires
insert-requires g c = none-list_any _ _ (rw c.key.ensures at (sym c.has.ensures ∙ c.if-has.false))

pub returns-clause-undo : goal.returns-clause-undo
returns-clause-undo g c =
    row-undo g.O.Order.key g.O.Order.before g.O.Order.same g.met.O.Order.one_way g.met.O.Order.some_way c.args.row c.args.table.now c.insert.new.self
    (rw c.key.ensures at (sym c.has.ensures ∙ c.if-has.false)) c.in_ok-insert.ensures.ok
