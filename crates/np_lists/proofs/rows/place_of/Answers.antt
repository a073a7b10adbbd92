-- the row where those before the key end has it, or there is none
use Rattle.np_lists.proofs.Prelude.{ap, arith, sym, ◌∙◌}
use Rattle.np_lists.proofs.Searches.{apart, found, key_absent}
use Rattle.np_lists.proofs.rows.place_of.Goals.{else-at-rows-via-then-at-rows+else-is_same, else-at-rows-via-else-at-rows}
use Rattle.np_lists.proofs.rows.place_of.Goals as goal

pub returns-then-is_same-clause-place : goal.returns-then-is_same-clause-place
returns-then-is_same-clause-place g c =
    found (λ row. g.O.Order.before (g.O.Order.key row) c.args.key) (λ row. g.O.Order.same (g.O.Order.key row) c.args.key)
    (λ row first. apart g.O.Order.before g.O.Order.same g.met.O.Order.one_way g.met.O.Order.equal (g.O.Order.key row) c.args.key first)
    c.args.rows.now c.split_of-at.result c.index-rows-at.result c.split_of-at.ensures.point c.if-at-rows.true (ap (λ k. g.O.Order.same k c.args.key) (ap g.O.Order.key (sym c.index-rows-at.is) ∙ sym c.key.ensures) ∙ sym c.is_same.ensures ∙ c.if-is_same.true)

pub returns-clause-place : goal.returns-clause-place
returns-clause-place g c =
    key_absent g.O.Order.key g.O.Order.before g.O.Order.same g.met.O.Order.transitive g.met.O.Order.one_way g.met.O.Order.equal c.args.key
    c.args.rows.now c.split_of-at.result c.requires c.split_of-at.ensures.point
    (elim c.else-at-rows.branch [
      | else-at-rows-via-then-at-rows+else-is_same w ↦ λ within. (w.index-rows-at.result, ap (λ k. g.O.Order.same k c.args.key) (ap g.O.Order.key (sym w.index-rows-at.is) ∙ sym w.key.ensures) ∙ sym w.is_same.ensures ∙ w.if-is_same.false)
      | else-at-rows-via-else-at-rows w ↦ λ within. absurd (omega arith)
    ])
