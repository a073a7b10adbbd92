use Rattle.np_lists.proofs.Prelude.{sym, ◌∙◌}
use Rattle.np_lists.proofs.Changes.{Rises-insert, insert_before-at}
use Rattle.np_lists.proofs.rows.insert_row.Goals as goal

pub split_of-at-requires : goal.split_of-at-requires
split_of-at-requires g c = rw c.as_slice.ensures.value c.requires.rises

pub returns-clause-ok : goal.returns-clause-ok
returns-clause-ok g c =
    let key = g.O.Order.key in
    let point = rw (c.as_slice.ensures.value, c.key.ensures) at c.split_of-at.ensures.point in
    let within = rw c.as_slice.ensures.value at c.split_of-at.ensures.within in
    c.in_ok-insert.ensures.items
    ∙ sym (insert_before-at (λ a b. g.O.Order.before (key a) (key b)) (λ a b. g.O.Order.same (key a) (key b)) (λ a b k. g.met.O.Order.transitive (key a) (key b) (key k))
    (λ a k. g.met.O.Order.one_way (key a) (key k)) (λ a k. g.met.O.Order.some_way (key a) (key k)) c.args.row c.args.rows.now.items c.split_of-at.result within point c.requires.none)

pub returns-clause-rises : goal.returns-clause-rises
returns-clause-rises g c =
    let key = g.O.Order.key in
    let point = rw (c.as_slice.ensures.value, c.key.ensures) at c.split_of-at.ensures.point in
    let within = rw c.as_slice.ensures.value at c.split_of-at.ensures.within in
    rw c.in_ok-insert.ensures.items (
    Rises-insert (λ a b. g.O.Order.before (key a) (key b)) (λ a b. g.O.Order.same (key a) (key b)) (λ a b k. g.met.O.Order.transitive (key a) (key b) (key k))
    (λ a k. g.met.O.Order.one_way (key a) (key k)) (λ a k. g.met.O.Order.some_way (key a) (key k)) c.args.row c.args.rows.now.items c.split_of-at.result within point c.requires.none c.requires.rises)
