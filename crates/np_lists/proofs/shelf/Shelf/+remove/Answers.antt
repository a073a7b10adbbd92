use Rattle.np_lists.proofs.Prelude.{arith, length, ◌-◌, ◌≡◌}
use Rattle.np_lists.proofs.Searches.{remove-left, remove-right, remove-first_up}
use Rattle.np_lists.proofs.shelf.Shelf.+remove.Goals.{then-place-left, else-place-left+then-place-left-2, else-place-left+else-place-left-2+else-is_empty}
use Rattle.np_lists.proofs.shelf.Shelf.+remove.Goals as goal

pub returns-clause-rest : goal.returns-clause-rest
returns-clause-rest g t c =
    let knot = c.in-Top.knot.value in
    let many : c.len-left.result ≡ length knot.left = cc in
    elim c.if-place-left.branch [
      | then-place-left w ↦
          let removed = remove-left knot.left knot.right knot.item c.args.place (omega arith) in
          rw (c.balance.ensures, c.deref_mut-2.ensures.value, w.knot-is, w.remove-piece.ensures.rest, w.deref_mut.ensures.value, ← c.in-Top.ensures.items) removed
      | else-place-left+then-place-left-2 w ↦
          let removed = remove-right knot.left knot.right knot.item c.args.place (c.args.place - c.len-left.result - 1) (omega arith) in
          rw (c.balance.ensures, c.deref_mut-2.ensures.value, w.knot-is, w.remove.ensures.rest, w.deref_mut-then-place-left-2.ensures.value, ← c.in-Top.ensures.items) removed
      | else-place-left+else-place-left-2+else-is_empty w ↦
          let stands = rw w.deref_mut-else-is_empty.ensures.value at w.remove-first.ensures.piece in
          let removed = remove-first_up knot.left knot.right knot.item w.remove-first.result c.args.place (omega arith) stands in
          rw (c.balance.ensures, c.deref_mut-2.ensures.value, w.knot-is, w.exchange.ensures.item, w.deref_mut-else-is_empty-2.ensures.value, w.remove-first.ensures.rest, w.deref_mut-else-is_empty.ensures.value, ← c.in-Top.ensures.items) removed
    ]
