use Rattle.np_lists.proofs.Prelude.{arith, length, ◌-◌, ◌≡◌}
use Rattle.np_lists.proofs.Searches.{insert-left, insert-right}
use Rattle.np_lists.proofs.shelf.Shelf.+insert.Goals.{then-place-left, else-place-left}
use Rattle.np_lists.proofs.shelf.Shelf.+insert.Goals as goal

pub returns : goal.returns
returns g t c =
    let knot = c.in-Top.knot.value in
    let was = rw c.in-Top.is at c.self.view_is in
    let many : c.len-left.result ≡ length knot.left = cc in
    elim c.if-place-left.branch [
      | then-place-left w ↦
          let put = insert-left knot.left knot.right knot.item c.args.piece c.args.place (omega arith) in
          rw (c.balance.ensures, c.deref_mut-2.ensures.value, w.knot-is, w.insert.ensures, w.deref_mut.ensures.value, ← was) put
      | else-place-left w ↦
          let put = insert-right knot.left knot.right knot.item c.args.piece c.args.place (c.args.place - c.len-left.result - 1) (omega arith) in
          rw (c.balance.ensures, c.deref_mut-2.ensures.value, w.knot-is, w.insert-else-place-left.ensures, w.deref_mut-else-place-left.ensures.value, ← was) put
    ]
