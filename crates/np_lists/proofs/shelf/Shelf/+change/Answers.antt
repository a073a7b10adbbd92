use Rattle.np_lists.proofs.Prelude.{arith, length, refl, ◌-◌, ◌≡◌}
use Rattle.np_lists.proofs.Changes.{length-change_at}
use Rattle.np_lists.proofs.Searches.{at-right, change_at-left, change_at-middle, slice_get-left, slice_get-middle}
use Rattle.np_lists.proofs.shelf.Shelf.+change.Goals.{then-place-left, else-place-left+then-place-left-2, else-place-left+else-place-left-2}
use Rattle.np_lists.proofs.shelf.Shelf.+change.Goals as goal

pub invariant_of-self : goal.invariant_of-self
invariant_of-self g t c =
    let knot = c.in-Top.knot.value in
    let counted = rw c.in-Top.is at c.self.invariant in
    let f = g.C.Change.after c.args.change.now in
    elim c.if-place-left.branch [
      | then-place-left w ↦ rw (w.self-inside-is, w.deref_mut.ensures.value, w.change.ensures.items, w.deref_mut.ensures.value, length-change_at c.args.place f knot.left) counted
      | else-place-left+then-place-left-2 w ↦ rw (w.self-inside-is, w.deref_mut-then-place-left-2.ensures.value) counted
      | else-place-left+else-place-left-2 w ↦ rw (w.self-inside-is, w.deref_mut-else-place-left-2.ensures.value, w.change-else-place-left-2.ensures.items, w.deref_mut-else-place-left-2.ensures.value, length-change_at (c.args.place - c.len-left.result - 1) f knot.right) counted
    ]

pub returns-clause-items : goal.returns-clause-items
returns-clause-items g t c =
    let knot = c.in-Top.knot.value in
    let was = rw c.in-Top.is at c.self.view_is in
    let many : c.len-left.result ≡ length knot.left = cc in
    let f = g.C.Change.after c.args.change.now in
    elim c.if-place-left.branch [
      | then-place-left w ↦ let changed = change_at-left f knot.left knot.right knot.item c.args.place (omega arith) in rw (w.self-inside-is, w.deref_mut.ensures.value, w.change.ensures.items, w.deref_mut.ensures.value, ← was) changed
      | else-place-left+then-place-left-2 w ↦ let changed = change_at-middle f knot.left knot.right knot.item c.args.place (omega arith) in rw (w.self-inside-is, w.make.ensures.item, w.deref_mut-then-place-left-2.ensures.value, ← was) changed
      | else-place-left+else-place-left-2 w ↦ let changed = at-right f knot.left knot.right knot.item c.args.place (c.args.place - c.len-left.result - 1) (omega arith) in rw (w.self-inside-is, w.deref_mut-else-place-left-2.ensures.value, w.change-else-place-left-2.ensures.items, w.deref_mut-else-place-left-2.ensures.value, ← was) changed.1
    ]

pub returns-clause-kept : goal.returns-clause-kept
returns-clause-kept g t c =
    let knot = c.in-Top.knot.value in
    let was = rw c.in-Top.is at c.self.view_is in
    let many : c.len-left.result ≡ length knot.left = cc in
    elim c.if-place-left.branch [
      | then-place-left w ↦ let there = slice_get-left knot.left knot.right knot.item c.args.place (omega arith) in rw (w.change-is, ← was, there) (rw w.deref_mut.ensures.value at w.change.ensures.kept)
      | else-place-left+then-place-left-2 w ↦ let there = slice_get-middle knot.left knot.right knot.item c.args.place (omega arith) in rw (w.change-is, ← was, there, w.make.ensures.kept, w.deref_mut-then-place-left-2.ensures.value) refl
      | else-place-left+else-place-left-2 w ↦ let there = at-right (g.C.Change.after c.args.change.now) knot.left knot.right knot.item c.args.place (c.args.place - c.len-left.result - 1) (omega arith) in rw (w.change-is, ← was, there.0) (rw w.deref_mut-else-place-left-2.ensures.value at w.change-else-place-left-2.ensures.kept)
    ]
