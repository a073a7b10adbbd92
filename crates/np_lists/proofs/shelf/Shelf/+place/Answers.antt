use Rattle.np_lists.proofs.Prelude.{ap, arith, false, length, length-append, prefix_len-le-length, sym, true, ◌∷◌, ◌≡◌}
use Rattle.np_lists.proofs.Searches.{prefix_len-passed, prefix_len-stopped, IsSplit-left, IsSplit-right}
use Rattle.np_lists.proofs.shelf.Shelf.+place.Goals as goal

pub place-requires : goal.place-requires
place-requires g t c κs within =
    let before = g.P.Probe.before c.args.probe.now in
    let knot = c.in-Top.knot.value in
    let was = rw c.in-Top.is at c.self.view_is in
    let split = rw (← was) at c.requires.split in
    let passes : before knot.item ≡ true = sym (rw c.deref.ensures at c.if-is_before.ensures) in
    let right = IsSplit-right before knot.left knot.right knot.item split passes in
    let many = length-append knot.left (knot.item ∷ knot.right) in
    let all = ap (λ items. length items) was in
    let beside = ap (λ k. length k.right) c.deref-then-is_before-3.ensures in
    (omega arith, (within.0, (within.1, rw c.deref-then-is_before-3.ensures right)))

pub overflow_add-result : goal.overflow_add-result
overflow_add-result g t c =
    let knot = c.in-Top.knot.value in
    let before = g.P.Probe.before c.args.probe.now in
    let counted = rw c.in-Top.is at c.self.invariant in
    let all : c.deref-then-is_before.result.now.len ≡ knot.len = ap (λ k. k.len) c.deref-then-is_before.ensures in
    let beside = rw c.deref-then-is_before-2.ensures at c.len.ensures in
    let passed = rw c.deref-then-is_before-3.ensures at c.place.ensures in
    let most = prefix_len-le-length before knot.right in
    omega arith

pub returns-then-is_before : goal.returns-then-is_before
returns-then-is_before g t c =
    let before = g.P.Probe.before c.args.probe.now in
    let knot = c.in-Top.knot.value in
    let was = rw c.in-Top.is at c.self.view_is in
    let split = rw (← was) at c.requires.split in
    let passes : before knot.item ≡ true = sym (rw c.deref.ensures at c.if-is_before.ensures) in
    let all = prefix_len-passed before knot.left knot.right knot.item split passes in
    let counted = rw c.in-Top.is at c.self.invariant in
    rw (c.deref-then-is_before.ensures, c.len.ensures, c.deref-then-is_before-2.ensures, c.place.ensures, c.deref-then-is_before-3.ensures, ← was, counted) (omega arith)

pub place-requires-else-is_before : goal.place-requires-else-is_before
place-requires-else-is_before g t c κs within =
    let before = g.P.Probe.before c.args.probe.now in
    let knot = c.in-Top.knot.value in
    let was = rw c.in-Top.is at c.self.view_is in
    let split = rw (← was) at c.requires.split in
    let fails : before knot.item ≡ false = sym (rw c.deref.ensures at c.if-is_before.ensures) in
    let left = IsSplit-left before knot.left knot.right knot.item split fails in
    let many = length-append knot.left (knot.item ∷ knot.right) in
    let all = ap (λ items. length items) was in
    let beside = ap (λ k. length k.left) c.deref-else-is_before.ensures in
    (omega arith, (within.0, (within.1, rw c.deref-else-is_before.ensures left)))

pub returns-else-is_before : goal.returns-else-is_before
returns-else-is_before g t c =
    let before = g.P.Probe.before c.args.probe.now in
    let knot = c.in-Top.knot.value in
    let was = rw c.in-Top.is at c.self.view_is in
    let fails : before knot.item ≡ false = sym (rw c.deref.ensures at c.if-is_before.ensures) in
    rw (c.place-else-is_before.ensures, c.deref-else-is_before.ensures, ← was) (prefix_len-stopped before knot.left knot.right knot.item fails)
