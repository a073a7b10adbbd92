use Rattle.np_lock.proofs.Prelude.{List, None, Some, ahead_in, ap, queue_at, refl, sym, ℕ, ◌∙◌, ◌≡◌}
use Rattle.np_lock.proofs.PlaceLemmas.{there-none, there-some}
use Rattle.np_lock.proofs.lock.enqueue.Goals as goal

pub returns-in-Some-clause-ok : goal.returns-in-Some-clause-ok
returns-in-Some-clause-ok c =
    let some : ahead_in (queue_at c.args.tree.now c.args.dir.now) c.args.session ≡ Some c.in-Some.others = ap (λ (p : List ℕ). ahead_in (queue_at c.args.tree.now p) c.args.session) (sym c.text.ensures.text) ∙ sym c.in-Some.ensures in
    let there = there-some (queue_at c.args.tree.now c.args.dir.now) c.args.session c.in-Some.others some in
    rw there refl

pub returns-in-Some-clause-queue : goal.returns-in-Some-clause-queue
returns-in-Some-clause-queue c =
    let some : ahead_in (queue_at c.args.tree.now c.args.dir.now) c.args.session ≡ Some c.in-Some.others = ap (λ (p : List ℕ). ahead_in (queue_at c.args.tree.now p) c.args.session) (sym c.text.ensures.text) ∙ sym c.in-Some.ensures in
    let there = there-some (queue_at c.args.tree.now c.args.dir.now) c.args.session c.in-Some.others some in
    rw there refl

pub join-requires-clause-new : goal.join-requires-clause-new
join-requires-clause-new c =
    let none : ahead_in (queue_at c.args.tree.now c.args.dir.now) c.args.session ≡ None = ap (λ (p : List ℕ). ahead_in (queue_at c.args.tree.now p) c.args.session) (sym c.text.ensures.text) ∙ sym c.in_default.ensures in
    let away = there-none (queue_at c.args.tree.now c.args.dir.now) c.args.session none in
    away

pub returns-clause-ok : goal.returns-clause-ok
returns-clause-ok c =
    let none : ahead_in (queue_at c.args.tree.now c.args.dir.now) c.args.session ≡ None = ap (λ (p : List ℕ). ahead_in (queue_at c.args.tree.now p) c.args.session) (sym c.text.ensures.text) ∙ sym c.in_default.ensures in
    let away = there-none (queue_at c.args.tree.now c.args.dir.now) c.args.session none in
    rw away c.in_ok-join.ensures.ok

pub returns-clause-queue : goal.returns-clause-queue
returns-clause-queue c =
    let none : ahead_in (queue_at c.args.tree.now c.args.dir.now) c.args.session ≡ None = ap (λ (p : List ℕ). ahead_in (queue_at c.args.tree.now p) c.args.session) (sym c.text.ensures.text) ∙ sym c.in_default.ensures in
    let away = there-none (queue_at c.args.tree.now c.args.dir.now) c.args.session none in
    rw away c.in_ok-join.ensures.queue
