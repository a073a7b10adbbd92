use Rattle.np_lock.proofs.Prelude.{List, None, Some, ahead_in, ap, err_from_is_err_and, queue_at, refl, sym, ℕ, ◌∙◌, ◌≡◌}
use Rattle.np_lock.proofs.LeaveLemmas.{path-none}
use Rattle.np_lock.proofs.PlaceLemmas.{leaves-answer, there-none, there-some, without-none}
use Rattle.np_lock.proofs.lock.release.Goals as goal

pub returns-in_default-clause-answer : goal.returns-in_default-clause-answer
returns-in_default-clause-answer c =
    let none : ahead_in (queue_at c.args.tree.now c.args.dir.now) c.args.session ≡ None = ap (λ (p : List ℕ). ahead_in (queue_at c.args.tree.now p) c.args.session) (sym c.text.ensures.text) ∙ sym c.in_default.ensures in
    let away = there-none (queue_at c.args.tree.now c.args.dir.now) c.args.session none in
    rw away refl

pub returns-in_default-clause-ok : goal.returns-in_default-clause-ok
returns-in_default-clause-ok c =
    let none : ahead_in (queue_at c.args.tree.now c.args.dir.now) c.args.session ≡ None = ap (λ (p : List ℕ). ahead_in (queue_at c.args.tree.now p) c.args.session) (sym c.text.ensures.text) ∙ sym c.in_default.ensures in
    let away = there-none (queue_at c.args.tree.now c.args.dir.now) c.args.session none in
    rw (path-none c.args.tree.now c.args.session c.args.dir.now c.requires none) refl

pub returns-in_default-clause-queue : goal.returns-in_default-clause-queue
returns-in_default-clause-queue c =
    let none : ahead_in (queue_at c.args.tree.now c.args.dir.now) c.args.session ≡ None = ap (λ (p : List ℕ). ahead_in (queue_at c.args.tree.now p) c.args.session) (sym c.text.ensures.text) ∙ sym c.in_default.ensures in
    let away = there-none (queue_at c.args.tree.now c.args.dir.now) c.args.session none in
    without-none (queue_at c.args.tree.now c.args.dir.now) c.args.session away

pub returns-in_err-path-clause-answer : goal.returns-in_err-path-clause-answer
returns-in_err-path-clause-answer c =
    let some : ahead_in (queue_at c.args.tree.now c.args.dir.now) c.args.session ≡ Some c.in-Some.at = ap (λ (p : List ℕ). ahead_in (queue_at c.args.tree.now p) c.args.session) (sym c.text.ensures.text) ∙ sym c.in-Some.ensures in
    let there = there-some (queue_at c.args.tree.now c.args.dir.now) c.args.session c.in-Some.at some in
    let p = err_from_is_err_and c.from_residual.result c.from_residual.ensures.1 in
    rw there (rw (p.1, p.2) tt)

pub returns-in_err-leave-clause-answer : goal.returns-in_err-leave-clause-answer
returns-in_err-leave-clause-answer c =
    let some : ahead_in (queue_at c.args.tree.now c.args.dir.now) c.args.session ≡ Some c.in-Some.at = ap (λ (p : List ℕ). ahead_in (queue_at c.args.tree.now p) c.args.session) (sym c.text.ensures.text) ∙ sym c.in-Some.ensures in
    let there = there-some (queue_at c.args.tree.now c.args.dir.now) c.args.session c.in-Some.at some in
    let p = err_from_is_err_and c.from_residual-in_err-leave.result c.from_residual-in_err-leave.ensures.1 in
    rw there (rw (p.1, p.2) (leaves-answer c.args.tree.now.changes c.in_err-leave.field-0.0 c.in_err-leave.ensures.answer))

pub returns-clause-answer : goal.returns-clause-answer
returns-clause-answer c =
    let some : ahead_in (queue_at c.args.tree.now c.args.dir.now) c.args.session ≡ Some c.in-Some.at = ap (λ (p : List ℕ). ahead_in (queue_at c.args.tree.now p) c.args.session) (sym c.text.ensures.text) ∙ sym c.in-Some.ensures in
    let there = there-some (queue_at c.args.tree.now c.args.dir.now) c.args.session c.in-Some.at some in
    rw there (refl, c.in_ok-leave.ensures.answer)
