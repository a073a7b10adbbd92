use Rattle.np_lock.proofs.Prelude.{List, None, ahead_in, ap, queue_at, refl, sym, ℕ, ◌∙◌, ◌≡◌}
use Rattle.np_lock.proofs.LeaveLemmas.{path-none}
use Rattle.np_lock.proofs.lock.release_op.Goals as goal

pub returns-in_default : goal.returns-in_default
returns-in_default c =
    let none : ahead_in (queue_at c.args.tree.now c.args.dir.now) c.args.session ≡ None = ap (λ (p : List ℕ). ahead_in (queue_at c.args.tree.now p) c.args.session) (sym c.text.ensures.text) ∙ sym c.in_default.ensures in
    rw (path-none c.args.tree.now c.args.session c.args.dir.now c.requires none) refl
