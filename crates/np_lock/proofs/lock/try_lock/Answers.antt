use Rattle.np_lock.proofs.Prelude.{List, None, ap, first_of, queue_at, sym, ℕ, ◌∙◌, ◌≡◌}
use Rattle.np_lock.proofs.PlaceLemmas.{nobody}
use Rattle.np_lock.proofs.lock.try_lock.Goals as goal

pub join-requires-clause-new : goal.join-requires-clause-new
join-requires-clause-new c =
    let none : first_of (queue_at c.args.tree.now c.args.dir.now) ≡ None = ap (λ (p : List ℕ). first_of (queue_at c.args.tree.now p)) (sym c.text.ensures.text) ∙ sym c.in_default.ensures in
    nobody (queue_at c.args.tree.now c.args.dir.now) c.args.session none
