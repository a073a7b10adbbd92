use Rattle.np_tree_rows.proofs.Prelude.{Handle, IsGood, List, ap, is_some, rules, stat_at, ℕ, ◌∙◌}
use Rattle.np_tree_rows.proofs.Registered.{handle-there}
use Rattle.np_tree_rows.proofs.semaphores.has_handle.Goals as goal

pub returns : goal.returns
returns c config s stored =
    let good : IsGood (Handle c.args.semaphore c.args.job) = search rules in
    let path = c.text.ensures ∙ c.of-path.ensures in
    c.is_some.ensures ∙ ap is_some c.exists.ensures ∙ ap (λ (p : List ℕ). is_some (stat_at c.args.tree.now p)) path
    ∙ handle-there config s c.args.tree.now c.args.semaphore c.args.job stored good
