use Rattle.np_tree_rows.proofs.Prelude.{IsGood, List, Swept, ap, is_some, rules, stat_at, ℕ, ◌∙◌}
use Rattle.np_tree_rows.proofs.Registered.{swept-there}
use Rattle.np_tree_rows.proofs.semaphores.swept.Goals as goal

pub returns : goal.returns
returns c config s stored =
    let good : IsGood (Swept c.args.node c.args.server) = search rules in
    let path = c.text.ensures ∙ c.of-path.ensures in
    c.is_some.ensures ∙ ap is_some c.exists.ensures ∙ ap (λ (p : List ℕ). is_some (stat_at c.args.tree.now p)) path
    ∙ swept-there config s c.args.tree.now c.args.node c.args.server stored good
