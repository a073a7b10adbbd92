use Rattle.np_tree_rows.proofs.Prelude.{IsGood, Semaphore, rules, ◌∙◌}
use Rattle.np_tree_rows.proofs.Registered.{handles-counted}
use Rattle.np_tree_rows.proofs.semaphores.handles.Goals as goal

pub returns : goal.returns
returns c config s stored =
    let good : IsGood (Semaphore c.args.semaphore) = search rules in
    c.count_at.ensures ∙ handles-counted config s c.args.tree.now stored c.args.semaphore good
