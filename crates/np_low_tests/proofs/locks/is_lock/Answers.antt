use Rattle.std.proofs.Common.{◌≡◌, List, ℕ, None, ap, ◌∙◌}
use Rattle.np_tree.specs.Relations.{stat_of_child}
use Rattle.np_low_tests.proofs.LockLemmas.{free-lock}
use Rattle.np_low_tests.proofs.locks.is_lock.Goals as goal

pub returns-in-None : goal.returns-in-None
returns-in-None c =
    let none : None ≡ stat_of_child c.args.tree.now c.args.dir.now 0 = c.in-None.ensures ∙ ap (λ (p : List ℕ). stat_of_child c.args.tree.now p 0) c.text.ensures.text in
    free-lock c.args.tree.now c.args.dir.now none
