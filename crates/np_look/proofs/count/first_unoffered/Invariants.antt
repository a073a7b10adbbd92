use Rattle.np_look.proofs.Prelude.{drop, find, is_offered, not, ◌≡◌}
use Rattle.np_look.proofs.count.first_unoffered.Given as goal

abbrev pub invariant-loop-label : goal.invariant-loop-label
invariant-loop-label l =
    find (λ x. not (is_offered l.config l.pool x)) (drop l.label-index l.labels) ≡ find (λ x. not (is_offered l.config l.pool x)) l.labels
