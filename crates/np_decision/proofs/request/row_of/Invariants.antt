use Rattle.np_decision.proofs.Prelude.{take, ◌≡◌}
use Rattle.np_decision.proofs.request.row_of.Given as goal

abbrev pub invariant-loop-label : goal.invariant-loop-label
invariant-loop-label l = l.row ≡ take l.label-index l.labels
