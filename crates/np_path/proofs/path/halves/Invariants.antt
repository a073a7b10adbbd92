use Rattle.np_path.proofs.PartsLemmas.{IsPassed}
use Rattle.np_path.proofs.path.halves.Given as goal

abbrev pub invariant-loop-at : goal.invariant-loop-at
invariant-loop-at l = IsPassed l.text l.at

abbrev pub decreases-loop-at : goal.decreases-loop-at
decreases-loop-at l = l.at
