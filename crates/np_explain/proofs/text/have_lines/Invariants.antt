use Rattle.np_explain.proofs.Prelude.{AllByRecursion, HasEventLine, take}
use Rattle.np_explain.proofs.text.have_lines.Given as goal

abbrev pub invariant-loop-entry : goal.invariant-loop-entry
invariant-loop-entry l = AllByRecursion (λ e. HasEventLine e.event) (take l.entry-index l.journal)
