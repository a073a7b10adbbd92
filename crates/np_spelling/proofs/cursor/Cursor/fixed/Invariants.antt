use Rattle.np_spelling.proofs.Prelude.{drop, fixed, ◌≡◌}
use Rattle.np_spelling.proofs.cursor.Cursor.fixed.Given as goal

abbrev pub invariant-loop-limit : goal.invariant-loop-limit
invariant-loop-limit l = fixed (drop l.limit-index l.limits) l.value l.self ≡ fixed l.limits 0 l.fn.self
