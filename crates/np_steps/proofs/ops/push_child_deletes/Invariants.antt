use Rattle.np_steps.proofs.Prelude.{delete_parts, drop, rows_at, ◌++◌, ◌≡◌}
use Rattle.np_steps.proofs.ops.push_child_deletes.Given as goal

abbrev pub invariant-loop-at : goal.invariant-loop-at
invariant-loop-at l = l.ops.items ++ delete_parts l.dir (drop l.at (rows_at l.tree l.dir)) ≡ l.initial.ops.items ++ delete_parts l.dir (rows_at l.tree l.dir)
