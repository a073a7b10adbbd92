use Rattle.np_steps.proofs.Prelude.{drop, find, is_waiting, rows_at, ◌≡◌}
use Rattle.np_steps.proofs.ops.wait_name.Given as goal

abbrev pub invariant-loop-at : goal.invariant-loop-at
invariant-loop-at l = find (is_waiting l.session) (drop l.at (rows_at l.tree l.lock)) ≡ find (is_waiting l.session) (rows_at l.tree l.lock)
