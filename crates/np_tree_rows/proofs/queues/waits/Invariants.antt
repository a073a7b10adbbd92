use Rattle.np_tree_rows.proofs.Prelude.{drop, list_any, rows_at, ◌≡◌}
use Rattle.np_tree_rows.proofs.Registered.{is_waiting}
use Rattle.np_tree_rows.proofs.queues.waits.Given as goal

abbrev pub invariant-loop-at : goal.invariant-loop-at
invariant-loop-at l = list_any (is_waiting l.session) (drop l.at (rows_at l.tree l.lock)) ≡ list_any (is_waiting l.session) (rows_at l.tree l.lock)
