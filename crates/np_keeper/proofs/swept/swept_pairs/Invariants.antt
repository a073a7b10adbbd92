use Rattle.np_keeper.proofs.Prelude.{SweptPairs, put_all, swept_at, under, ◌≡◌}
use Rattle.np_keeper.proofs.Queued.{pairs_from}
use Rattle.np_keeper.proofs.swept.swept_pairs.Given as goal

abbrev pub invariant-loop-at : goal.invariant-loop-at
invariant-loop-at l = put_all l.table.rows (pairs_from l.at (under SweptPairs l.tree)) ≡ swept_at l.tree
