use Rattle.np_watch.proofs.Prelude.{AreWatches, filter, is_between, length, not, ◌≡◌}
use Rattle.np_watch.proofs.watches.drop_between.Given as goal

-- the watches that are to stay are there, and no others stay
abbrev pub invariant-loop-key : goal.invariant-loop-key
invariant-loop-key l = record {
  rest : filter (λ watch. not (is_between l.from l.to watch)) l.table ≡ filter (λ watch. not (is_between l.from l.to watch)) l.fn.table;
  watches : AreWatches l.table;
}

abbrev pub decreases-loop-key : goal.decreases-loop-key
decreases-loop-key l = length l.table
