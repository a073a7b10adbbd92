use Rattle.np_planned.proofs.Prelude.{List, Some, is_fresh, slice_get, true, ℕ, ◌*◌, ◌+◌, ◌<◌, ◌≡◌, ◌≤◌}
use Rattle.np_planned.proofs.stale.first_stale.Given as goal

-- the paths so far are fresh, and each took two reads at most
abbrev pub invariant-loop-place : goal.invariant-loop-place
invariant-loop-place g l = record {
  tree : g.R.StatRead.tree l.stats ≡ g.R.StatRead.tree l.fn.stats;
  fresh : (k : ℕ) → k < l.place → (path : List ℕ) → slice_get l.paths k ≡ Some path → is_fresh (g.R.StatRead.tree l.fn.stats) l.at path ≡ true;
  reads : g.R.StatRead.reads l.stats ≤ g.R.StatRead.reads l.fn.stats + 2 * l.place;
}
