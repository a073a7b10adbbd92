use Rattle.np_check.proofs.Prelude.{get_or, length, ℕ, ◌<◌, ◌≡◌, ◌≤◌}
use Rattle.np_check.proofs.near.place_of_least.Given as goal

abbrev pub invariant-loop-at : goal.invariant-loop-at
invariant-loop-at l = record {
  within : l.best < length l.numbers;
  least : l.least ≡ get_or l.numbers l.best 0;
  all : (k : ℕ) → k < l.at → l.least ≤ get_or l.numbers k 0;
}
