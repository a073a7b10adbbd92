use Rattle.np_keeper.proofs.Prelude.{List, Option, length, slice_get, take, ℕ, ◌<◌, ◌≡◌}
use Rattle.np_keeper.proofs.list.list_of.Given as goal

abbrev pub invariant-loop-at : goal.invariant-loop-at
invariant-loop-at g l =
    (whole : List _) → length whole ≡ l.count
    → ((at : ℕ) (item : Option _) → at < l.count → goal.F-post g l.read at item → item ≡ slice_get whole at)
    → l.list.items ≡ take l.at whole
