-- what keeps a directory a lock, for the tests of locks
use Rattle.std.proofs.Common.{◌≡◌, ℕ, Bool, true, false, List, [], ◌∷◌, map, None, refl, sym, ap, subst}
use Rattle.std.specs.Prelude.{slice_get}
use Rattle.np_layout.specs.Prelude.{IsTree, Node, OnFalse, OnTrue, TreeState, after_end, children_of, option_map, row_of, stat_of, stat_of_child}
use Rattle.np_lock.specs.Calls.{IsLock}
use Rattle.np_lock.proofs.LawLemmas.{ends-leave}

pub ends-lock : (t u : TreeState) (dir : List ℕ) (s : ℕ) (b : Bool) → IsTree t → IsLock t dir → OnTrue b (u ≡ after_end t s) → OnFalse b (u ≡ t) → IsLock u dir
ends-lock t u dir s true tree lock gone same = subst (λ (v : TreeState). IsLock v dir) (sym gone) (ends-leave t s dir tree lock).0
ends-lock t u dir s false tree lock gone same = subst (λ (v : TreeState). IsLock v dir) (sym same) lock

free-by : (t : TreeState) (dir : List ℕ) (nodes : List Node) → children_of t.nodes dir ≡ nodes → None ≡ option_map (stat_of t.nodes) (slice_get nodes 0) → IsLock t dir
free-by t dir [] none is = ([], record { rows = ap (map row_of) none; given = tt; once = tt })
free-by t dir (n ∷ nodes) some is = absurd cc

pub free-lock : (t : TreeState) (dir : List ℕ) → None ≡ stat_of_child t dir 0 → IsLock t dir
free-lock t dir is = free-by t dir (children_of t.nodes dir) refl is
