-- what the test of stats says
use Rattle.np_watch.proofs.Prelude.{IsFreshPath, List, Node, None, Option, Some, StaleIsLater, TestSaysFresh, TreeState, and_from, and_parts, ap, arith, at_path, is_fresh, is_listed_by, is_written_by, nat_le, nat_tests, option_and_then, option_map, parent_of, refl, stat_above, stat_at, stat_of, subst, true, ℕ, ◌∙◌, ◌≡◌, ◌≤◌}

module _ (t : TreeState) (z : ℕ) where
  -- the node of a path that was listed at z or before
  listed-node : (dir : List ℕ) (o : Option Node) → at_path t.nodes dir ≡ o → is_listed_by z (option_map (stat_of t.nodes) o) ≡ true → (n : Node) × (at_path t.nodes dir ≡ Some n) × (n.facts.pzxid ≤ z)
  listed-node dir None there is = absurd cc
  listed-node dir (Some n) there is = (n, there, grind (arith, nat_tests))

  fresh-from-by : (path : List ℕ) (above : Option (List ℕ)) → parent_of path ≡ above → is_listed_by z (option_and_then (stat_at t) above) ≡ true → is_written_by z (stat_at t path) ≡ true → IsFreshPath z t path
  fresh-from-by path None is listed written = absurd cc
  fresh-from-by path (Some dir) is listed written = record {
    dir = dir;
    above = is;
    fresh = record {
      parent = listed-node dir (at_path t.nodes dir) refl listed;
      node = λ n there. let before = subst (λ (o : Option Node). is_written_by z (option_map (stat_of t.nodes) o) ≡ true) there written in grind (arith, nat_tests);
    };
  }

  fresh-from : (path : List ℕ) → is_fresh t z path ≡ true → IsFreshPath z t path
  fresh-from path is =
      let both = and_parts (is_listed_by z (stat_above t path)) (is_written_by z (stat_at t path)) is in
      fresh-from-by path (parent_of path) refl both.0 both.1

  written-by : (path : List ℕ) (o : Option Node) → at_path t.nodes path ≡ o → ((n : Node) → at_path t.nodes path ≡ Some n → n.facts.mzxid ≤ z) → is_written_by z (option_map (stat_of t.nodes) o) ≡ true
  written-by path None there old = refl
  written-by path (Some n) there old = let before : n.facts.mzxid ≤ z = old n there in grind (arith, nat_tests)

  listed-by : (n : Node) → n.facts.pzxid ≤ z → nat_le n.facts.pzxid z ≡ true
  listed-by n before = grind (arith, nat_tests)

  fresh-to : (path : List ℕ) → IsFreshPath z t path → is_fresh t z path ≡ true
  fresh-to path fresh =
      and_from (is_listed_by z (stat_above t path)) (is_written_by z (stat_at t path))
      (ap (λ o. is_listed_by z (option_and_then (stat_at t) o)) fresh.above
      ∙ ap (λ o. is_listed_by z (option_map (stat_of t.nodes) o)) fresh.fresh.parent.1
      ∙ listed-by fresh.fresh.parent.0 fresh.fresh.parent.2)
      (written-by path (at_path t.nodes path) refl fresh.fresh.node)

pub test-says-fresh : TestSaysFresh
test-says-fresh t z path = (fresh-from t z path, fresh-to t z path)

-- ## the last change

pub stale-is-later : StaleIsLater
stale-is-later z parent None is = grind (arith, nat_tests)
stale-is-later z parent (Some node) is = grind (arith, nat_tests)
