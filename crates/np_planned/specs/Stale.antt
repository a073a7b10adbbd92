-- the first path that isn't fresh, and why nothing else counts
use Rattle.std.specs.Prelude.{◌≡◌, true, List, is_ok, ℕ, Bool, not, Some, slice_get, ◌≤◌, length}
use Rattle.np_planned.specs.Spots.{spots_of, paths_at, place_of}
use Rattle.np_planned.specs.declared.spot.Spot.{Spot}
use Rattle.np_planned.specs.declared.stale.Kept.{Kept}
use Rattle.np_planned.specs.Lower.{AllByRecursion, Configuration, Entry, Event, FirstAt, IsGood, IsStored, Runs, Since, State, TreeState, change_at_path, is_fresh, is_planned, is_some, judge, node_in, node_queue, registered, request_in, request_queue, session_of, stat_above}

-- states that agree at spots

-- what is at a spot is the same in two states
abbrev pub AgreeAt : State → State → Spot → Type 0
AgreeAt s u (Spot.Session session) = session_of session s ≡ session_of session u
AgreeAt s u (Spot.Launcher p) = registered p s.registrations ≡ registered p u.registrations
AgreeAt s u (Spot.Request r) = request_in r s.requests ≡ request_in r u.requests
AgreeAt s u (Spot.RequestLock r) = request_queue r s.requests ≡ request_queue r u.requests
AgreeAt s u (Spot.Node n) = node_in n s.nodes ≡ node_in n u.nodes
AgreeAt s u (Spot.NodeLock n) = node_queue n s.nodes ≡ node_queue n u.nodes

abbrev pub Agree : State → State → List Spot → Type 0
Agree s u spots = AllByRecursion (AgreeAt s u) spots

-- a planned event that is accepted in one state is accepted in each that agrees with it at the event's spots
abbrev pub SpotsDecide : Type 0
SpotsDecide = (c : Configuration) (s u : State) (e : Event) → is_planned e ≡ true → Agree s u (spots_of s e) → is_ok (judge c s e) ≡ true → is_ok (judge c u e) ≡ true

-- the first path that isn't fresh

-- a tree, and how many times it was read
pub record Reading : Type 0 where
  pub tree : TreeState
  pub reads : ℕ

abbrev pub is_stale : TreeState → ℕ → List ℕ → Bool
is_stale t z path = not (is_fresh t z path)

-- the first path that isn't fresh at z, by its place, and its last change
pub record IsFirstStale (t : TreeState) (z : ℕ) (paths : List (List ℕ)) (kept : Kept) : Type 0 where
  pub path : List ℕ
  pub there : slice_get paths kept.place ≡ Some path
  pub first : FirstAt (is_stale t z) paths kept.place
  pub last : kept.change ≡ change_at_path t path

-- above the first path that isn't fresh there is a node
abbrev pub StaleHasParent : TreeState → ℕ → List (List ℕ) → Type 0
StaleHasParent t z paths = (place : ℕ) (path : List ℕ) → FirstAt (is_stale t z) paths place → slice_get paths place ≡ Some path → is_some (stat_above t path) ≡ true

-- the paths of the spots of an accepted event

-- each spot has a path, and they fit in a row
pub record HavePaths (spots : List Spot) : Type 0 where
  pub good : AllByRecursion (λ spot. IsGood (place_of spot)) spots
  pub few : length spots ≤ 68

-- so have those of an event that is accepted in a state that a tree stores
abbrev pub SpotsHavePaths : Type 0
SpotsHavePaths = (c : Configuration) (journal : List Entry) (s : State) (t : TreeState) (e : Event) → Runs c journal s → IsStored c s t → is_planned e ≡ true → is_ok (judge c s e) ≡ true → HavePaths (spots_of s e)

-- in each later tree that stores a state, the first of the paths that isn't fresh is below a node
abbrev pub SpotsHaveParents : Type 0
SpotsHaveParents = (c : Configuration) (journal : List Entry) (s u : State) (t v : TreeState) (z : ℕ) (e : Event) → Runs c journal s → IsStored c s t → IsStored c u v → Since z t v → is_planned e ≡ true → is_ok (judge c s e) ≡ true → StaleHasParent v z (paths_at (spots_of s e))
