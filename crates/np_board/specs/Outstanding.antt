-- plans that were made and not committed, and what turns that plan do to a history
use Rattle.std.specs.Prelude.{Bool, false, ◌==◌, ◌&&◌, ◌≡◌, ◌≤◌, ℕ, suc, true, List, [], ◌∷◌, length, take, Option, Some, None, slice_get, is_ok, ◌⊎◌, ◌+◌}
use Rattle.np_board.specs.declared.board.plan.Plan.{Plan}
use Rattle.np_board.specs.Lower.{AllByRecursion, Also, AreFreshPaths, Ask, Asked, Configuration, Entry, Heard, IsLater, IsStored, IsUseful, Launcher, NodeId, PoolId, Ran, Role, Running, Runs, SessionId, Sight, State, TreeState, Turn, Unturned, Walked, WasUseful, Watch, answers_also, change_at, is_deleting, is_planned, is_session_of, is_some, judge, node_holder, node_in, option_map_or, paths_at, recorded, spots_of}

-- which nodes are due, as a test

-- the node is there, is of the pool and is being deleted, and the session holds it (own)
abbrev pub is_due : PoolId → SessionId → NodeId → State → Bool
is_due p session n s =
    option_map_or (λ k. (k.pool.0 == p.0) && is_deleting k.state) (node_in n s.nodes) false && is_session_of session (node_holder n s.nodes)

-- plans that were made and not committed

-- a plan, the paths of its spots, and the watches on them that are left
pub record Outstanding : Type 0 where
  pub plan : Plan
  pub paths : List (List ℕ)
  pub watches : List Watch

-- watches of all paths as they are at z, by their places from k on
abbrev pub watches_from : ℕ → ℕ → List (List ℕ) → List Watch
watches_from z k [] = []
watches_from z k (path ∷ paths) = record { key = k; path = path; at = z } ∷ watches_from z (suc k) paths

abbrev pub watches_of : ℕ → List (List ℕ) → List Watch
watches_of z paths = watches_from z 0 paths

-- ## the board

-- a board's configuration, journal and state, its tree, how many plans were committed, and the outstanding plan of each pool
pub record Planning : Type 0 where
  pub configuration : Configuration
  pub journal : List Entry
  pub state : State
  pub tree : TreeState
  pub commits : ℕ
  pub plans : List (Option Outstanding)

-- the board of a machine over a tree
abbrev pub planning_of : Running TreeState → ℕ → List (Option Outstanding) → Planning
planning_of m commits plans = record {
  configuration = m.configuration;
  journal = m.journal;
  state = m.state;
  tree = m.store;
  commits = commits;
  plans = plans;
}

abbrev pub ran_of : Planning → Ran
ran_of m = record { configuration = m.configuration; journal = m.journal; state = m.state }

abbrev pub plan_in : Option (Option Outstanding) → Option Outstanding
plan_in None = None
plan_in (Some o) = o

-- the outstanding plan of the pool
abbrev pub plan_of : PoolId → List (Option Outstanding) → Option Outstanding
plan_of p plans = plan_in (slice_get plans p.0)

-- the pool's outstanding plan is now this, or none
abbrev pub with_plan : PoolId → Option Outstanding → List (Option Outstanding) → List (Option Outstanding)
with_plan p o plans = change_at p.0 (λ _. o) plans

-- ## what is known of a plan

-- the event was useful in the state that the tree stored (own)
pub record IsNewPlan (c : Configuration) (s : State) (t : TreeState) (p : PoolId) (x : Outstanding) : Type 0 where
  pub pool : x.plan.pool ≡ p
  pub useful : IsUseful c s (Launcher p) x.plan.event
  pub planned : is_planned x.plan.event ≡ true
  pub at : x.plan.at ≡ t.changes
  pub spots : x.plan.spots ≡ spots_of s x.plan.event
  pub paths : x.paths ≡ paths_at x.plan.spots
  pub watches : x.watches ≡ watches_of x.plan.at x.paths

-- each watch is of one of the spots, by its place
abbrev pub AreOfSpots : Outstanding → Type 0
AreOfSpots x = AllByRecursion (λ (w : Watch). is_some (slice_get x.plan.spots w.key) ≡ true) x.watches

-- the plan was made over a tree that is not later than this one, in the state after a beginning of the journal, in which its
-- event was useful (own)
pub record IsOutstanding (c : Configuration) (journal : List Entry) (now : TreeState) (p : ℕ) (x : Outstanding) : Type 0 where
  pub pool : x.plan.pool.0 ≡ p
  pub place : ℕ
  pub within : place ≤ length journal
  pub before : State
  pub runs : Runs c (take place journal) before
  pub peeked : TreeState
  pub stored : IsStored c before peeked
  pub at : peeked.changes ≡ x.plan.at
  pub later : IsLater peeked now
  pub useful : IsUseful c before (Launcher x.plan.pool) x.plan.event
  pub planned : is_planned x.plan.event ≡ true
  pub spots : x.plan.spots ≡ spots_of before x.plan.event
  pub paths : x.paths ≡ paths_at x.plan.spots
  pub watches : AreOfSpots x

-- what is true of each board: its plans are outstanding, each pool has room for one, and each commit
-- recorded an entry (own)
pub record IsPlanning (m : Planning) : Type 0 where
  pub plans : (p : ℕ) (x : Outstanding) → slice_get m.plans p ≡ Some (Some x) → IsOutstanding m.configuration m.journal m.tree p x
  pub room : length m.plans ≡ length m.configuration.pools
  pub commits : m.commits ≤ length m.journal

-- of each outstanding plan: a spot isn't fresh, or the event is accepted now (own)
abbrev pub FreshAreAccepted : Planning → Type 0
FreshAreAccepted m = (p : PoolId) (x : Outstanding) → plan_of p m.plans ≡ Some x → AreFreshPaths x.plan.at m.tree x.paths → is_ok (judge m.configuration m.state x.plan.event) ≡ true

-- what the turns of a series do to a history, where launchers may commit what was useful before

-- of a launcher, what was useful before and is accepted now (own)
abbrev pub launchers_before : Also
launchers_before c journal (Role.Launcher p) e = WasUseful c journal (Role.Launcher p) e
launchers_before c journal (Role.Janitor p) e = ⊥
launchers_before c journal (Role.Requester q) e = ⊥
launchers_before c journal Role.Reaper e = ⊥

-- the series is over, or may take no more turns
abbrev pub HasEnded : {S : Type 0} → (S → Option Ask) → S → ℕ → Type 0
HasEnded asks q rest = (asks q ≡ None) ⊎ (rest ≡ 0)

module _ {S : Type 0} (asks : S → Option Ask) (hears : S → Turn → S → Type 0) (c : Configuration) where
  -- With one ticket the series took these turns, as many as fewer are left, and nothing else was seen
  -- from the first of them on
  pub record TookWithTicket (v : Sight Entry) (p : S) (left : ℕ) (w : Sight Entry) (q : S) (rest : ℕ) : Type 0 where
    pub turns : List (Asked Ask Turn)
    pub first : Sight Entry
    pub saw : Unturned v first
    pub walked : Walked (answers_also launchers_before) recorded c first turns w
    pub heard : Heard asks hears p turns q
    pub count : length turns + rest ≡ left

  -- With several tickets it took these. More may have been seen after the last of them, unless the
  -- series has ended
  pub record TookWithTickets (v : Sight Entry) (p : S) (left : ℕ) (w : Sight Entry) (q : S) (rest : ℕ) : Type 0 where
    pub turns : List (Asked Ask Turn)
    pub last : Sight Entry
    pub walked : Walked (answers_also launchers_before) recorded c v turns last
    pub heard : Heard asks hears p turns q
    pub count : length turns + rest ≡ left
    pub after : Unturned last w
    pub still : HasEnded asks q rest → w ≡ last
