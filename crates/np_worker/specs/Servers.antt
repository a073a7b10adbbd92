-- who plays a site, what became of a driver's servers in a round, and plans on an older state
use Rattle.std.specs.Prelude.{◌⊎◌, Bool, true, false, List, [], ◌≡◌, ℕ, suc, ◌∷◌, ◌++◌, All, Contains, slice_get, Option, Some, None, IfSome, ◌≤◌, length}
use Rattle.np_worker.specs.Prelude.{IsUseful, WasOfUse, WasUseful, Driving, Launch, NamesServer, Server, Work, of_pool, Move, Sight, StartsWith, launches_of}
use Rattle.np_worker.specs.declared.ask.Ask.{Ask}
use Rattle.np_worker.specs.declared.ask.Turn.{Turn as Answer}
use Rattle.np_worker.specs.Answers.{Also, nothing_else, answers_also, IsDue, IsKept}
use Rattle.np_worker.specs.Lower.{Configuration, DrivenBy, EachAfter, Entry, Event, IsDrivenTurn, Janitor, NodeId, NodeRecord, Outcome, PoolId, Role, Says, SessionId, SomeTurn, Turn, after, as_planned, has_current, is_swept, is_wanted, node_in, turns}

-- journals of parties that may commit what they chose on an older state

-- ## what a role chooses

-- what may be recorded for a role beside what is useful now: nothing, or, if events are planned, what was useful before (own)
abbrev pub also_of : Bool → Also
also_of false = nothing_else
also_of true = WasUseful

abbrev pub answers_of : Bool → Configuration → List Entry → Ask → Answer → Type 0
answers_of plans = answers_also (also_of plans)

-- useful for the role now, or one of those (own)
abbrev pub IsChosen : Bool → Configuration → List Entry → Role → Event → Type 0
IsChosen plans c journal role e = IsUseful c (after c journal) role e ⊎ also_of plans c journal role e

-- ## the journal

module _ (says : Says) where
  -- the turn is one of a driven journal, or commits an event that was useful before (own)
  abbrev pub IsPlannedTurn : Configuration → List Turn → Turn → Type 0
  IsPlannedTurn c past t = IsDrivenTurn says c past t ⊎ WasOfUse c past t

  -- each entry is one of these, at its place (own)
  abbrev pub PlannedBy : Configuration → List Entry → Type 0
  PlannedBy c journal = EachAfter (IsPlannedTurn c) [] (turns c journal)

  -- ## either

  abbrev pub IsTurnAs : Bool → Configuration → List Turn → Turn → Type 0
  IsTurnAs false c past t = IsDrivenTurn says c past t
  IsTurnAs true c past t = IsPlannedTurn c past t

  abbrev pub DrivenAs : Bool → Configuration → List Entry → Type 0
  DrivenAs false c journal = DrivenBy says c journal
  DrivenAs true c journal = PlannedBy c journal

-- each launch was answered as it is planned in the configuration (own)
abbrev pub PlannedDriven : Configuration → List Entry → Type 0
PlannedDriven c journal = PlannedBy (as_planned c) c journal

-- who plays a site: workers as contracts see them, and what is known of what they drive

-- a worker: whose it is, and what it drives (own)
pub record Player : Type 0 where
  pub work : Work
  pub driving : Option Driving

-- ## drivers

-- what these players drive, in order (own)
abbrev pub driving_in : Option Driving → List Driving
driving_in None = []
driving_in (Some driving) = driving ∷ []

abbrev pub drivings_of : List Player → List Driving
drivings_of [] = []
drivings_of (player ∷ players) = driving_in player.driving ++ drivings_of players

-- a pool's worker is that of the pool of this number and has a driver; any other has none (own)
abbrev pub IsNumbered : ℕ → Work → Option Driving → Type 0
IsNumbered n (of_pool pool) (Some driving) = pool.0 ≡ n
IsNumbered n (of_pool pool) None = ⊥
IsNumbered n _ None = Unit {0}
IsNumbered n _ (Some driving) = ⊥

abbrev pub next_number : ℕ → Work → ℕ
next_number n (of_pool pool) = suc n
next_number n _ = n

-- the pools' workers are in the order of the pools, the first of them that of the pool of this
-- number (own)
abbrev pub AreNumbered : ℕ → List Player → Type 0
AreNumbered n [] = Unit {0}
AreNumbered n (player ∷ players) = IsNumbered n player.work player.driving × AreNumbered (next_number n player.work) players

-- ## launches

abbrev pub launch_of : PoolId → NodeId → ℕ → ℕ → Outcome → Launch
launch_of pool n attempt start o = record { tag = record { pool = pool; node = n; attempt = attempt; start = start }; outcome = o }

-- the pool's driver answered this to the launch, if it reports its answers, and as it planned to,
-- if it plans (own)
pub record WasAnswered (drivings : List Driving) (pool : PoolId) (n : NodeId) (attempt start : ℕ) (o : Outcome) : Type 0 where
  pub driving : Driving
  pub of_pool : slice_get drivings pool.0 ≡ Some driving
  pub answered : IfSome driving.facts.answered (λ launches. Contains launches (launch_of pool n attempt start o))
  pub planned : IfSome (driving.plan (launch_of pool n attempt start o).tag) (λ planned. planned ≡ o)

-- ## servers

-- some report named the server for its node, whatever its reply (own)
abbrev pub WasNamed : Configuration → List Entry → Server → Type 0
WasNamed c journal server = SomeTurn (NamesServer server.tag.node server.number) (turns c journal)

-- the driver reports its servers, and each of them was named (own)
pub record AreNamed (c : Configuration) (journal : List Entry) (driving : Driving) : Type 0 where
  pub servers : List Server
  pub told : driving.facts.servers ≡ Some servers
  pub named : All (WasNamed c journal) servers

-- ## journals

-- the players drove the journal, with planned events or without, and each server that they have was
-- named in it (own)
pub record HaveDrivenAs (plans : Bool) (c : Configuration) (journal : List Entry) (players : List Player) : Type 0 where
  pub driven : DrivenAs (WasAnswered (drivings_of players)) plans c journal
  pub named : All (AreNamed c journal) (drivings_of players)
  pub numbered : AreNumbered 0 players

-- without: each entry was useful now, or a tick, a sweep or a report (own)
abbrev pub HaveDriven : Configuration → List Entry → List Player → Type 0
HaveDriven c journal players = HaveDrivenAs false c journal players

-- what became of a driver's servers in a round

-- ## which servers

-- the player's driver reports its servers, and these are all that it has (own)
pub record HasServers (player : Player) (servers : List Server) : Type 0 where
  pub driving : Driving
  pub drives : player.driving ≡ Some driving
  pub told : driving.facts.servers ≡ Some servers

-- a launch of the round returned this server (own)
abbrev pub WasLaunched : List Move → Server → Type 0
WasLaunched trace server = Contains (launches_of trace)
    (record { tag = server.tag; outcome = Outcome.Launched server.number })

-- the driver had the server before the round, or launched it in the round (own)
abbrev pub IsOfRound : List Move → List Server → Server → Type 0
IsOfRound trace servers server = Contains servers server ⊎ WasLaunched trace server

-- no other server of the round has this one's number (own)
abbrev pub IsOnlyOfItsNumber : List Move → List Server → Server → Type 0
IsOnlyOfItsNumber trace servers server =
    (other : Server) → IsOfRound trace servers other → other.number ≡ server.number → other ≡ server

-- at no time of the round has another node of the pool a server of this number (own)
abbrev pub IsOnlyNodeOfItsNumber : Configuration → List Entry → List Entry → PoolId → Server → Type 0
IsOnlyNodeOfItsNumber c history seen pool server =
    (before : List Entry) → StartsWith before history → StartsWith seen before → (n : NodeId) (node : NodeRecord)
    → node_in n (after c before).nodes ≡ Some node → node.pool.0 ≡ pool.0 → node.server ≡ Some server.number → n ≡ server.tag.node

-- ## servers that left

-- at some time of the round, after a history that was seen, a node of the pool was due with a server of this number (own)
pub record WasDue (c : Configuration) (history seen : List Entry) (pool : PoolId) (x : ℕ) : Type 0 where
  pub before : List Entry
  pub node : NodeId
  pub of_round : StartsWith before history
  pub of_seen : StartsWith seen before
  pub due : IsDue pool (after c before) node (Some x)

-- after what was seen the server is swept (own)
abbrev pub IsSweptAfter : Configuration → List Entry → Server → Type 0
IsSweptAfter c seen server = is_swept server.tag.node server.number (after c seen).swept ≡ true

-- the driver had in the round a server of this number that is swept after what was seen (own)
pub record WasSwept (c : Configuration) (seen : List Entry) (trace : List Move) (servers : List Server) (x : ℕ) : Type 0 where
  pub server : Server
  pub of_round : IsOfRound trace servers server
  pub number : server.number ≡ x
  pub swept : IsSweptAfter c seen server

-- a server left with a cause: a due node had its number, or a server of its number is swept (own)
abbrev pub LeftWithCause : Configuration → List Entry → List Entry → PoolId → List Move → List Server → Server → Type 0
LeftWithCause c history seen pool trace servers server =
    WasDue c history seen pool server.number ⊎ WasSwept c seen trace servers server.number

-- ## servers that stay

-- the entry at this place is a sweep (own)
pub record IsSweepAt (seen : List Entry) (x : ℕ) : Type 0 where
  pub entry : Entry
  pub stands : slice_get seen x ≡ Some entry
  pub session : SessionId
  pub node : NodeId
  pub server : ℕ
  pub event : entry.event ≡ Event.Sweep session node server

-- at some time of the round, after a history that was seen, the server was kept; from then on the round made no entries but sweeps (own)
pub record StaysKept (c : Configuration) (history : List Entry) (sight : Sight Entry) (pool : PoolId) (server : Server) : Type 0 where
  pub before : List Entry
  pub of_round : StartsWith before history
  pub of_seen : StartsWith sight.seen before
  pub kept : IsKept pool server.tag.node server.number (after c before)
  pub rest : (x : ℕ) → Contains sight.mine x → length before ≤ x → IsSweepAt sight.seen x

-- ## servers that nobody wants

-- at some time of the history the server had been named, and no record wanted it (own)
pub record WasUnwanted (c : Configuration) (history : List Entry) (server : Server) : Type 0 where
  pub before : List Entry
  pub of_history : StartsWith history before
  pub named : WasNamed c before server
  pub unwanted : is_wanted (after c before) server.tag.node server.number ≡ false

-- the pool's janitor has a session at each time of the round (own)
abbrev pub KeepsJanitor : Configuration → List Entry → List Entry → PoolId → Type 0
KeepsJanitor c history seen pool =
    (before : List Entry) → StartsWith before history → StartsWith seen before → has_current (Janitor pool) (after c before) ≡ true
