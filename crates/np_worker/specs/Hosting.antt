-- what holds of a journal that drivers carried, and what is kept from round to round
use Rattle.std.specs.Prelude.{ℕ, List, [], ◌∷◌, ◌++◌, Bool, true, false, ◌==◌, ◌&&◌, if◌then◌else◌, Option, Some, None, ◌≡◌, map, slice_get, IfSome, IsTrue, is_some, ◌≤◌, ◌+◌, length, All, Contains, is_ok, ◌⊎◌, MatchBool, Result, Ok, Err}
use Rattle.np_worker.specs.Prelude.{DistinctNumbers, DriverFacts, Driving, Launch, Server, Soundness, Tag, Move, OwesRemoval, Phase, Work, driving, ended, of_pool, of_reaper, of_requester, rests, sweeps}
use Rattle.np_worker.specs.Drive.{reports_of, numbers_in, AreAloneSound, FailAfter}
use Rattle.np_worker.specs.Servers.{Player, drivings_of, HaveDriven}
use Rattle.np_worker.specs.declared.worker.RoundEnd.{RoundEnd}
use Rattle.np_worker.specs.declared.worker.Worker.{Worker}
use Rattle.np_worker.specs.Stage.{RemovalFailed, AreKept}
use Rattle.np_worker.specs.Lower.{Configuration, Entry, Event, Launcher, NoMemory, NodeEntry, NodeId, NodeRecord, NodeState, Outcome, PoolId, SessionId, State, after, judge, node_in, role_of}

-- which servers a pool's nodes have

-- launched, and not given up: ready, in use, used or on hold (Nodepool)
abbrev pub is_up : NodeState → Bool
is_up NodeState.Building = false
is_up NodeState.Deleting = false
is_up NodeState.Failed = false
is_up _ = true

abbrev pub listed : Option ℕ → List ℕ
listed None = []
listed (Some x) = x ∷ []

-- the server of the node, if the node is of the pool and up (own)
abbrev pub server_up : PoolId → NodeRecord → List ℕ
server_up p k = if (k.pool.0 == p.0) && is_up k.state then listed k.server else []

-- the servers of the pool's nodes that are up, in the order of the nodes (own)
abbrev pub servers_up : PoolId → List NodeEntry → List ℕ
servers_up p [] = []
servers_up p (e ∷ nodes) = server_up p e.kept ++ servers_up p nodes

-- what holds of a journal that drivers carried

-- ## drivers

-- the driver reports its answers and its servers, and has no servers (own)
pub record BeginsEmpty (facts : DriverFacts) : Type 0 where
  pub answered : is_some facts.answered ≡ true
  pub servers : facts.servers ≡ Some []

-- the same, and it has answered no launch (own)
pub record BeginsNew (facts : DriverFacts) : Type 0 where
  pub answered : facts.answered ≡ Some []
  pub servers : facts.servers ≡ Some []

-- the driver answered no two launches with the same server number, if it reports its answers (own)
abbrev pub NeverRepeats : Driving → Type 0
NeverRepeats d = IfSome d.facts.answered (λ launches. DistinctNumbers (numbers_in (map (λ launch. launch.outcome) launches)))

-- ## journals

-- the drivers, in the order of the pools, carried the journal: after each part that ends with a
-- tick, the servers of a pool's nodes that are up are sound for its driver, if that never repeats a
-- number; and each server that a report names is sound by itself (own)
pub record AreCarried (c : Configuration) (journal : List Entry) (drivings : List Driving) : Type 0 where
  pub nodes : (p : PoolId) (d : Driving) → slice_get drivings p.0 ≡ Some d → NeverRepeats d
      → (before rest : List Entry) (e : Entry) → journal ≡ before ++ e ∷ rest → e.event ≡ Event.Tick
      → IsTrue (d.sound (servers_up p (after c (before ++ e ∷ [])).nodes))
  pub reports : (p : PoolId) (d : Driving) → slice_get drivings p.0 ≡ Some d → AreAloneSound d.sound (reports_of c p journal)

-- the journal reports a failed launch of a pool only after as many launched servers as the pool's
-- driver has room for (own)
pub record FailOnlyFull (c : Configuration) (journal : List Entry) (drivings : List Driving) : Type 0 where
  pub failed : (p : PoolId) (d : Driving) → slice_get drivings p.0 ≡ Some d → FailAfter d.room 0 (reports_of c p journal)

-- what is kept from round to round of a pool, its driver and the journal

-- ## nodes and servers

-- a launch for the node returned this server (own)
pub record WasLaunchedFor (launches : List Launch) (n : NodeId) (x : ℕ) : Type 0 where
  pub tag : Tag
  pub node : tag.node ≡ n
  pub answered : Contains launches (record { tag = tag; outcome = Outcome.Launched x })

-- this server of the node is among these (own)
pub record IsServerOf (servers : List Server) (n : NodeId) (x : ℕ) : Type 0 where
  pub server : Server
  pub there : Contains servers server
  pub node : server.tag.node ≡ n
  pub number : server.number ≡ x

-- each server of a node of the pool was launched for it (own)
abbrev pub WereLaunched : PoolId → State → List Launch → Type 0
WereLaunched p s launches = (n : NodeId) (k : NodeRecord) (x : ℕ) → node_in n s.nodes ≡ Some k → k.pool.0 ≡ p.0 → k.server ≡ Some x → WasLaunchedFor launches n x

-- each server of a node of the pool that is up is one of the driver's (own)
abbrev pub ArePresent : PoolId → State → List Server → Type 0
ArePresent p s servers = (n : NodeId) (k : NodeRecord) (x : ℕ) → node_in n s.nodes ≡ Some k → k.pool.0 ≡ p.0 → is_up k.state ≡ true → k.server ≡ Some x → IsServerOf servers n x

-- the machine would accept no report of the pool's launcher (own)
abbrev pub HasNoReport : Configuration → PoolId → State → Type 0
HasNoReport c p s = (session : SessionId) (n : NodeId) (k : ℕ) (o : Outcome) → role_of session s ≡ Some (Launcher p) → is_ok (judge c s (Event.Done session n k o)) ≡ true → ⊥

-- ## a pool and its driver

-- after this many launches that were answered before, the journal is carried by the pool's driver
-- (own)
pub record Carries (earlier : ℕ) (c : Configuration) (journal : List Entry) (p : PoolId) (d : Driving) : Type 0 where
  pub nodes : NeverRepeats d → (before rest : List Entry) (e : Entry) → journal ≡ before ++ e ∷ rest → e.event ≡ Event.Tick
      → IsTrue (d.sound (servers_up p (after c (before ++ e ∷ [])).nodes))
  pub reports : AreAloneSound d.sound (reports_of c p journal)
  pub failed : earlier ≡ 0 → FailAfter d.room 0 (reports_of c p journal)

-- and all that was launched was reported, so that the next round may follow (own)
pub record Hosts (earlier : ℕ) (c : Configuration) (journal : List Entry) (p : PoolId) (d : Driving) : Type 0 where
  pub carries : Carries earlier c journal p d
  pub launches : List Launch
  pub servers : List Server
  pub answered : d.facts.answered ≡ Some launches
  pub told : d.facts.servers ≡ Some servers
  pub made : (server : Server) → Contains servers server → Contains launches (record { tag = server.tag; outcome = Outcome.Launched server.number })
  pub idle : HasNoReport c p (after c journal)
  pub launched : WereLaunched p (after c journal) launches
  pub present : NeverRepeats d → ArePresent p (after c journal) servers
  pub few : length launches ≤ earlier + length (reports_of c p journal)
  pub fits : length servers ≤ length (numbers_in (reports_of c p journal))

-- ## all pools

-- how many launches each pool's driver had answered before the first round (own)
abbrev pub Earlier : Type 0
Earlier = PoolId → ℕ

-- what always holds of the lists that are sound for each driver (own)
abbrev pub HaveSoundness : List Driving → Type 0
HaveSoundness drivings = All (λ d. Soundness d.facts d.sound) drivings

-- each driver reports its answers, no more than are counted, and that it has no servers (own)
abbrev pub BeginAfter : Earlier → List Driving → Type 0
BeginAfter earlier drivings = (p : PoolId) (d : Driving) → slice_get drivings p.0 ≡ Some d
    → IfSome d.facts.answered (λ launches. length launches ≤ earlier p) × BeginsEmpty d.facts

-- the players drove the journal, and each pool's driver carries it, so that a round may follow (own)
pub record HaveHosted (earlier : Earlier) (c : Configuration) (journal : List Entry) (players : List Player) : Type 0 where
  pub driven : HaveDriven c journal players
  pub hosts : (p : PoolId) (d : Driving) → slice_get (drivings_of players) p.0 ≡ Some d → Hosts (earlier p) c journal p d

-- the same; if the journal is full no round may follow (own)
abbrev pub IsHosted : Earlier → Configuration → Bool → List Entry → List Player → Type 0
IsHosted earlier c true journal players = (p : PoolId) (d : Driving) → slice_get (drivings_of players) p.0 ≡ Some d → Carries (earlier p) c journal p d
IsHosted earlier c false journal players = HaveHosted earlier c journal players

-- what a round came to

-- a round that was not cut off: all servers were asked about, or a removal failed (own)
abbrev pub Rests : Work → Option Driving → Option Driving → List Move → Phase → Type 0
Rests (of_pool pool) before now trace to =
    ((to ≡ sweeps pool) × AreKept pool trace now) ⊎ (OwesRemoval to × RemovalFailed before now)
Rests _ before now trace to = to ≡ rests

-- a round ends when a turn found the journal full, or with its work done; if memory ran out,
-- anywhere (own)
abbrev pub EndsAs : Work → Option Driving → Option Driving → Result RoundEnd NoMemory → List Move → Phase → Type 0
EndsAs work before now (Ok end) trace to =
    MatchBool end.full (to ≡ ended) (Rests work before now trace to)
EndsAs work before now (Err _) trace to = Unit {0}

-- whose worker it is (own)
abbrev pub work_of : {D : Type 0} → Worker D → Work
work_of (Worker.Pool pool driver) = of_pool pool
work_of (Worker.Requester q) = of_requester q
work_of Worker.Reaper = of_reaper

-- what it drives (own)
abbrev pub driving_of : {D : Type 0} → (D → DriverFacts) → (D → Tag → Option Outcome) → (D → List ℕ → Bool) → (D → ℕ) → Worker D → Option Driving
driving_of facts plan sound room (Worker.Pool pool driver) = Some (driving facts plan sound room driver)
driving_of facts plan sound room _ = None
