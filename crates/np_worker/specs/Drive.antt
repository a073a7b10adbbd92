-- what a round did with its driver
use Rattle.std.specs.Prelude.{◌≡◌, ◌⊎◌, ◌≤◌, ℕ, List, [], ◌∷◌, ◌++◌, length, Bool, Contains, IsTrue, Option, Some, None, IfSome, suc, false, ◌==◌, if◌then◌else◌}
use Rattle.np_worker.specs.declared.ask.Ask.{Ask}
use Rattle.np_worker.specs.Move.{Move, asked, launched, removed, launches_of}
use Rattle.np_worker.specs.Lower.{AllByRecursion, Configuration, DriverFacts, Entry, Event, KeepsCounts, Launch, MOST_LAUNCHES, NodeId, Outcome, PoolId, Server, State, Tag, Turn, list_any, node_in, option_map, option_map_or, turns, with_launch, with_launched, without_number}

-- what contracts know of a driver, with its plan, which lists of server numbers are sound for it,
-- and for how many servers it has room (own)
pub record Driving : Type 0 where
  pub facts : DriverFacts
  pub plan : Tag → Option Outcome
  pub sound : List ℕ → Bool
  pub room : ℕ

abbrev pub driving : {D : Type 0} → (D → DriverFacts) → (D → Tag → Option Outcome) → (D → List ℕ → Bool) → (D → ℕ) → D → Driving
driving facts plan sound room d = record { facts = facts d; plan = plan d; sound = sound d; room = room d }

-- the servers that are left of these (own)
abbrev pub servers_after : List Move → List Server → List Server
servers_after [] servers = servers
servers_after (asked a t ∷ moves) servers = servers_after moves servers
servers_after (launched tag o ∷ moves) servers = servers_after moves (with_launched tag o servers)
servers_after (removed x ∷ moves) servers = servers_after moves (without_number x servers)

-- a sweep asks about a server that is there (own)
abbrev pub IsOfServer : Ask → List Server → Type 0
IsOfServer (Ask.Sweep pool n x) servers = (server : Server)
    × Contains servers server × (server.tag.node ≡ n) × (server.number ≡ x)
IsOfServer _ servers = Unit {0}

-- each sweep asks about a server that the driver has then (own)
abbrev pub SweepsServers : List Move → List Server → Type 0
SweepsServers [] servers = Unit {0}
SweepsServers (asked a t ∷ moves) servers = IsOfServer a servers × SweepsServers moves servers
SweepsServers (launched tag o ∷ moves) servers = SweepsServers moves (with_launched tag o servers)
SweepsServers (removed x ∷ moves) servers = SweepsServers moves (without_number x servers)

-- what became of each launch is what was planned for it, if anything was (own)
abbrev pub FollowsPlan : (Tag → Option Outcome) → List Move → Type 0
FollowsPlan plan [] = Unit {0}
FollowsPlan plan (launched tag o ∷ moves) =
    IfSome (plan tag) (λ planned. planned ≡ o) × FollowsPlan plan moves
FollowsPlan plan (move ∷ moves) = FollowsPlan plan moves

-- the server that a launch made, if any, is sound by itself (own)
abbrev pub IsSoundAlone : (List ℕ → Bool) → Outcome → Type 0
IsSoundAlone sound (Outcome.Launched x) = IsTrue (sound (x ∷ []))
IsSoundAlone sound Outcome.Failed = Unit {0}

-- the same for each launch (own)
abbrev pub AreSoundAlone : (List ℕ → Bool) → List Move → Type 0
AreSoundAlone sound [] = Unit {0}
AreSoundAlone sound (launched tag o ∷ moves) = IsSoundAlone sound o × AreSoundAlone sound moves
AreSoundAlone sound (move ∷ moves) = AreSoundAlone sound moves

-- a launch failed only when there were as many servers as the driver has room for, or as many
-- launches answered as may be, if it reports them (own)
abbrev pub FailsFull : ℕ → Outcome → Option (List Launch) → Option (List Server) → Type 0
FailsFull room (Outcome.Launched x) launches servers = Unit {0}
FailsFull room Outcome.Failed launches servers =
    IfSome servers (λ some. room ≤ length some) ⊎ IfSome launches (λ some. MOST_LAUNCHES ≤ length some)

-- the same for each launch, with the launches that were answered and the servers that were there
-- then (own)
abbrev pub FailFull : ℕ → List Move → Option (List Launch) → Option (List Server) → Type 0
FailFull room [] launches servers = Unit {0}
FailFull room (launched tag o ∷ moves) launches servers = FailsFull room o launches servers
    × FailFull room moves (option_map (with_launch tag o) launches) (option_map (with_launched tag o) servers)
FailFull room (asked a t ∷ moves) launches servers = FailFull room moves launches servers
FailFull room (removed x ∷ moves) launches servers = FailFull room moves launches (option_map (without_number x) servers)

-- the driver's answers grew by the launches, its servers are what these and the removals left, what
-- it plans, what is sound for it and its room stayed, and no count fell (own)
pub record Drives (moves : List Move) (before now : Driving) : Type 0 where
  pub answered : now.facts.answered ≡ option_map (λ launches. launches ++ launches_of moves) before.facts.answered
  pub servers : now.facts.servers ≡ option_map (servers_after moves) before.facts.servers
  pub swept : IfSome before.facts.servers (λ servers. SweepsServers moves servers)
  pub planned : FollowsPlan before.plan moves
  pub alone : IfSome before.facts.servers (λ servers. AreSoundAlone before.sound moves)
  pub full : FailFull before.room moves before.facts.answered before.facts.servers
  pub plan : now.plan ≡ before.plan
  pub sound : now.sound ≡ before.sound
  pub room : now.room ≡ before.room
  pub counts : KeepsCounts before.facts now.facts

-- a worker without a driver drives none (own)
abbrev pub Drove : List Move → Option Driving → Option Driving → Type 0
Drove moves None None = Unit {0}
Drove moves (Some before) (Some now) = Drives moves before now
Drove moves _ _ = ⊥

-- what a journal reports of the launches of a pool

-- ## of which pool a report is

-- the node is there, and of the pool (own)
abbrev pub is_node_of : PoolId → NodeId → State → Bool
is_node_of p n s = option_map_or (λ k. k.pool.0 == p.0) (node_in n s.nodes) false

-- it was so before one of these turns; when its launch is reported, the node may be gone (own)
abbrev pub was_node_of : PoolId → NodeId → List Turn → Bool
was_node_of p n past = list_any (λ t. is_node_of p n t.before) past

-- what the event reports of a launch of the pool, after these turns, if it does (own)
abbrev pub reported : PoolId → List Turn → Event → List Outcome
reported p past (Event.Done session n attempt o) = if was_node_of p n past then o ∷ [] else []
reported p past _ = []

abbrev pub reports_from : PoolId → List Turn → List Turn → List Outcome
reports_from p past [] = []
reports_from p past (t ∷ ts) = reported p past t.entry.event ++ reports_from p (past ++ t ∷ []) ts

-- what the journal reports of the pool's launches, in order and whatever the replies (own)
abbrev pub reports_of : Configuration → PoolId → List Entry → List Outcome
reports_of c p journal = reports_from p [] (turns c journal)

-- ## servers

-- the number of the server, if one was launched (own)
abbrev pub number_in : Outcome → List ℕ
number_in (Outcome.Launched x) = x ∷ []
number_in Outcome.Failed = []

-- the numbers of the servers that were launched, in order (own)
abbrev pub numbers_in : List Outcome → List ℕ
numbers_in [] = []
numbers_in (o ∷ outcomes) = number_in o ++ numbers_in outcomes

-- each server that was launched is sound by itself (own)
abbrev pub AreAloneSound : (List ℕ → Bool) → List Outcome → Type 0
AreAloneSound sound outcomes = AllByRecursion (IsSoundAlone sound) outcomes

-- each failure comes after at least this many launched servers, of which this many came before the
-- list (own)
abbrev pub FailAfter : ℕ → ℕ → List Outcome → Type 0
FailAfter room n [] = Unit {0}
FailAfter room n (Outcome.Launched x ∷ outcomes) = FailAfter room (suc n) outcomes
FailAfter room n (Outcome.Failed ∷ outcomes) = (room ≤ n) × FailAfter room n outcomes
