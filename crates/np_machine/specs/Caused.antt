-- why a request failed
use Rattle.std.specs.Prelude.{◌≡◌, ◌<◌, ℕ, Bool, true, false, ◌==◌, List, [], ◌∷◌, ◌++◌, Some, None, ◌⊎◌, length, ◌&&◌, Contains, count_by}
use Rattle.std.specs.Option.{option_map_or}
use Rattle.np_machine.specs.declared.state.Registration.{Registration}
use Rattle.np_machine.specs.Kinds.{is_failed}
use Rattle.np_machine.specs.Tables.{role_of, request_in, node_in}
use Rattle.np_machine.specs.Count.{retries_of}
use Rattle.np_machine.specs.Reasons.{is_true}
use Rattle.np_machine.specs.Turns.{Turn, turns, SomeTurn, EachTurn, is_done, IsAccepted}
use Rattle.np_machine.specs.State.{State}
use Rattle.np_machine.specs.Lower.{Configuration, Entry, Event, Launcher, NodeId, NodeRecord, Outcome, PoolId, Reason, RequestId, RequestRecord, SessionId}

-- the request is there and failed
abbrev pub has_failed : RequestId → State → Bool
has_failed r s = option_map_or (λ request. is_failed request.state) (request_in r s.requests) false

-- the request fails in the turn
pub record FailsNow (t : Turn) (r : RequestId) (request : RequestRecord) : Type 0 where
  pub before : has_failed r t.before ≡ false
  pub stands : request_in r t.later.requests ≡ Some request
  pub failed : is_failed request.state ≡ true

-- an accepted decline of the request by a session of the pool, for this reason, which was true at its own place
pub record IsTrueDecline (c : Configuration) (r : RequestId) (p : PoolId) (why : Reason) (t : Turn) : Type 0 where
  pub session : SessionId
  pub request : RequestRecord
  pub event : t.entry.event ≡ Event.Decline session r why
  pub accepted : IsAccepted t
  pub of_pool : role_of session t.before ≡ Some (Launcher p)
  pub stood : request_in r t.before.requests ≡ Some request
  pub holds : is_true c t.before p request why ≡ true

-- the pool is among the request's declines, by an accepted decline whose reason was true
pub record HasDeclined (c : Configuration) (past : List Turn) (r : RequestId) (request : RequestRecord) (p : PoolId) : Type 0 where
  pub why : Reason
  pub listed : Contains request.declined (record { pool = p; reason = why })
  pub made : SomeTurn (IsTrueDecline c r p why) past

-- every pool that is registered then has declined, each for a reason that was true (Nodepool: declined by all)
pub record DeclinedByAll (c : Configuration) (past : List Turn) (t : Turn) (r : RequestId) (request : RequestRecord) : Type 0 where
  pub unpinned : request.pinned ≡ None
  pub some_registered : 0 < length t.later.registrations
  pub each : (g : Registration) → Contains t.later.registrations g → HasDeclined c past r request g.pool

-- an accepted report on a launch of the node, with this outcome
pub record Reports (n : NodeId) (o : Outcome) (t : Turn) : Type 0 where
  pub session : SessionId
  pub attempt : ℕ
  pub event : t.entry.event ≡ Event.Done session n attempt o
  pub accepted : IsAccepted t

-- the event reports on a launch of the node
abbrev pub is_report_on : NodeId → Event → Bool
is_report_on n (Event.Done session m attempt o) = m.0 == n.0
is_report_on n _ = false

-- an accepted report on the node says that its launch failed; any other turn may be anything
abbrev pub ReportsFailure : NodeId → Turn → Type 0
ReportsFailure n t = is_report_on n t.entry.event ≡ true → IsAccepted t → Reports n Outcome.Failed t

-- how many accepted reports on the node the turns have
abbrev pub reports_on : NodeId → List Turn → ℕ
reports_on n ts = count_by (λ t. is_report_on n t.entry.event && is_done t.entry.reply) ts

-- the pool that made a min-ready request declines it with a node whose launches are used up: as many reports as the provider allows, and all of them failures (Nodepool: launch-retries)
pub record LaunchesSpent (c : Configuration) (past : List Turn) (t : Turn) (r : RequestId) (request : RequestRecord) : Type 0 where
  pub pool : PoolId
  pub pinned : request.pinned ≡ Some pool
  pub session : SessionId
  pub number : NodeId
  pub event : t.entry.event ≡ Event.Decline session r (Reason.Spent number)
  pub by_launcher : role_of session t.before ≡ Some (Launcher pool)
  pub node : NodeRecord
  pub stood : node_in number t.before.nodes ≡ Some node
  pub of_pool : node.pool.0 ≡ pool.0
  pub as_many : reports_on number past ≡ retries_of c pool
  pub all_failed : EachTurn (ReportsFailure number) past

-- what made the request fail; past has the turn as its last
abbrev pub HasCause : Configuration → List Turn → Turn → RequestId → RequestRecord → Type 0
HasCause c past t r request = DeclinedByAll c past t r request ⊎ LaunchesSpent c past t r request

abbrev pub CausedFrom : Configuration → List Turn → List Turn → Type 0
CausedFrom c past [] = Unit {0}
CausedFrom c past (t ∷ ts) =
    ((r : RequestId) (request : RequestRecord) → FailsNow t r request → HasCause c (past ++ t ∷ []) t r request)
    × CausedFrom c (past ++ t ∷ []) ts

-- each entry in which a request fails has its cause at or before it (own)
abbrev pub Caused : Configuration → List Entry → Type 0
Caused c journal = CausedFrom c [] (turns c journal)
