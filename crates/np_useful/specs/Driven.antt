-- when a journal was driven by the parties and their clouds, and not by a script
use Rattle.std.specs.Prelude.{◌≡◌, ◌&&◌, ◌==◌, ℕ, Bool, true, false, List, [], ◌∷◌, ◌++◌, Some, ◌⊎◌, ◌≤◌, length, take, is_ok}
use Rattle.np_useful.specs.Sessions.{is_current}
use Rattle.np_useful.specs.Useful.{IsUseful}
use Rattle.np_useful.specs.Lower.{Configuration, Done, EachTurn, Entry, Event, Janitor, NodeId, NodeRecord, Outcome, PoolId, Reply, Role, SessionId, SomeTurn, Turn, after, is_node, is_session, is_swept, judge, node_in, outcome_of, turns}

-- ## a useful event

-- useful for some role, in the state before it (own)
pub record IsOfUse (c : Configuration) (t : Turn) : Type 0 where
  pub role : Role
  pub useful : IsUseful c t.before role t.entry.event

-- ## a tick

-- time advances by one (own)
abbrev pub is_tick : Event → Bool
is_tick Event.Tick = true
is_tick _ = false

-- a tick after something else: neither the first entry nor next to another tick (own)
pub record IsTickBetween (past : List Turn) (t : Turn) : Type 0 where
  pub event : t.entry.event ≡ Event.Tick
  pub earlier : List Turn
  pub previous : Turn
  pub follows : past ≡ earlier ++ previous ∷ []
  pub other : is_tick previous.entry.event ≡ false

-- ## a sweep

-- a report on the node, whatever its reply, names this server (own)
pub record NamesServer (n : NodeId) (x : ℕ) (t : Turn) : Type 0 where
  pub session : SessionId
  pub attempt : ℕ
  pub event : t.entry.event ≡ Event.Done session n attempt (Outcome.Launched x)

-- the current session of a janitor removes a server that some report named for the node, and that was not swept yet (Nodepool: cleanup of leaked instances)
pub record IsSweepOfServer (past : List Turn) (t : Turn) : Type 0 where
  pub session : SessionId
  pub pool : PoolId
  pub number : NodeId
  pub server : ℕ
  pub event : t.entry.event ≡ Event.Sweep session number server
  pub removed : t.entry.reply ≡ Reply.Done Done.Remove
  pub current : is_current (Janitor pool) session t.before ≡ true
  pub named : SomeTurn (NamesServer number server) past
  pub unswept : is_swept number server t.before.swept ≡ false

-- ## a report of a cloud

-- what became of launches: of which pool and node, which attempt of the node, which start of the pool, and its outcome (own)
abbrev pub Says : Type 1
Says = PoolId → NodeId → ℕ → ℕ → Outcome → Type 0

-- a start of the session on the node that was answered with this attempt, as the start of this number in the pool, which the node is of (Nodepool: a launch)
pub record BeginsLaunch (session : SessionId) (n : NodeId) (attempt m : ℕ) (p : PoolId) (t : Turn) : Type 0 where
  pub event : t.entry.event ≡ Event.Start session n
  pub started : t.entry.reply ≡ Reply.Done (Done.Started attempt m)
  pub node : NodeRecord
  pub stood : node_in n t.before.nodes ≡ Some node
  pub of_pool : node.pool.0 ≡ p.0

-- the event is the session's report on this attempt of the node (own)
abbrev pub is_report_of : SessionId → NodeId → ℕ → Event → Bool
is_report_of session n attempt (Event.Done by m k o) = is_session by session && is_node n m && (k == attempt)
is_report_of session n attempt _ = false

module _ (says : Says) where
  -- the first report on a launch that was begun, as it was answered; its reply may be a refusal, if
  -- the session ended during the launch (own)
  pub record IsReportOfLaunch (past : List Turn) (t : Turn) : Type 0 where
    pub session : SessionId
    pub number : NodeId
    pub attempt : ℕ
    pub outcome : Outcome
    pub event : t.entry.event ≡ Event.Done session number attempt outcome
    pub start : ℕ
    pub pool : PoolId
    pub begun : SomeTurn (BeginsLaunch session number attempt start pool) past
    pub first : EachTurn (λ u. is_report_of session number attempt u.entry.event ≡ false) past
    pub answered : says pool number attempt start outcome

  -- ## the journal

  -- the turn is one of these, after the earlier turns (own)
  abbrev pub IsDrivenTurn : Configuration → List Turn → Turn → Type 0
  IsDrivenTurn c past t = IsOfUse c t ⊎ (IsTickBetween past t ⊎ (IsSweepOfServer past t ⊎ IsReportOfLaunch past t))

  -- each of the turns is one of these, after the earlier turns (own)
  abbrev pub DrivenFrom : Configuration → List Turn → List Turn → Type 0
  DrivenFrom c past [] = Unit {0}
  DrivenFrom c past (t ∷ ts) = IsDrivenTurn c past t × DrivenFrom c (past ++ t ∷ []) ts

  -- each entry is one of these, at its place (own)
  abbrev pub DrivenBy : Configuration → List Entry → Type 0
  DrivenBy c journal = DrivenFrom c [] (turns c journal)

-- what is planned for the start (own)
abbrev pub as_planned : Configuration → Says
as_planned c pool n attempt start o = outcome_of c pool start ≡ o

-- each launch was answered as it is planned (own)
abbrev pub Driven : Configuration → List Entry → Type 0
Driven c journal = DrivenBy (as_planned c) c journal

-- events that were chosen on an older state and committed later

-- a launcher's events that can be planned (own)
abbrev pub is_planned : Event → Bool
is_planned (Event.Start session n) = true
is_planned (Event.UnlockNode session n) = true
is_planned (Event.UnlockRequest session r) = true
is_planned (Event.Decline session r why) = true
is_planned (Event.TakeReady session r n) = true
is_planned (Event.Fulfil session r) = true
is_planned _ = false

-- the event can be planned, was useful for the role after some beginning of the journal, and is accepted after all of it (own)
pub record WasUseful (c : Configuration) (journal : List Entry) (role : Role) (e : Event) : Type 0 where
  pub planned : is_planned e ≡ true
  pub place : ℕ
  pub within : place ≤ length journal
  pub useful : IsUseful c (after c (take place journal)) role e
  pub accepted : is_ok (judge c (after c journal) e) ≡ true

-- the same of a turn: useful for some role in the state before an earlier turn, or before this one (own)
pub record WasOfUse (c : Configuration) (past : List Turn) (t : Turn) : Type 0 where
  pub role : Role
  pub planned : is_planned t.entry.event ≡ true
  pub useful : SomeTurn (λ u. IsUseful c u.before role t.entry.event) (past ++ t ∷ [])
  pub accepted : is_ok (judge c t.before t.entry.event) ≡ true
