-- one law for each table that an event may change: the parts for the change are accepted, and leave a
-- tree of the changed state
use Rattle.std.specs.Prelude.{◌≡◌, ◌<◌, ◌≤◌, ◌+◌, ◌^◌, ◌==◌, ℕ, Bool, true, List, length, Option, Some, None, if◌then◌else◌, is_some, IfSome, nat_lt, is_ok}
use Rattle.np_layout.specs.Prelude.{AreDistinct, HasSpellings, IsGood, IsJob, IsNode, IsRequest, IsSessionRole, TreeState, Goes, HasGoodIds, HasRoomFor, IsWhole, LaysOut, after_parts, IsCarried, IsStored}
use Rattle.np_layout.specs.declared.place.Place.TheVariants.{Request, Launcher, Swept}
use Rattle.np_layout.specs.Parts.{deed_parts, grown_parts, handles_parts, jobs_parts, nodes_of, nodes_parts, requests_parts, session_parts, tick_parts, with_begin, writer, enacted, parts_of, Enacts, Stands}
use Rattle.np_layout.specs.Lower.{AllByRecursion, Changes, Configuration, Deed, Event, Fits, Growth, HandlesChange, Invariant, IsReason, IsSound, JobId, JobsChange, Maker, NodeEntry, NodesChange, Premises, RequestEdit, RequestEntry, RequestsChange, Rises, SessionFacts, SessionId, SessionsChange, State, change_janitor, change_launcher, change_requester, changed, grown, handles_changed, is_request, jobs_changed, judge, list_any, new_record, next, next_id, node_entry, nodes_changed, plan, registered, request_entry, requests_changed, semaphores_of, session_of, sessions_changed, start, with_deed}

-- ## what grows

-- what each way of growing needs of the state, beside that a tree lays it out
abbrev pub GrowthReady : Configuration → Option Maker → Growth → State → Type 0
GrowthReady c maker Growth.Nothing s = Unit {0}
GrowthReady c maker (Growth.Session role) s = (maker ≡ None) × ((length s.sessions + 1 < 2 ^ 32) × IsSessionRole role)
GrowthReady c maker (Growth.Registration p) s = IsGood (Launcher p) × (registered p s.registrations ≡ None)
GrowthReady c maker (Growth.Request priority asked) s = IsGood (Request (next_id priority s)) × (IsRequest (new_record asked) × (request_entry (next_id priority s) s.requests ≡ None))
GrowthReady c maker (Growth.Node kept) s = (is_some maker ≡ true) × (IsNode kept × ((s.next_node < 2 ^ 32) × AllByRecursion (λ e. e.id.0 < s.next_node) s.nodes))
GrowthReady c maker (Growth.JoinRequest r) s = (e : RequestEntry) × (request_entry r s.requests ≡ Some e)
GrowthReady c maker (Growth.JoinNode n) s = (e : NodeEntry) × (node_entry n s.nodes ≡ Some e)
GrowthReady c maker (Growth.Allocate n r tenant) s = IfSome tenant (λ t. t.0 < 2 ^ 16) × ((IsGood (Request r)) × AllByRecursion (λ e. IsNode e.kept) s.nodes)
GrowthReady c maker (Growth.Handles j) s = (j.0 < 2 ^ 32) × ((length (semaphores_of c j) ≤ 8) × AllByRecursion (λ x. x.0 < length s.handles) (semaphores_of c j))
GrowthReady c maker (Growth.Swept n x) s = IsGood (Swept n x)

-- one thing grows: a session begins before the parts
abbrev pub GrowthsEnact : Type 0
GrowthsEnact = (c : Configuration) (maker : Option Maker) (growth : Growth) (s : State) (t : TreeState) (more : ℕ) → Stands s t (writer maker) (more + 8) → GrowthReady c maker growth s →
    Enacts (with_begin growth t) (writer maker) (grown_parts c maker growth s) (grown c maker growth s) more

-- ## requests and nodes

-- no session waits twice for one request
abbrev pub WaitOnce : List RequestEntry → Type 0
WaitOnce rows = AllByRecursion (λ e. AreDistinct e.queue) rows

abbrev pub RequestsEnact : Type 0
RequestsEnact = (maker : Option Maker) (change : RequestsChange) (s : State) (t : TreeState) (more : ℕ) → Stands s t (writer maker) (more + 1) → WaitOnce s.requests → AllByRecursion (λ e. IsRequest e.kept) (requests_changed maker change s.requests) →
    Enacts t (writer maker) (requests_parts maker change s.requests t) (record s { requests = requests_changed maker change s.requests }) more

-- the list of the request's nodes is no longer than a job's, and has each node that is allocated to it;
-- the nodes that are taken over are no more than a job's
abbrev pub NodesReady : NodesChange → ℕ → List RequestEntry → List NodeEntry → Type 0
NodesReady NodesChange.Same tick requests rows = Unit {0}
NodesReady (NodesChange.Put n kept) tick requests rows = Unit {0}
NodesReady (NodesChange.Remove n) tick requests rows = Unit {0}
NodesReady (NodesChange.Leave n) tick requests rows = Unit {0}
NodesReady (NodesChange.FreeAll r) tick requests rows = (length (nodes_of r requests) ≤ 32) × (Rises (λ a b. nat_lt a.id.0 b.id.0) rows × AllByRecursion (λ e. is_request r e.kept.allocated_to ≡ true → list_any (λ n. n.0 == e.id.0) (nodes_of r requests) ≡ true) rows)
NodesReady (NodesChange.TakeOver numbers) tick requests rows = (length numbers ≤ 32) × (tick < 2 ^ 32)

abbrev pub NodesEnact : Type 0
NodesEnact = (maker : Option Maker) (requests : List RequestEntry) (change : NodesChange) (s : State) (t : TreeState) (more : ℕ) → Stands s t (writer maker) (more + 32) → AllByRecursion (λ e. AreDistinct e.queue) s.nodes → AllByRecursion (λ e. IsNode e.kept) s.nodes → AllByRecursion (λ e. IsNode e.kept) (nodes_changed maker s.tick change s.nodes) → NodesReady change s.tick requests s.nodes →
    Enacts t (writer maker) (nodes_parts maker s.tick requests change s.nodes t) (record s { nodes = nodes_changed maker s.tick change s.nodes }) more

-- ## jobs, handles, roles, sessions and the tick, whoever writes

abbrev pub JobsEnact : Type 0
JobsEnact = (w : ℕ) (change : JobsChange) (s : State) (t : TreeState) (more : ℕ) → Stands s t w (more + 1) → AllByRecursion IsJob (jobs_changed change s.jobs) →
    Enacts t w (jobs_parts change s.jobs) (record s { jobs = jobs_changed change s.jobs }) more

-- the deletes of handles take no room
abbrev pub HandlesEnact : Type 0
HandlesEnact = (c : Configuration) (w : ℕ) (change : HandlesChange) (s : State) (t : TreeState) (more : ℕ) → Stands s t w (more + 1) →
    Enacts t w (handles_parts c change s.handles) (record s { handles = handles_changed c change s.handles }) more

-- the state with the deed in the records of roles
abbrev pub with_deeds : Option Maker → Option Deed → State → State
with_deeds maker what s = record s {
  launchers = with_deed change_launcher maker what s.launchers;
  janitors = with_deed change_janitor maker what s.janitors;
  requesters = with_deed change_requester maker what s.requesters;
}

abbrev pub DeedsEnact : Type 0
DeedsEnact = (w : ℕ) (maker : Option Maker) (what : Option Deed) (s : State) (t : TreeState) (more : ℕ) → Stands s t w (more + 1) → HasSpellings (with_deeds maker what s) →
    Enacts t w (deed_parts maker what s) (with_deeds maker what s) more

-- a session that is muted was begun; the end of one has no parts
abbrev pub SessionReady : SessionsChange → State → Type 0
SessionReady SessionsChange.Same s = Unit {0}
SessionReady (SessionsChange.Mute session) s = (facts : SessionFacts) × (session_of session s ≡ Some facts)
SessionReady (SessionsChange.End session) s = ⊥

abbrev pub SessionsEnact : Type 0
SessionsEnact = (w : ℕ) (change : SessionsChange) (s : State) (t : TreeState) (more : ℕ) → Stands s t w (more + 1) → AllByRecursion (λ f. IsSessionRole f.role) s.sessions → SessionReady change s →
    Enacts t w (session_parts change s) (record s { sessions = sessions_changed change s.sessions }) more

abbrev pub TicksEnact : Type 0
TicksEnact = (w : ℕ) (ticks : Bool) (s : State) (t : TreeState) (more : ℕ) → Stands s t w (more + 1) → s.tick + 1 < 2 ^ 32 →
    Enacts t w (tick_parts ticks s.tick) (record s { tick = if ticks then s.tick + 1 else s.tick }) more

-- the law of a whole event: if a tree lays a state out, the parts for the changes of an accepted event are
-- accepted, and what they leave lays out the changed state

-- the end of a session has no part in the call
abbrev pub in_call : SessionsChange → SessionsChange
in_call SessionsChange.Same = SessionsChange.Same
in_call (SessionsChange.Mute session) = SessionsChange.Mute session
in_call (SessionsChange.End session) = SessionsChange.Same

-- the state after the call, before a session ends
abbrev pub called : Configuration → Changes → State → State
called c ch s = changed c (record ch { sessions = in_call ch.sessions }) s

-- nothing grows beside handles that are given back, and beside a session that is muted
pub record IsApart (ch : Changes) : Type 0 where
  pub handles : (j : JobId) → ch.handles ≡ HandlesChange.Release j → ch.grows ≡ Growth.Nothing
  pub sessions : (session : SessionId) → ch.sessions ≡ SessionsChange.Mute session → ch.grows ≡ Growth.Nothing

-- what the changes of an accepted event need of the state
pub record IsReady (c : Configuration) (ch : Changes) (s : State) : Type 0 where
  pub premises : Premises c s ch
  pub apart : IsApart ch
  pub grows : GrowthReady c ch.maker ch.grows s
  pub nodes : NodesReady ch.nodes s.tick s.requests s.nodes
  pub sessions : SessionReady (in_call ch.sessions) (grown c ch.maker ch.grows s)
  pub request_waits : WaitOnce s.requests
  pub node_waits : AllByRecursion (λ e. AreDistinct e.queue) s.nodes
  pub spelled : HasSpellings s
  pub spelled_later : HasSpellings (called c ch s)
  pub tick : s.tick + 1 < 2 ^ 32

-- the call is accepted, and the tree after it, and after the begin or the end of a session, lays out the
-- changed state; the call and the end each have one change number
pub record IsEnacted (c : Configuration) (ch : Changes) (s : State) (t : TreeState) (more : ℕ) : Type 0 where
  pub goes : Goes t (writer ch.maker) (parts_of c ch s t) (after_parts t (writer ch.maker) (parts_of c ch s t))
  pub whole : IsWhole (enacted c ch s t).nodes
  pub good : HasGoodIds (changed c ch s)
  pub lays : LaysOut (changed c ch s) (enacted c ch s t)
  pub numbers : (enacted c ch s t).changes ≤ t.changes + 2
  pub room : HasRoomFor more (enacted c ch s t)

-- an event takes the room of at most 64 parts
abbrev pub EventsEnact : Type 0
EventsEnact = (c : Configuration) (ch : Changes) (s : State) (t : TreeState) (more : ℕ) → IsReady c ch s → Stands s t (writer ch.maker) (more + 64) → t.changes + 2 < 18_446_744_073_709_551_615 →
    IsEnacted c ch s t more

-- every accepted event is ready for the tree, and leaves a state that a tree can carry

-- ## numbers that come with an event are within their types

abbrev pub IsTypedEdit : RequestEdit → Type 0
IsTypedEdit (RequestEdit.Serve p) = Unit {0}
IsTypedEdit (RequestEdit.AddNode n) = Unit {0}
IsTypedEdit (RequestEdit.Decline p why failed) = IsReason why
IsTypedEdit RequestEdit.Fulfil = Unit {0}
IsTypedEdit RequestEdit.GiveBack = Unit {0}
IsTypedEdit RequestEdit.Fail = Unit {0}
IsTypedEdit (RequestEdit.Revise relative) = relative < 2 ^ 32

abbrev pub IsTypedRequests : RequestsChange → Type 0
IsTypedRequests RequestsChange.Same = Unit {0}
IsTypedRequests (RequestsChange.Edit r change) = IsTypedEdit change
IsTypedRequests (RequestsChange.Remove r) = Unit {0}
IsTypedRequests (RequestsChange.Leave r) = Unit {0}

abbrev pub IsTypedNodes : NodesChange → Type 0
IsTypedNodes NodesChange.Same = Unit {0}
IsTypedNodes (NodesChange.Put n kept) = (kept.start < 2 ^ 32) × IfSome kept.server (λ server. server < 2 ^ 64)
IsTypedNodes (NodesChange.Remove n) = Unit {0}
IsTypedNodes (NodesChange.Leave n) = Unit {0}
IsTypedNodes (NodesChange.FreeAll r) = Unit {0}
IsTypedNodes (NodesChange.TakeOver numbers) = Unit {0}

abbrev pub IsTypedGrowth : Growth → Type 0
IsTypedGrowth (Growth.Swept n x) = IsGood (Swept n x)
IsTypedGrowth other = Unit {0}

pub record IsTyped (ch : Changes) : Type 0 where
  pub grows : IsTypedGrowth ch.grows
  pub requests : IsTypedRequests ch.requests
  pub nodes : IsTypedNodes ch.nodes

-- ## the laws

-- an event that is accepted in a state with what holds of every state of a run
pub record IsAccepted (c : Configuration) (s : State) (e : Event) : Type 0 where
  pub sound : IsSound c
  pub fits : Fits c s
  pub invariant : Invariant c s
  pub carried : IsCarried c s
  pub accepted : is_ok (judge c s e) ≡ true
  pub typed : IsTyped (plan c s e)

-- each record has a spelling after the call
abbrev pub RecordsAreSpelled : Type 0
RecordsAreSpelled = (c : Configuration) (s : State) (e : Event) → IsAccepted c s e → HasSpellings (called c (plan c s e) s)

abbrev pub EventsAreReady : Type 0
EventsAreReady = (c : Configuration) (s : State) (e : Event) → IsAccepted c s e → IsReady c (plan c s e) s

abbrev pub StartsAreCarried : Type 0
StartsAreCarried = (c : Configuration) → IsSound c → IsCarried c (start c)

abbrev pub StepsAreCarried : Type 0
StepsAreCarried = (c : Configuration) (s : State) (e : Event) → IsAccepted c s e → IsCarried c (next c s e)

-- the tree enacts it: the call of its changes is accepted, and leaves a tree of the state after it
abbrev pub EventsAreEnacted : Type 0
EventsAreEnacted = (c : Configuration) (s : State) (e : Event) (t : TreeState) (more : ℕ) → IsAccepted c s e → Stands s t (writer (plan c s e).maker) (more + 64) → t.changes + 2 < 18_446_744_073_709_551_615 →
    IsEnacted c (plan c s e) s t more × IsStored c (next c s e) (enacted c (plan c s e) s t)
