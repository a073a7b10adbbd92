-- which events are useful for the janitor, the reaper, a requester and a role, and what a choice returns
use Rattle.std.specs.Prelude.{Bool, true, false, ◌&&◌, not, is_none, ◌||◌, ℕ, List, ◌==◌, take, slice_get, count_by, nat_lt, option_and_then, ◌≡◌, Option, Some, None, is_ok, ◌<◌, if◌then◌else◌}
use Rattle.np_useful.specs.Sessions.{is_stopped, may_open, is_expire, is_struck_by, is_current, has_current}
use Rattle.np_useful.specs.Cleanable.{is_cleanable}
use Rattle.np_useful.specs.Launcher.{request_is, node_is, job_is, is_node_of, has_some_handle, is_listed, launcher_row}
use Rattle.std.specs.List.{zip}
use Rattle.np_useful.specs.declared.kind.EventKind.{EventKind}
use Rattle.np_useful.specs.Kinds.{request_event, node_event, job_event}
use Rattle.np_useful.specs.Lower.{AllByRecursion, Configuration, EndAs, Event, Janitor, Job, JobId, JobRecord, Launcher, NodeId, PoolId, Reaper, RequestEntry, RequestId, Requester, RequesterId, Role, SessionId, State, is_asked, is_fulfilled, is_in_use, is_new, is_over, is_pending, is_pending_by, is_queued, is_role, judge, list_any, maker_of, missing_handles, node_holder, node_queue, option_map_or, owner_from, request_in, same_role, session_of}

-- which events are useful for the janitor of a pool: one line per event

-- what a janitor does (Nodepool: the cleanup worker, in an order of its own)
abbrev pub janitor_row : Configuration → State → PoolId → Event → Bool
janitor_row c s p (Event.OpenSession role) = same_role role (Janitor p) && may_open c role s
janitor_row c s p (Event.LockRequest session r) = request_is r s (is_pending_by p)
janitor_row c s p (Event.Reset session r) = request_is r s (is_pending_by p)
janitor_row c s p (Event.UnlockRequest session r) = request_is r s (λ request. not (is_pending request.state))
janitor_row c s p (Event.LockNode session n) = node_is n s (λ k. is_node_of p k && is_cleanable c s k) && is_none (node_holder n s.nodes)
janitor_row c s p (Event.MarkDeleting session n) = node_is n s (is_node_of p)
janitor_row c s p (Event.FreeNode session n) = node_is n s (is_node_of p)
janitor_row c s p (Event.Gone session n) = node_is n s (is_node_of p)
janitor_row c s p (Event.UnlockNode session n) = node_is n s (λ k. not (is_cleanable c s k))
janitor_row c s p (Event.FailDeclined session r) = true
janitor_row c s p (Event.Finish session j) = job_is j c (λ job. is_stopped c (Requester job.requester) s)
janitor_row c s p (Event.Release session j) = job_is j c (has_some_handle s j)
janitor_row c s p _ = false

-- which events are useful for the reaper, which has no session: one line per event

-- the session's party has stopped (own)
abbrev pub is_mute : SessionId → State → Bool
is_mute session s = option_map_or (λ facts. facts.mute) (session_of session s) false

-- the reaper expires the session of a party that stopped, or one whose role's expiry is due, and
-- crashes one whose role's crash or stop is due (own)
abbrev pub reaper_row : Configuration → State → Event → Bool
reaper_row c s (Event.Expire session) = is_mute session s || is_struck_by is_expire c s session
reaper_row c s (Event.Crash session) = is_struck_by (λ kind. not (is_expire kind)) c s session
reaper_row c s _ = false

-- which jobs a requester works on

-- each job as the configuration has it and as the machine keeps it, in order (own)
abbrev pub jobs_of : Configuration → State → List (Job × JobRecord)
jobs_of c s = zip c.jobs s.jobs

-- a job of the requester that is not over (own)
abbrev pub is_unfinished : RequesterId → Job × JobRecord → Bool
is_unfinished q pair = (pair.0.requester.0 == q.0) && not (is_over pair.1.phase)

-- how many jobs the requester works on at the same time (own; Zuul: a pipeline's window)
abbrev pub window_of : Configuration → RequesterId → ℕ
window_of c q = option_map_or (λ row. row.window) (slice_get c.requesters q.0) 0

-- one of the first jobs of the requester that are not over, as many as its window (own)
abbrev pub is_in_window : Configuration → State → RequesterId → JobId → Bool
is_in_window c s q j =
    option_map_or (is_unfinished q) (slice_get (jobs_of c s) j.0) false
    && nat_lt (count_by (is_unfinished q) (take j.0 (jobs_of c s))) (window_of c q)

-- which events are useful for a requester: one line per event

-- the job's request exists and is fulfilled (Nodepool: fulfilled)
abbrev pub has_fulfilled_request : State → JobRecord → Bool
has_fulfilled_request s kept =
    option_map_or (λ request. is_fulfilled request.state) (option_and_then (λ r. request_in r s.requests) kept.request) false

-- the job waits for its semaphores: before it asks for nodes, or when its request is fulfilled if
-- it asks for nodes first (Zuul: resources-first)
abbrev pub waits_for_handles : Configuration → State → RequesterId → JobId → Job → JobRecord → Bool
waits_for_handles c s q j job kept =
    (is_new kept.phase && not job.resources_first && is_in_window c s q j) || (is_asked kept.phase && has_fulfilled_request s kept)

-- some handle is missing, and the job waits for it (Zuul: semaphores)
abbrev pub is_to_acquire : Configuration → State → RequesterId → JobId → Job → Bool
is_to_acquire c s q j job =
    not (missing_handles s j job == 0) && option_map_or (waits_for_handles c s q j job) (slice_get s.jobs j.0) false

-- a job of the requester that has asked for its nodes (Zuul: a node request)
abbrev pub is_asked_by : Configuration → State → RequesterId → JobId → Bool
is_asked_by c s q j = job_is j c (λ job. job.requester.0 == q.0) && option_map_or (λ kept. is_asked kept.phase) (slice_get s.jobs j.0) false

-- the fulfilled request of an asked job of the requester (own)
abbrev pub is_handed_over : Configuration → State → RequesterId → RequestEntry → Bool
is_handed_over c s q e = is_fulfilled e.kept.state && option_map_or (is_asked_by c s q) e.kept.job false

-- the node is in the list of such a request (own)
abbrev pub is_for : Configuration → State → RequesterId → NodeId → Bool
is_for c s q n = list_any (λ e. is_handed_over c s q e && is_listed n e.kept) s.requests

-- both used, or both held (own)
abbrev pub same_end : EndAs → EndAs → Bool
same_end EndAs.Used EndAs.Used = true
same_end EndAs.Hold EndAs.Hold = true
same_end _ _ = false

-- the job that has the node leaves its nodes this way (Zuul: nodes are returned as used or held)
abbrev pub is_left_as : Configuration → State → NodeId → EndAs → Bool
is_left_as c s n as_what = option_map_or (λ job. same_end job.end as_what) (owner_from n s.jobs c.jobs) false

-- what a requester does (Zuul, in an order of its own)
abbrev pub requester_row : Configuration → State → RequesterId → Event → Bool
requester_row c s q (Event.OpenSession role) = same_role role (Requester q) && may_open c role s
requester_row c s q (Event.Acquire session j) = job_is j c (is_to_acquire c s q j)
requester_row c s q (Event.Submit session j) = is_in_window c s q j
requester_row c s q (Event.LockNode session n) = is_for c s q n && not (is_queued session (node_queue n s.nodes))
requester_row c s q (Event.Take session j) = true
requester_row c s q (Event.Finish session j) = true
requester_row c s q (Event.EndNode session n as_what) = is_left_as c s n as_what
requester_row c s q (Event.UnlockNode session n) = node_is n s (λ k. not (is_in_use k.state)) && not (is_for c s q n)
requester_row c s q (Event.Release session j) = job_is j c (has_some_handle s j)
requester_row c s q _ = false

-- which events are useful for a role

-- the event is one of the role's, and its row is true (own)
abbrev pub row_holds : Configuration → State → Role → Event → Bool
row_holds c s (Launcher p) e = launcher_row c s p e
row_holds c s (Janitor p) e = janitor_row c s p e
row_holds c s (Requester q) e = requester_row c s q e
row_holds c s Reaper e = reaper_row c s e

-- the role's current session; an event without a maker needs none (own)
abbrev pub is_maker_of : Role → State → Option SessionId → Bool
is_maker_of role s None = true
is_maker_of role s (Some session) = is_current role session s

-- the machine accepts the event, the role's current session makes it, and its row is true (own)
pub record IsUseful (c : Configuration) (s : State) (role : Role) (e : Event) : Type 0 where
  pub accepted : is_ok (judge c s e) ≡ true
  pub maker : is_maker_of role s (maker_of e) ≡ true
  pub row : row_holds c s role e ≡ true

-- what a choice returns

-- ## the choice of a role

-- a useful event of the role, or none if there is none (own)
abbrev pub Chooses : Configuration → State → Role → Option Event → Type 0
Chooses c s role None = (e : Event) → IsUseful c s role e → ⊥
Chooses c s role (Some e) = IsUseful c s role e

-- ## the choice among some events

-- the role's current session, or none if it has none (own)
abbrev pub NamesCurrent : Role → State → Option SessionId → Type 0
NamesCurrent role s None = has_current role s ≡ false
NamesCurrent role s (Some session) = is_current role session s ≡ true

-- no session that the role may open is useful (own)
abbrev pub NoneOpens : Configuration → State → Role → Type 0
NoneOpens c s role = (other : Role) → IsUseful c s role (Event.OpenSession other) → ⊥

-- a useful opening of a session, or none if there is none (own)
abbrev pub ChoosesOpening : Configuration → State → Role → Option Event → Type 0
ChoosesOpening c s role None = NoneOpens c s role
ChoosesOpening c s role (Some e) = IsUseful c s role e

-- no event of the kind is useful, whoever makes it and whatever it names (own)
abbrev pub NoneOf : Configuration → State → Role → EventKind → Type 0
NoneOf c s role (EventKind.Request kind) = (session : SessionId) (r : RequestId) → IsUseful c s role (request_event kind session r) → ⊥
NoneOf c s role (EventKind.Node kind) = (session : SessionId) (n : NodeId) → IsUseful c s role (node_event kind session n) → ⊥
NoneOf c s role (EventKind.Job kind) = (session : SessionId) (j : JobId) → IsUseful c s role (job_event kind session j) → ⊥

-- a useful event of the kind, or none if there is none (own)
abbrev pub ChoosesOf : Configuration → State → Role → EventKind → Option Event → Type 0
ChoosesOf c s role kind None = NoneOf c s role kind
ChoosesOf c s role kind (Some e) = IsUseful c s role e

-- a useful event of the role, or none of any of the kinds (own)
abbrev pub ChoosesOfAny : Configuration → State → Role → List EventKind → Option Event → Type 0
ChoosesOfAny c s role kinds None = AllByRecursion (NoneOf c s role) kinds
ChoosesOfAny c s role kinds (Some e) = IsUseful c s role e

-- no release of a job of the requester is useful, whoever makes it (own)
abbrev pub NoneReleased : Configuration → State → Role → RequesterId → Type 0
NoneReleased c s role q = (session : SessionId) (j : JobId) → job_is j c (λ row. row.requester.0 == q.0) ≡ true → IsUseful c s role (Event.Release session j) → ⊥

-- a useful event, or none if no such release is useful (own)
abbrev pub ChoosesRelease : Configuration → State → Role → RequesterId → Option Event → Type 0
ChoosesRelease c s role q None = NoneReleased c s role q
ChoosesRelease c s role q (Some e) = IsUseful c s role e

-- the first of some events that passes

-- the machine accepts the event, and its row is true (own)
abbrev pub passes : Configuration → State → Role → Event → Bool
passes c s role e = is_ok (judge c s e) && row_holds c s role e

-- the event, if it passes (own)
abbrev pub passing : Configuration → State → Role → Option Event → Option Event
passing c s role None = None
passing c s role (Some e) = if passes c s role e then Some e else None

-- an event that passes and is at a place, after places where none passes (own)
pub record IsFirst (c : Configuration) (s : State) (role : Role) (places : ℕ) (candidate : ℕ → Option Event) (e : Event) : Type 0 where
  pub at : ℕ
  pub within : at < places
  pub there : passing c s role (candidate at) ≡ Some e
  pub before : (k : ℕ) → k < at → passing c s role (candidate k) ≡ None

-- the first that passes, or none if none passes at any place (own)
abbrev pub IsFirstThatPasses : Configuration → State → Role → ℕ → (ℕ → Option Event) → Option Event → Type 0
IsFirstThatPasses c s role places candidate None = (at : ℕ) → at < places → passing c s role (candidate at) ≡ None
IsFirstThatPasses c s role places candidate (Some e) = IsFirst c s role places candidate e

-- when nothing is left to do

-- a role of the configuration, or the reaper (own)
abbrev pub takes_part : Configuration → Role → Bool
takes_part c (Launcher p) = is_role c (Launcher p)
takes_part c (Janitor p) = is_role c (Janitor p)
takes_part c (Requester q) = is_role c (Requester q)
takes_part c Reaper = true

-- no role has a useful event (own)
abbrev pub IsSettled : Configuration → State → Type 0
IsSettled c s = (role : Role) (e : Event) → takes_part c role ≡ true → IsUseful c s role e → ⊥
