-- what the planned faults do now, and what a janitor tries in which order
use Rattle.std.specs.Prelude.{ℕ, Bool, List, [], ◌∷◌, Option, length, nat_lt, option_and_then, slice_get, ◌≡◌, ◌==◌, true, Some, None, ◌++◌, if◌then◌else◌}
use Rattle.np_janitor.specs.Lower.{Configuration, Event, EventKind, Fault, FaultKind, IsUseful, Janitor, Job, JobId, JobKind, Node, NodeId, NodeKind, PoolId, Reaper, Request, RequestKind, RequesterId, Role, SessionId, State, UnheldKind, current_of, first_due, is_due, job_is, next_fault, option_map}

-- which nodes a janitor tries, by place

-- the kinds of nodes that nobody holds, in the order in which they are tried
abbrev pub tried_kinds : List UnheldKind
tried_kinds = UnheldKind.Abandoned ∷ UnheldKind.LeftOver ∷ UnheldKind.Hold ∷ UnheldKind.Free ∷ []

-- the node of the pool that is due first among those of the kind at the place
abbrev pub due_at : Configuration → State → PoolId → ℕ → Option NodeId
due_at c s p at = option_and_then (λ kind. first_due c p kind s) (slice_get tried_kinds at)

-- the session's lock of that node
abbrev pub lock_due_at : Configuration → State → SessionId → PoolId → ℕ → Option Event
lock_due_at c s session p at = option_map (λ n. Event.LockNode session n) (due_at c s p at)

-- fewer registrations than pools, so that some pool has none
abbrev pub lacks_registration : Configuration → State → Bool
lacks_registration c s = nat_lt (length s.registrations) (length c.pools)

-- what a search among the jobs of a requester returns

-- no finish of a job of the requester is useful, whoever makes it (own)
abbrev pub NoneFinished : Configuration → State → PoolId → RequesterId → Type 0
NoneFinished c s p q = (session : SessionId) (j : JobId) → job_is j c (λ row. row.requester.0 == q.0) ≡ true → IsUseful c s (Janitor p) (Event.Finish session j) → ⊥

-- a useful event, or none if no such finish is useful (own)
abbrev pub ChoosesFinish : Configuration → State → PoolId → RequesterId → Option Event → Type 0
ChoosesFinish c s p q None = NoneFinished c s p q
ChoosesFinish c s p q (Some e) = IsUseful c s (Janitor p) e

-- in which order a janitor's kinds of events are tried

-- the kinds before fail-declined: what it holds first, then what it gives back (own)
abbrev pub before_fail : List EventKind
before_fail =
    Node NodeKind.Gone
    ∷ Node NodeKind.Free
    ∷ Node NodeKind.MarkDeleting
    ∷ Node NodeKind.Unlock
    ∷ Request RequestKind.Reset
    ∷ Request RequestKind.Unlock
    ∷ []

-- the kinds after finish and release: new locks (own)
abbrev pub after_release : List EventKind
after_release = Request RequestKind.Lock ∷ Node NodeKind.Lock ∷ []

-- all of them, in order (own)
abbrev pub janitor_order : List EventKind
janitor_order = before_fail ++ Request RequestKind.FailDeclined ∷ Job JobKind.Finish ∷ Job JobKind.Release ∷ after_release

-- what the planned faults do now

-- the kind of the role's next fault, if it is due
abbrev pub due_kind : Configuration → Role → State → Option FaultKind
due_kind c role s = option_and_then (λ f. if is_due role s f then Some f.kind else None) (next_fault c role s)

-- what a fault of the kind does to the session: the session ends, or its party crashes
abbrev pub strike_on : FaultKind → SessionId → Event
strike_on FaultKind.Expire session = Event.Expire session
strike_on FaultKind.Crash session = Event.Crash session
strike_on FaultKind.Stop session = Event.Crash session

-- what the role's next fault does to the role's current session, if the fault is due
abbrev pub strike_of : Configuration → State → Role → Option Event
strike_of c s role = option_and_then (λ kind. option_map (λ session. strike_on kind session) (current_of role s)) (due_kind c role s)

-- what strikes the role of a fault now, if the role has as many accepted events as the fault waits for (own)
abbrev pub strike_by : Configuration → State → Fault → Option Event
strike_by c s f = if is_due f.role s f then strike_of c s f.role else None

-- a useful event, or no role is struck (own)
abbrev pub ChoosesStrike : Configuration → State → Option Event → Type 0
ChoosesStrike c s None = (role : Role) → strike_of c s role ≡ None
ChoosesStrike c s (Some e) = IsUseful c s Reaper e
