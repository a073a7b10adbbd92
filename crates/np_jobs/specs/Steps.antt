-- what a requester may do next with its jobs and nodes, and when a role has nothing to do
use Rattle.std.specs.Prelude.{ℕ, ◌<◌, ◌≡◌, List, [], ◌∷◌, Bool, true, false, Option, Some, None, slice_get}
use Rattle.np_jobs.specs.Lower.{Configuration, Event, IsUseful, Janitor, Launcher, POOLS, PoolId, REQUESTERS, Requester, Role, State, EndAs, EventKind, Job, JobId, JobKind, Node, NodeId, NodeKind, NoneOf, Phase, RequesterId, SessionId, is_asked, is_in_window, is_new, job_to_acquire, job_to_take, option_map_or, passes}

-- when a role has nothing to do

-- the role has no useful event (own)
abbrev pub IsIdle : Configuration → State → Role → Type 0
IsIdle c s role = (e : Event) → IsUseful c s role e → ⊥

-- the pool's launcher and its janitor have none (own)
abbrev pub IsPoolIdle : Configuration → State → PoolId → Type 0
IsPoolIdle c s p = IsIdle c s (Launcher p) × IsIdle c s (Janitor p)

-- no launcher and no janitor has one, at each place that a pool may have (own)
abbrev pub ArePoolsIdle : Configuration → State → Type 0
ArePoolsIdle c s = (k : ℕ) → k < POOLS → IsPoolIdle c s (record { 0 = k })

-- no requester has one, at each place that a requester may have (own)
abbrev pub AreRequestersIdle : Configuration → State → Type 0
AreRequestersIdle c s = (k : ℕ) → k < REQUESTERS → IsIdle c s (Requester (record { 0 = k }))

-- what a requester may do next with its jobs and nodes

-- the kinds that are tried on each node to leave (own)
abbrev pub leaving : List EventKind
leaving = Node (NodeKind.End EndAs.Used) ∷ Node (NodeKind.End EndAs.Hold) ∷ Node NodeKind.Unlock ∷ []

-- every kind that a requester's session makes (own)
abbrev pub requester_kinds : List EventKind
requester_kinds =
    Job JobKind.Finish ∷ Node NodeKind.Lock ∷ Job JobKind.Take ∷ Job JobKind.Acquire ∷ Job JobKind.Release ∷ Job JobKind.Submit ∷ leaving

-- the job exists, and its phase passes the test (own)
abbrev pub phase_is : JobId → State → (Phase → Bool) → Bool
phase_is j s such = option_map_or (λ kept. such kept.phase) (slice_get s.jobs j.0) false

-- ## the jobs under way

-- a useful event, or the session's finish of the job fails (own)
abbrev pub ChoosesToFinish : Configuration → State → RequesterId → SessionId → JobId → Option Event → Type 0
ChoosesToFinish c s q session j None = passes c s (Requester q) (Event.Finish session j) ≡ false
ChoosesToFinish c s q session j (Some e) = IsUseful c s (Requester q) e

-- the session's take and acquire of the job fail (own)
pub record NoTake (c : Configuration) (s : State) (q : RequesterId) (session : SessionId) (j : JobId) : Type 0 where
  pub take : passes c s (Requester q) (Event.Take session j) ≡ false
  pub acquire : passes c s (Requester q) (Event.Acquire session j) ≡ false

-- a useful event, or no take and acquire of the job passes (own)
abbrev pub ChoosesToTakeOne : Configuration → State → RequesterId → SessionId → JobId → Option Event → Type 0
ChoosesToTakeOne c s q session j None = NoTake c s q session j
ChoosesToTakeOne c s q session j (Some e) = IsUseful c s (Requester q) e

-- a useful event, or no take and acquire of a job that was given its nodes and need not wait for
-- handles passes (own)
abbrev pub ChoosesToTake : Configuration → State → RequesterId → SessionId → Option Event → Type 0
ChoosesToTake c s q session None = (k : ℕ) (j : JobId) → job_to_take c q k s ≡ Some j → NoTake c s q session j
ChoosesToTake c s q session (Some e) = IsUseful c s (Requester q) e

-- a useful event, or no job that was given its nodes and waits for handles finds room (own)
abbrev pub ChoosesToAcquire : Configuration → State → RequesterId → Option Event → Type 0
ChoosesToAcquire c s q None = job_to_acquire c q s ≡ None
ChoosesToAcquire c s q (Some e) = IsUseful c s (Requester q) e

-- no finish, lock and take is useful, and the session's acquire of each job that has asked for its
-- nodes fails (own)
pub record NoneUnderWay (c : Configuration) (s : State) (q : RequesterId) (session : SessionId) : Type 0 where
  pub finish : NoneOf c s (Requester q) (Job JobKind.Finish)
  pub lock : NoneOf c s (Requester q) (Node NodeKind.Lock)
  pub take : NoneOf c s (Requester q) (Job JobKind.Take)
  pub acquire : (j : JobId) → phase_is j s is_asked ≡ true → passes c s (Requester q) (Event.Acquire session j) ≡ false

-- a useful event, or none of these (own)
abbrev pub ChoosesUnderWay : Configuration → State → RequesterId → SessionId → Option Event → Type 0
ChoosesUnderWay c s q session None = NoneUnderWay c s q session
ChoosesUnderWay c s q session (Some e) = IsUseful c s (Requester q) e

-- ## the new jobs

-- the session's acquire and submit of the job fail (own)
pub record NoNewStep (c : Configuration) (s : State) (q : RequesterId) (session : SessionId) (j : JobId) : Type 0 where
  pub acquire : passes c s (Requester q) (Event.Acquire session j) ≡ false
  pub submit : passes c s (Requester q) (Event.Submit session j) ≡ false

-- a useful event, or no acquire and submit of the job passes (own)
abbrev pub ChoosesOfNew : Configuration → State → RequesterId → SessionId → JobId → Option Event → Type 0
ChoosesOfNew c s q session j None = NoNewStep c s q session j
ChoosesOfNew c s q session j (Some e) = IsUseful c s (Requester q) e

-- a useful event, or no acquire and submit of a new job in the window passes (own)
abbrev pub ChoosesInWindow : Configuration → State → RequesterId → SessionId → Option Event → Type 0
ChoosesInWindow c s q session None = (j : JobId) → phase_is j s is_new ≡ true → is_in_window c s q j ≡ true → NoNewStep c s q session j
ChoosesInWindow c s q session (Some e) = IsUseful c s (Requester q) e

-- ## the nodes to leave

-- the session's ends of the node and its unlock fail (own)
pub record NoLeave (c : Configuration) (s : State) (q : RequesterId) (session : SessionId) (n : NodeId) : Type 0 where
  pub used : passes c s (Requester q) (Event.EndNode session n EndAs.Used) ≡ false
  pub hold : passes c s (Requester q) (Event.EndNode session n EndAs.Hold) ≡ false
  pub unlock : passes c s (Requester q) (Event.UnlockNode session n) ≡ false

-- a useful event, or no end and unlock of the node passes (own)
abbrev pub ChoosesToLeave : Configuration → State → RequesterId → SessionId → NodeId → Option Event → Type 0
ChoosesToLeave c s q session n None = NoLeave c s q session n
ChoosesToLeave c s q session n (Some e) = IsUseful c s (Requester q) e
