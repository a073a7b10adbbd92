-- the groups of jobs and of sessions, the lines in which jobs wait, and what a state says of them
use Rattle.std.specs.Prelude.{ℕ, List, Bool, false, ◌==◌, if◌then◌else◌, slice_get, ◌≡◌, ◌&&◌, ◌||◌, not, Some}
use Rattle.std.specs.Cmp.Lexicographic.{pointwise}
use Rattle.np_active.specs.Lower.{Configuration, Job, JobId, SemId, option_map_or, Group, Janitor, JobRecord, Launcher, Member, Reaper, Requester, RequesterId, Rises, Role, SessionFacts, SessionId, State, has_member, is_job_before, is_job_to_finish, is_job_to_release, is_job_to_take, is_member_before, is_new, is_own, is_requesters, is_session_before, is_supplied, request_state_of, same_job, same_session, session_of, speaks_for, was_given}

-- in which line a job waits for its semaphores: the jobs of a line have the same semaphores and no handles,
-- so a semaphore that is full blocks all of them

-- the same semaphores, in the same order
abbrev pub same_semaphores : List SemId → List SemId → Bool
same_semaphores = pointwise (λ a b. a.0 == b.0)

-- there is such a job, and it has the semaphores of this row
abbrev pub is_like : Configuration → Job → JobId → Bool
is_like c row i = option_map_or (λ other. same_semaphores other.semaphores row.semaphores) (slice_get c.jobs i.0) false

-- the line of the job with this row, where `lines` has for each job one that may be like it: the number of
-- that job if it is like it, and the job's own number if not
abbrev pub line_of : Configuration → List JobId → JobId → Job → ℕ
line_of c lines j row = option_map_or (λ first. if is_like c row first then first.0 else j.0) (slice_get lines j.0) j.0

-- the groups of jobs and of sessions, and what a state says of them

-- ## groups (own)

-- the jobs of the requester to take: they were given their nodes and need not wait for handles
abbrev pub supplied_group : RequesterId → Group
supplied_group q = record { class = 0; first = q.0; second = 0; third = 0 }

-- its new jobs that wait for no semaphore
abbrev pub prompt_group : RequesterId → Group
prompt_group q = record { class = 1; first = q.0; second = 0; third = 0 }

-- its new jobs that wait for semaphores in this line
abbrev pub waiting_group : RequesterId → ℕ → Group
waiting_group q line = record { class = 2; first = q.0; second = 0; third = line }

-- its jobs to finish
abbrev pub ending_group : RequesterId → Group
ending_group q = record { class = 3; first = q.0; second = 0; third = 0 }

-- its jobs that are over and have handles
abbrev pub releasing_group : RequesterId → Group
releasing_group q = record { class = 4; first = q.0; second = 0; third = 0 }

-- its jobs that were given their nodes and wait for handles in this line
abbrev pub lacking_group : RequesterId → ℕ → Group
lacking_group q line = record { class = 5; first = q.0; second = 0; third = line }

-- a kind of jobs: a job can be of several
pub data JobKind : Type 0 where
  -- the requester's ones to take
  supplied_ones : RequesterId → JobKind
  -- its new ones that wait for no semaphore
  prompt_ones : RequesterId → JobKind
  -- its new ones that wait for semaphores in this line
  waiting_ones : RequesterId → ℕ → JobKind
  -- its ones to finish
  ending_ones : RequesterId → JobKind
  -- its ones that are over and have handles
  releasing_ones : RequesterId → JobKind
  -- its ones that were given their nodes and wait for handles in this line
  lacking_ones : RequesterId → ℕ → JobKind

-- the group of each kind
abbrev pub job_group : JobKind → Group
job_group (supplied_ones q) = supplied_group q
job_group (prompt_ones q) = prompt_group q
job_group (waiting_ones q line) = waiting_group q line
job_group (ending_ones q) = ending_group q
job_group (releasing_ones q) = releasing_group q
job_group (lacking_ones q line) = lacking_group q line

-- the sessions that speak for the role
abbrev pub role_group : Role → Group
role_group (Launcher p) = record { class = 0; first = p.0; second = 0; third = 0 }
role_group (Janitor p) = record { class = 1; first = p.0; second = 0; third = 0 }
role_group (Requester q) = record { class = 2; first = q.0; second = 0; third = 0 }
role_group Reaper = record { class = 3; first = 0; second = 0; third = 0 }

-- the live sessions that are mute
abbrev pub mute_group : Group
mute_group = record { class = 4; first = 0; second = 0; third = 0 }

-- the live sessions of the requester, mute or not
abbrev pub live_group : RequesterId → Group
live_group q = record { class = 5; first = q.0; second = 0; third = 0 }

-- a kind of sessions: a session can be of several
pub data SessionKind : Type 0 where
  -- those that speak for the role
  speakers : Role → SessionKind
  -- the live ones that are mute
  mute_ones : SessionKind
  -- the live ones of the requester, mute or not
  live_ones : RequesterId → SessionKind

-- the group of each kind
abbrev pub session_group : SessionKind → Group
session_group (speakers role) = role_group role
session_group mute_ones = mute_group
session_group (live_ones q) = live_group q

-- ## what a state says

-- the job asks for its nodes without waiting for a semaphore: it asks for them first, has no semaphores, or
-- has a handle already
abbrev pub is_prompt : State → JobId → Job → Bool
is_prompt s j row = row.resources_first || is_supplied s j row

-- a new job of the requester that waits for no semaphore
abbrev pub is_prompt_job : Configuration → State → RequesterId → JobId → JobRecord → Bool
is_prompt_job c s q j kept = is_new kept.phase && is_own c q j (is_prompt s j)

-- a new job of the requester that waits for semaphores in this line
abbrev pub is_waiting_job : Configuration → State → List JobId → RequesterId → ℕ → JobId → JobRecord → Bool
is_waiting_job c s lines q line j kept = is_new kept.phase && is_own c q j (λ row. not (is_prompt s j row) && (line_of c lines j row == line))

-- a job of the requester that was given its nodes and waits for handles in this line
abbrev pub is_lacking_job : Configuration → State → List JobId → RequesterId → ℕ → JobId → JobRecord → Bool
is_lacking_job c s lines q line j kept =
    is_own c q j (λ row. not (is_supplied s j row) && (line_of c lines j row == line)) && was_given kept.phase (request_state_of kept.request s)

-- the job with this record is of the kind
abbrev pub is_job_of : Configuration → State → List JobId → JobKind → JobId → JobRecord → Bool
is_job_of c s lines (supplied_ones q) j kept = is_job_to_take c s q j kept
is_job_of c s lines (prompt_ones q) j kept = is_prompt_job c s q j kept
is_job_of c s lines (waiting_ones q line) j kept = is_waiting_job c s lines q line j kept
is_job_of c s lines (ending_ones q) j kept = is_job_to_finish c s q j kept
is_job_of c s lines (releasing_ones q) j kept = is_job_to_release c s q j kept
is_job_of c s lines (lacking_ones q line) j kept = is_lacking_job c s lines q line j kept

-- the job is there, and of the kind
abbrev pub is_job_in : Configuration → State → List JobId → JobKind → JobId → Bool
is_job_in c s lines kind j = option_map_or (λ kept. is_job_of c s lines kind j kept) (slice_get s.jobs j.0) false

-- the session is of the kind
abbrev pub is_of_kind : SessionKind → SessionFacts → Bool
is_of_kind (speakers role) facts = speaks_for role facts
is_of_kind mute_ones facts = facts.live && facts.mute
is_of_kind (live_ones q) facts = facts.live && is_requesters q (Some facts.role)

-- the session was begun, and is of the kind
abbrev pub is_kind_in : State → SessionKind → SessionId → Bool
is_kind_in s kind session = option_map_or (is_of_kind kind) (session_of session s) false

-- the members of each group are the ids that pass for it
pub record AreGroups {K Q : Type 0} (before same : K → K → Bool) (group : Q → Group) (passes : Q → K → Bool) (members : List (Member K)) : Type 0 where
  pub rises : Rises (is_member_before before) members
  pub each : (q : Q) (i : K) → has_member same (group q) i members ≡ passes q i

-- the members of the group of each kind are the jobs of the kind
abbrev pub AreJobGroups : Configuration → State → List JobId → List (Member JobId) → Type 0
AreJobGroups c s lines members = AreGroups is_job_before same_job job_group (is_job_in c s lines) members

-- the members of the group of each kind are the sessions of the kind
abbrev pub AreSessionGroups : State → List (Member SessionId) → Type 0
AreSessionGroups s members = AreGroups is_session_before same_session session_group (is_kind_in s) members

-- for each job one that may have the same semaphores, the members of all groups, and how many more can be
-- put without taking memory
pub record ActiveOf : Type 0 where
  pub lines : List JobId
  pub jobs : List (Member JobId)
  pub sessions : List (Member SessionId)
  pub job_room : ℕ
  pub session_room : ℕ

-- each part says what the state says
pub record AreActive (c : Configuration) (s : State) (active : ActiveOf) : Type 0 where
  pub jobs : AreJobGroups c s active.lines active.jobs
  pub sessions : AreSessionGroups s active.sessions
