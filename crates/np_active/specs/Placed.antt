-- the groups that a job and a session are in (own)
use Rattle.std.specs.Prelude.{Bool, false, List, [], ◌∷◌, if◌then◌else◌, Option, Some, None, map, slice_get, ◌≡◌, ◌≤◌, ◌*◌, length}
use Rattle.np_active.specs.Active.{JobKind, SessionKind, ending_ones, is_prompt, job_group, lacking_ones, live_ones, mute_ones, prompt_ones, releasing_ones, session_group, speakers, supplied_ones, waiting_ones, ActiveOf, line_of}
use Rattle.np_active.specs.Lower.{Configuration, Group, Job, JobId, JobRecord, Phase, RequestState, Requester, Role, SessionFacts, SessionId, State, has_handle, is_failed, is_fulfilled, is_supplied, list_any, option_map, option_map_or, request_state_of, session_of, Placed, TouchedOf}
use Rattle.np_active.specs.declared.past.PastJob.{PastJob}
use Rattle.np_active.specs.declared.past.PastSession.{PastSession}

-- ## jobs

-- the kind of a job with this row, in this phase and with its request in this state: a job is of one kind
-- at most
abbrev pub kind_by : Configuration → State → List JobId → JobId → Job → Option RequestState → Phase → Option JobKind
kind_by c s lines j row state Phase.New = Some (if is_prompt s j row then prompt_ones row.requester else waiting_ones row.requester (line_of c lines j row))
kind_by c s lines j row state Phase.Asked =
    if option_map_or is_fulfilled state false
    then Some (if is_supplied s j row then supplied_ones row.requester else lacking_ones row.requester (line_of c lines j row))
    else (if option_map_or is_failed state false then Some (ending_ones row.requester) else None)
kind_by c s lines j row state Phase.Using = Some (ending_ones row.requester)
kind_by c s lines j row state Phase.Over = if list_any (has_handle j s.handles) row.semaphores then Some (releasing_ones row.requester) else None

-- by its record
abbrev pub kind_of_record : Configuration → State → List JobId → JobId → Job → JobRecord → Option JobKind
kind_of_record c s lines j row kept = kind_by c s lines j row (request_state_of kept.request s) kept.phase

-- by its row and its record, if it has both
abbrev pub kind_of_rows : Configuration → State → List JobId → JobId → Option Job → Option JobRecord → Option JobKind
kind_of_rows c s lines j row kept = option_map_or (λ r. option_map_or (kind_of_record c s lines j r) kept None) row None

abbrev pub kind_of_job : Configuration → State → List JobId → JobId → Option JobKind
kind_of_job c s lines j = kind_of_rows c s lines j (slice_get c.jobs j.0) (slice_get s.jobs j.0)

abbrev pub groups_of_job : Configuration → State → List JobId → JobId → List (Option Group)
groups_of_job c s lines j = option_map job_group (kind_of_job c s lines j) ∷ []

-- ## sessions

-- of the live sessions of a role those that speak for it or are mute
abbrev pub kind_of_role : Role → Bool → SessionKind
kind_of_role role mute = if mute then mute_ones else speakers role

-- and those of its requester, if it is one
abbrev pub live_kind : Role → Option SessionKind
live_kind (Requester q) = Some (live_ones q)
live_kind role = None

-- the kinds of a session with these facts: two at most
abbrev pub kinds_of_facts : SessionFacts → List (Option SessionKind)
kinds_of_facts facts = (if facts.live then Some (kind_of_role facts.role facts.mute) else None) ∷ (if facts.live then live_kind facts.role else None) ∷ []

abbrev pub no_kinds : List (Option SessionKind)
no_kinds = None ∷ None ∷ []

abbrev pub kinds_of_session : State → SessionId → List (Option SessionKind)
kinds_of_session s x = option_map_or kinds_of_facts (session_of x s) no_kinds

abbrev pub groups_of_session : State → SessionId → List (Option Group)
groups_of_session s x = map (option_map session_group) (kinds_of_session s x)

-- what is prepared for a change: the jobs and the sessions that it touches, with the groups that they are in before it

abbrev pub past_job : Configuration → State → List JobId → JobId → PastJob
past_job c s lines j = record { job = j; groups = groups_of_job c s lines j }

abbrev pub past_session : State → SessionId → PastSession
past_session s x = record { session = x; groups = groups_of_session s x }

abbrev pub job_before : PastJob → Placed JobId
job_before past = record { id = past.job; groups = past.groups }

abbrev pub session_before : PastSession → Placed SessionId
session_before past = record { id = past.session; groups = past.groups }

-- the jobs and the sessions, with their groups (own)
pub record PastOf : Type 0 where
  pub jobs : List PastJob
  pub sessions : List PastSession

-- all that is touched, with the groups that it is in in the state
pub record IsPast (c : Configuration) (s : State) (lines : List JobId) (touched : TouchedOf) (past : PastOf) : Type 0 where
  pub jobs : past.jobs ≡ map (past_job c s lines) touched.jobs
  pub sessions : past.sessions ≡ map (past_session s) touched.sessions

-- there is room for each job in the one group that it may be in, and for each session in its two
pub record HasRoom (past : PastOf) (active : ActiveOf) : Type 0 where
  pub jobs : length past.jobs ≤ active.job_room
  pub sessions : 2 * length past.sessions ≤ active.session_room
