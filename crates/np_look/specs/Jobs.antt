-- a requester's next jobs: those that can begin, that can take their nodes or acquire handles, that can be
-- finished, and whose handles can be given back
use Rattle.std.specs.Prelude.{ℕ, Bool, false, ◌==◌, ◌&&◌, ◌||◌, not, Option, is_none, length, slice_get, List, [], ◌∷◌, true, Some, None, nat_lt}
use Rattle.np_look.specs.Readers.{jobs_from, request_state_of, due_of}
use Rattle.np_look.specs.declared.asked.RequestView.{RequestView}
use Rattle.np_look.specs.declared.asked.UnheldKind.{UnheldKind}
use Rattle.np_look.specs.declared.asked.NodeView.{NodeView}
use Rattle.np_look.specs.Lower.{Configuration, Job, JobId, JobRecord, NodeEntry, Phase, RequestEntry, RequestState, RequesterId, SessionId, State, comes_before, first_full, has_handle, holder, is_asked, is_failed, is_fulfilled, is_new, is_over, is_using, list_any, option_map_or}

-- the configuration has the job, the job is the requester's, and its row passes
abbrev pub is_own : Configuration → RequesterId → JobId → (Job → Bool) → Bool
is_own c q j such = option_map_or (λ row. (row.requester.0 == q.0) && such row) (slice_get c.jobs j.0) false

-- ## to begin

-- the job need not wait for semaphores: it asks for its nodes first, or none of those that it lacks is
-- full (Zuul: resources-first, semaphores)
abbrev pub may_begin : Configuration → State → JobId → Job → Bool
may_begin c s j row = row.resources_first || is_none (first_full c s j row)

-- a new job of the requester that need not wait
abbrev pub is_job_to_begin : Configuration → State → RequesterId → JobId → JobRecord → Bool
is_job_to_begin c s q j kept = is_own c q j (may_begin c s j) && is_new kept.phase

-- the first of them
abbrev pub job_to_begin : Configuration → RequesterId → State → Option JobId
job_to_begin c q s = slice_get (jobs_from (is_job_to_begin c s q) 0 s.jobs) 0

-- ## to take and to acquire

-- a job in this phase was given its nodes: it has asked for them, and its request, which is in this state, is
-- fulfilled (Nodepool: fulfilled)
abbrev pub was_given : Phase → Option RequestState → Bool
was_given phase state = is_asked phase && option_map_or is_fulfilled state false

-- the job need not wait for handles: it has one, or no semaphores (Zuul: a job gets all its semaphores at once)
abbrev pub is_supplied : State → JobId → Job → Bool
is_supplied s j row = (length row.semaphores == 0) || list_any (has_handle j s.handles) row.semaphores

-- a job of the requester that was given its nodes and need not wait for handles
abbrev pub is_job_to_take : Configuration → State → RequesterId → JobId → JobRecord → Bool
is_job_to_take c s q j kept = is_own c q j (is_supplied s j) && was_given kept.phase (request_state_of kept.request s)

-- these jobs in order: the one at this place
abbrev pub job_to_take : Configuration → RequesterId → ℕ → State → Option JobId
job_to_take c q at s = slice_get (jobs_from (is_job_to_take c s q) 0 s.jobs) at

-- the job waits for handles, and none of its semaphores is full
abbrev pub may_acquire : Configuration → State → JobId → Job → Bool
may_acquire c s j row = not (is_supplied s j row) && is_none (first_full c s j row)

-- a job of the requester that was given its nodes, waits for handles and finds room in all its semaphores
abbrev pub is_job_to_acquire : Configuration → State → RequesterId → JobId → JobRecord → Bool
is_job_to_acquire c s q j kept = is_own c q j (may_acquire c s j) && was_given kept.phase (request_state_of kept.request s)

-- the first of them
abbrev pub job_to_acquire : Configuration → RequesterId → State → Option JobId
job_to_acquire c q s = slice_get (jobs_from (is_job_to_acquire c s q) 0 s.jobs) 0

-- ## to finish

-- a job of the requester that uses its nodes, or has asked for them and whose request failed, by the
-- request's state
abbrev pub is_job_to_finish_by : Configuration → RequesterId → JobId → JobRecord → Option RequestState → Bool
is_job_to_finish_by c q j kept state =
    option_map_or (λ row. row.requester.0 == q.0) (slice_get c.jobs j.0) false
    && (is_using kept.phase || (is_asked kept.phase && option_map_or is_failed state false))

abbrev pub is_job_to_finish : Configuration → State → RequesterId → JobId → JobRecord → Bool
is_job_to_finish c s q j kept = is_job_to_finish_by c q j kept (request_state_of kept.request s)

-- these jobs in order: the one at this place
abbrev pub job_to_finish : Configuration → RequesterId → ℕ → State → Option JobId
job_to_finish c q at s = slice_get (jobs_from (is_job_to_finish c s q) 0 s.jobs) at

-- ## to release

-- a job of the requester that is over and has a handle (Zuul: semaphores are released when the job is over)
abbrev pub is_job_to_release : Configuration → State → RequesterId → JobId → JobRecord → Bool
is_job_to_release c s q j kept = is_own c q j (λ row. list_any (has_handle j s.handles) row.semaphores) && is_over kept.phase

-- these jobs in order: the one at this place
abbrev pub job_to_release : Configuration → RequesterId → ℕ → State → Option JobId
job_to_release c q at s = slice_get (jobs_from (is_job_to_release c s q) 0 s.jobs) at

-- rows with who holds them

abbrev pub request_view : RequestEntry → RequestView
request_view e = record { id = e.id; kept = e.kept; holder = holder e.queue }

abbrev pub node_view : NodeEntry → NodeView
node_view e = record { id = e.id; kept = e.kept; holder = holder e.queue }

-- ## rows as their views show them: the queue without those who wait

abbrev pub held_by : Option SessionId → List SessionId
held_by None = []
held_by (Some session) = session ∷ []

abbrev pub request_seen : RequestView → RequestEntry
request_seen v = record { id = v.id; kept = v.kept; queue = held_by v.holder }

abbrev pub node_seen : NodeView → NodeEntry
node_seen v = record { id = v.id; kept = v.kept; queue = held_by v.holder }

-- before the best so far, if there is one
abbrev pub comes_first : Option RequestView → RequestView → Bool
comes_first None v = true
comes_first (Some best) v = comes_before (request_seen v) (request_seen best)

-- due before the best so far, if there is one
abbrev pub is_sooner : Configuration → UnheldKind → Option NodeView → NodeView → Bool
is_sooner c kind None v = true
is_sooner c kind (Some best) v = nat_lt (due_of c kind v.kept) (due_of c kind best.kept)
