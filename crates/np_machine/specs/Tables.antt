-- what is under an id, and how one member of a list is changed
use Rattle.std.specs.Prelude.{ℕ, suc, ◌-◌, List, [], ◌∷◌, ◌++◌, Bool, false, ◌==◌, ◌&&◌, not, if◌then◌else◌, Option, Some, None, map, filter, find, slice_get, slice_set, unwrap_or}
use Rattle.std.specs.Option.{option_map, option_map_or}
use Rattle.std.specs.List.{list_any}
use Rattle.np_machine.specs.Entries.{RequestEntry, NodeEntry}
use Rattle.np_machine.specs.declared.state.SessionFacts.{SessionFacts}
use Rattle.np_machine.specs.declared.state.Registration.{Registration}
use Rattle.np_machine.specs.State.{State}
use Rattle.np_machine.specs.Lower.{Janitor, JobId, JobRecord, Launcher, NodeId, NodeRecord, PoolId, Reaper, RequestId, RequestRecord, Requester, Role, RoleRecord, SemId, SessionId, change_at, change_first, remove_first}

-- ## sessions

-- sessions count from 1
abbrev pub session_of : SessionId → State → Option SessionFacts
session_of session s = if session.0 == 0 then None else slice_get s.sessions (session.0 - 1)

abbrev pub role_of : SessionId → State → Option Role
role_of session s = option_map (λ f. f.role) (session_of session s)

abbrev pub change_session : SessionId → (SessionFacts → SessionFacts) → List SessionFacts → List SessionFacts
change_session session f sessions = change_at (session.0 - 1) f sessions

abbrev pub is_session : SessionId → SessionId → Bool
is_session a b = a.0 == b.0

-- the option names this session
abbrev pub is_session_of : SessionId → Option SessionId → Bool
is_session_of session None = false
is_session_of session (Some other) = is_session other session

-- who holds the registration of the pool (Nodepool: a launcher registers for its pool)
abbrev pub registered : PoolId → List Registration → Option SessionId
registered p registrations = option_map (λ r. r.session) (find (λ r. r.pool.0 == p.0) registrations)

-- ## queues: the first holds (ZooKeeper Recipes: the lowest child holds the lock)

abbrev pub holder : List SessionId → Option SessionId
holder queue = slice_get queue 0

-- in the queue, at whatever place
abbrev pub is_queued : SessionId → List SessionId → Bool
is_queued session queue = list_any (λ other. is_session other session) queue

-- how many sessions are before this one, or in all if it is not there
abbrev pub ahead_of : SessionId → List SessionId → ℕ
ahead_of session [] = 0
ahead_of session (other ∷ queue) = if is_session other session then 0 else suc (ahead_of session queue)

-- the session at the end, unless it is there
abbrev pub joined : SessionId → List SessionId → List SessionId
joined session queue = if is_queued session queue then queue else queue ++ session ∷ []

abbrev pub left : SessionId → List SessionId → List SessionId
left session queue = filter (λ other. not (is_session other session)) queue

-- ## requests

abbrev pub same_request : RequestId → RequestId → Bool
same_request a b = (a.priority == b.priority) && (a.seq == b.seq)

-- the option names this request
abbrev pub is_request : RequestId → Option RequestId → Bool
is_request r None = false
is_request r (Some other) = same_request other r

abbrev pub request_entry : RequestId → List RequestEntry → Option RequestEntry
request_entry r requests = find (λ e. same_request e.id r) requests

abbrev pub request_in : RequestId → List RequestEntry → Option RequestRecord
request_in r requests = option_map (λ e. e.kept) (request_entry r requests)

abbrev pub request_queue : RequestId → List RequestEntry → List SessionId
request_queue r requests = option_map_or (λ e. e.queue) (request_entry r requests) []

abbrev pub request_holder : RequestId → List RequestEntry → Option SessionId
request_holder r requests = holder (request_queue r requests)

abbrev pub put_request : RequestId → RequestRecord → List RequestEntry → List RequestEntry
put_request r kept requests = change_first (λ e. same_request e.id r) (λ e. record e { kept = kept }) requests

abbrev pub put_request_queue : RequestId → List SessionId → List RequestEntry → List RequestEntry
put_request_queue r queue requests = change_first (λ e. same_request e.id r) (λ e. record e { queue = queue }) requests

abbrev pub remove_request : RequestId → List RequestEntry → List RequestEntry
remove_request r requests = remove_first (λ e. same_request e.id r) requests

-- ## nodes

abbrev pub node_entry : NodeId → List NodeEntry → Option NodeEntry
node_entry n nodes = find (λ e. e.id.0 == n.0) nodes

abbrev pub node_in : NodeId → List NodeEntry → Option NodeRecord
node_in n nodes = option_map (λ e. e.kept) (node_entry n nodes)

abbrev pub node_queue : NodeId → List NodeEntry → List SessionId
node_queue n nodes = option_map_or (λ e. e.queue) (node_entry n nodes) []

abbrev pub node_holder : NodeId → List NodeEntry → Option SessionId
node_holder n nodes = holder (node_queue n nodes)

abbrev pub put_node : NodeId → NodeRecord → List NodeEntry → List NodeEntry
put_node n kept nodes = change_first (λ e. e.id.0 == n.0) (λ e. record e { kept = kept }) nodes

abbrev pub put_node_queue : NodeId → List SessionId → List NodeEntry → List NodeEntry
put_node_queue n queue nodes = change_first (λ e. e.id.0 == n.0) (λ e. record e { queue = queue }) nodes

abbrev pub remove_node : NodeId → List NodeEntry → List NodeEntry
remove_node n nodes = remove_first (λ e. e.id.0 == n.0) nodes

-- freed: the allocation and its tenant are taken away, nothing else
abbrev pub freed : NodeRecord → NodeRecord
freed k = record k { allocated_to = None; tenant = None }

-- freed, if it is allocated to the request
abbrev pub freed_from : RequestId → NodeEntry → NodeEntry
freed_from r e = if is_request r e.kept.allocated_to then record e { kept = freed e.kept } else e

-- every node that is allocated to the request, freed
abbrev pub all_freed : RequestId → List NodeEntry → List NodeEntry
all_freed r nodes = map (freed_from r) nodes

-- ## jobs and semaphores

abbrev pub put_job : JobId → JobRecord → List JobRecord → List JobRecord
put_job j kept jobs = slice_set jobs j.0 kept

abbrev pub is_marked : NodeId → JobRecord → Bool
is_marked n job = list_any (λ m. m.node.0 == n.0) job.nodes

-- the jobs with a handle of the semaphore
abbrev pub handles_of : SemId → List (List JobId) → List JobId
handles_of x handles = unwrap_or (slice_get handles x.0) []

abbrev pub is_among : JobId → List JobId → Bool
is_among j jobs = list_any (λ other. other.0 == j.0) jobs

abbrev pub has_handle : JobId → List (List JobId) → SemId → Bool
has_handle j handles x = is_among j (handles_of x handles)

-- ## roles

abbrev pub role_in : Role → State → Option RoleRecord
role_in (Launcher p) s = slice_get s.launchers p.0
role_in (Janitor p) s = slice_get s.janitors p.0
role_in (Requester q) s = slice_get s.requesters q.0
role_in Reaper s = None

abbrev pub change_launcher : (RoleRecord → RoleRecord) → Role → List RoleRecord → List RoleRecord
change_launcher f (Launcher p) roles = change_at p.0 f roles
change_launcher f _ roles = roles

abbrev pub change_janitor : (RoleRecord → RoleRecord) → Role → List RoleRecord → List RoleRecord
change_janitor f (Janitor p) roles = change_at p.0 f roles
change_janitor f _ roles = roles

abbrev pub change_requester : (RoleRecord → RoleRecord) → Role → List RoleRecord → List RoleRecord
change_requester f (Requester q) roles = change_at q.0 f roles
change_requester f _ roles = roles

-- the record of one role, changed
abbrev pub change_role : (RoleRecord → RoleRecord) → Role → State → State
change_role f role s = record s {
  launchers = change_launcher f role s.launchers;
  janitors = change_janitor f role s.janitors;
  requesters = change_requester f role s.requesters;
}
