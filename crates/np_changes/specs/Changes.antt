-- what a change does to the state: a line for each way of changing
use Rattle.std.specs.Prelude.{ℕ, ◌+◌, List, [], ◌∷◌, ◌++◌, true, false, ◌==◌, not, if◌then◌else◌, Option, Some, None, filter, map, slice_get}
use Rattle.np_changes.specs.Asked.{new_record}
use Rattle.np_changes.specs.declared.changes.Maker.{Maker}
use Rattle.np_changes.specs.declared.changes.Changes.{Changes}
use Rattle.np_changes.specs.declared.changes.Growth.{Growth}
use Rattle.np_changes.specs.declared.changes.RequestEdit.{RequestEdit}
use Rattle.np_changes.specs.declared.changes.RequestsChange.{RequestsChange}
use Rattle.np_changes.specs.declared.changes.NodesChange.{NodesChange}
use Rattle.np_changes.specs.declared.changes.JobsChange.{JobsChange}
use Rattle.np_changes.specs.declared.changes.HandlesChange.{HandlesChange}
use Rattle.np_changes.specs.declared.changes.Deed.{Deed}
use Rattle.np_changes.specs.declared.changes.SessionsChange.{SessionsChange}
use Rattle.np_changes.specs.Lower.{Configuration, JobId, JobRecord, Launcher, NodeEntry, Registration, RequestEntry, RequestRecord, RequestState, Role, RoleRecord, SemId, SessionFacts, SessionId, State, all_freed, all_in_use, all_with_handle, all_without_handle, allocated, change_at, change_first, change_janitor, change_launcher, change_requester, change_session, declined_with, ended, insert_request, is_session, joined, left, muted, next_id, node_left, node_queue, one_more_act, one_more_start, option_map_or, put_job, put_node, put_node_queue, put_request_queue, registers, remove_node, remove_request, request_left, request_queue, same_request, struck_unless, with_mark, with_node, with_pair}

-- the maker's session changes it; with no maker nothing changes
abbrev pub by_maker : {A : Type 0} → Option Maker → (SessionId → A → A) → A → A
by_maker None change a = a
by_maker (Some maker) change a = change maker.session a

-- the semaphores of a job
abbrev pub semaphores_of : Configuration → JobId → List SemId
semaphores_of c j = option_map_or (λ job. job.semaphores) (slice_get c.jobs j.0) []

-- ## what may take memory

abbrev pub grown : Configuration → Option Maker → Growth → State → State
grown c maker Growth.Nothing s = s
grown c maker (Growth.Session role) s = record s { sessions = s.sessions ++ record { role = role; live = true; mute = false } ∷ [] }
grown c maker (Growth.Registration p) s = by_maker maker (λ session t. registers t session p) s
grown c maker (Growth.Request priority asked) s = record s {
  requests = insert_request (record { id = next_id priority s; kept = new_record asked; queue = [] }) s.requests;
  next_request = s.next_request + 1;
}
grown c maker (Growth.Node kept) s = record s {
  nodes = s.nodes ++ record { id = record { 0 = s.next_node }; kept = kept; queue = by_maker maker (λ session queue. queue ++ session ∷ []) [] } ∷ [];
  next_node = s.next_node + 1;
}
grown c maker (Growth.JoinRequest r) s = record s { requests = by_maker maker (λ session rows. put_request_queue r (joined session (request_queue r rows)) rows) s.requests }
grown c maker (Growth.JoinNode n) s = record s { nodes = by_maker maker (λ session rows. put_node_queue n (joined session (node_queue n rows)) rows) s.nodes }
grown c maker (Growth.Allocate n r tenant) s = record s { nodes = by_maker maker (λ session rows. change_first (λ e. e.id.0 == n.0) (allocated r tenant session) rows) s.nodes }
grown c maker (Growth.Handles j) s = record s { handles = all_with_handle j (semaphores_of c j) s.handles }
grown c maker (Growth.Swept n x) s = record s { swept = with_pair n x s.swept }

-- ## what may not fail

abbrev pub edited : RequestEdit → RequestRecord → RequestRecord
edited (RequestEdit.Serve p) k = record k { pool = Some p; state = RequestState.Pending }
edited (RequestEdit.AddNode n) k = with_node k n
edited (RequestEdit.Decline p why failed) k = record k {
  declined = declined_with k p why;
  nodes = [];
  pool = None;
  state = if failed then RequestState.Failed else RequestState.Requested;
}
edited RequestEdit.Fulfil k = record k { state = RequestState.Fulfilled }
edited RequestEdit.GiveBack k = record k { nodes = []; pool = None; state = RequestState.Requested }
edited RequestEdit.Fail k = record k { state = RequestState.Failed }
edited (RequestEdit.Revise relative) k = record k { relative_priority = relative }

abbrev pub requests_changed : Option Maker → RequestsChange → List RequestEntry → List RequestEntry
requests_changed maker RequestsChange.Same rows = rows
requests_changed maker (RequestsChange.Edit r change) rows = change_first (λ e. same_request e.id r) (λ e. record e { kept = edited change e.kept }) rows
requests_changed maker (RequestsChange.Remove r) rows = remove_request r rows
requests_changed maker (RequestsChange.Leave r) rows = by_maker maker (λ session old. put_request_queue r (left session (request_queue r old)) old) rows

abbrev pub nodes_changed : Option Maker → ℕ → NodesChange → List NodeEntry → List NodeEntry
nodes_changed maker tick NodesChange.Same rows = rows
nodes_changed maker tick (NodesChange.Put n kept) rows = put_node n kept rows
nodes_changed maker tick (NodesChange.Remove n) rows = remove_node n rows
nodes_changed maker tick (NodesChange.Leave n) rows = by_maker maker (λ session old. put_node_queue n (left session (node_queue n old)) old) rows
nodes_changed maker tick (NodesChange.FreeAll r) rows = all_freed r rows
nodes_changed maker tick (NodesChange.TakeOver numbers) rows = all_in_use tick numbers rows

abbrev pub jobs_changed : JobsChange → List JobRecord → List JobRecord
jobs_changed JobsChange.Same rows = rows
jobs_changed (JobsChange.Put j kept) rows = put_job j kept rows
jobs_changed (JobsChange.EndNode j n) rows = change_at j.0 (with_mark n) rows

abbrev pub handles_changed : Configuration → HandlesChange → List (List JobId) → List (List JobId)
handles_changed c HandlesChange.Same rows = rows
handles_changed c (HandlesChange.Release j) rows = all_without_handle j (semaphores_of c j) rows

-- one deed in the records of launchers, of janitors or of requesters, by what changes one of them
abbrev pub with_deed : ((RoleRecord → RoleRecord) → Role → List RoleRecord → List RoleRecord) → Option Maker → Option Deed → List RoleRecord → List RoleRecord
with_deed change maker None rows = rows
with_deed change maker (Some Deed.Acts) rows = option_map_or (λ m. change one_more_act m.role rows) maker rows
with_deed change maker (Some (Deed.StartsAndActs p)) rows = change (λ role. one_more_act (one_more_start role)) (Launcher p) rows
with_deed change maker (Some (Deed.Strikes role counted)) rows = change (struck_unless counted) role rows

-- a session makes no more events, or ends and leaves its registration and every queue

abbrev pub sessions_changed : SessionsChange → List SessionFacts → List SessionFacts
sessions_changed SessionsChange.Same rows = rows
sessions_changed (SessionsChange.Mute session) rows = change_session session muted rows
sessions_changed (SessionsChange.End session) rows = change_session session ended rows

abbrev pub registrations_left : SessionsChange → List Registration → List Registration
registrations_left SessionsChange.Same rows = rows
registrations_left (SessionsChange.Mute session) rows = rows
registrations_left (SessionsChange.End session) rows = filter (λ g. not (is_session g.session session)) rows

abbrev pub requests_left : SessionsChange → List RequestEntry → List RequestEntry
requests_left SessionsChange.Same rows = rows
requests_left (SessionsChange.Mute session) rows = rows
requests_left (SessionsChange.End session) rows = map (request_left session) rows

abbrev pub nodes_left : SessionsChange → List NodeEntry → List NodeEntry
nodes_left SessionsChange.Same rows = rows
nodes_left (SessionsChange.Mute session) rows = rows
nodes_left (SessionsChange.End session) rows = map (node_left session) rows

abbrev pub settled : Configuration → Changes → State → State
settled c ch s = record s {
  tick = if ch.ticks then s.tick + 1 else s.tick;
  sessions = sessions_changed ch.sessions s.sessions;
  registrations = registrations_left ch.sessions s.registrations;
  requests = requests_left ch.sessions (requests_changed ch.maker ch.requests s.requests);
  nodes = nodes_left ch.sessions (nodes_changed ch.maker s.tick ch.nodes s.nodes);
  handles = handles_changed c ch.handles s.handles;
  jobs = jobs_changed ch.jobs s.jobs;
  launchers = with_deed change_launcher ch.maker ch.deed s.launchers;
  janitors = with_deed change_janitor ch.maker ch.deed s.janitors;
  requesters = with_deed change_requester ch.maker ch.deed s.requesters;
}

-- ## all of it

abbrev pub changed : Configuration → Changes → State → State
changed c ch s = settled c ch (grown c ch.maker ch.grows s)
