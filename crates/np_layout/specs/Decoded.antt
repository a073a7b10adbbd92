-- the state that is read from a tree, table by table, from what the tree shows: the rows of a
-- directory, the bytes at a path, the counters, and which sessions are live. Where a text spells nothing
-- there is a default (own); a tree of a state that it can carry has no such text
use Rattle.std.specs.Prelude.{◌≡◌, ℕ, ◌+◌, ◌-◌, false, List, [], ◌∷◌, Option, None, filter_map, fold, map, take, drop, unwrap_or}
use Rattle.np_spelling.specs.Reading.{role_in}
use Rattle.np_layout.specs.Place.{path_of, place_name}
use Rattle.np_layout.specs.declared.place.Place.{Place}
use Rattle.np_layout.specs.declared.place.Place.TheVariants.{Requests, RequestLock, Nodes, NodeLock, Launchers, Launcher, Semaphore, Handle, Job, LauncherRole, JanitorRole, RequesterRole, Sessions, SweptPairs, Tick}
use Rattle.np_layout.specs.Layout.{next_under, under}
use Rattle.np_layout.specs.Rows.{places, tree_session}
use Rattle.np_layout.specs.Carried.{IsStored, is_pair_before}
use Rattle.np_layout.specs.Lower.{Building, Configuration, JobId, JobRecord, NodeEntry, NodeId, NodeRecord, Reaper, Registration, RequestEntry, RequestId, RequestRecord, Requested, RoleRecord, Row, SemId, SessionFacts, SessionId, SessionRecord, State, Swept, TreeState, bytes_at, find_named, insert_before, is_in, job_in, max_u32, max_u64, new_job, no_deeds, node_in, number_of, option_map, request_of, request_record_in, sequence_of, session_in}

-- ## what the tree shows of a place

-- the bytes at a place; none if nothing is there
abbrev pub text_at : Place → TreeState → List ℕ
text_at p t = unwrap_or (bytes_at t (path_of p)) []

-- the row of a place among the children of its directory
abbrev pub row_in : Place → Place → TreeState → Option Row
row_in dir p t = find_named (place_name p) (under dir t)

-- the session of the machine that owns a row: the tree's is the next (`tree_session`)
abbrev pub owner_of : Row → SessionId
owner_of row = record { 0 = unwrap_or row.owner 0 - 1 }

-- the sessions that wait at a lock, in the order of their rows (ZooKeeper Recipes, Locks)
abbrev pub queue_at : Place → TreeState → List SessionId
queue_at lock t = map owner_of (under lock t)

-- ## the tick and the sessions

-- the number of which the bytes of the tick's place are the decimal
abbrev pub tick_at : TreeState → ℕ
tick_at t = unwrap_or (number_of max_u32 (text_at Tick t)) 0

-- the default for a session's record
abbrev pub no_session : SessionRecord
no_session = record { mute = false; role = Reaper }

-- the session of a number: its row spells its role and whether it is mute, and the tree knows whether it is live
abbrev pub session_at : TreeState → ℕ → Row → SessionFacts
session_at t number row =
    let kept : SessionRecord = unwrap_or (session_in row.bytes).0 no_session in
    record { role = kept.role; live = is_in t.live (tree_session (record { 0 = number })); mute = kept.mute }

-- the sessions of some rows, the first of which has this number
abbrev pub sessions_from : TreeState → ℕ → List Row → List SessionFacts
sessions_from t number [] = []
sessions_from t number (row ∷ rows) = session_at t number row ∷ sessions_from t (number + 1) rows

-- sessions count from 1
abbrev pub sessions_at : TreeState → List SessionFacts
sessions_at t = sessions_from t 1 (under Sessions t)

-- ## requests and nodes

-- the default for a request's record
abbrev pub no_request : RequestRecord
no_request = record {
  declined = [];
  job = None;
  labels = [];
  nodes = [];
  pinned = None;
  pool = None;
  relative_priority = 0;
  state = Requested;
}

-- the request whose text is the name
abbrev pub request_named : List ℕ → RequestId
request_named name = unwrap_or (request_of name) (record { priority = 0; seq = 0 })

-- the request of a row: the name is its text, the bytes spell its record, and its lock has its queue
abbrev pub request_at : TreeState → Row → RequestEntry
request_at t row = record {
  id = request_named row.name;
  kept = unwrap_or (request_record_in row.bytes).0 no_request;
  queue = queue_at (RequestLock (request_named row.name)) t;
}

-- the requests, in the order of their rows
abbrev pub requests_at : TreeState → List RequestEntry
requests_at t = map (request_at t) (under Requests t)

-- the default for a node's record
abbrev pub no_node : NodeRecord
no_node = record {
  allocated_to = None;
  attempts = 0;
  in_flight = false;
  label = record { 0 = 0 };
  pool = record { 0 = 0 };
  server = None;
  since = 0;
  start = 0;
  state = Building;
  tenant = None;
}

-- the node of which the name is the number, in ten digits
abbrev pub node_named : List ℕ → NodeId
node_named name = record { 0 = unwrap_or (sequence_of name) 0 }

-- the node of a row: the name has its number, the bytes spell its record, and its lock has its queue
abbrev pub node_at : TreeState → Row → NodeEntry
node_at t row = record {
  id = node_named row.name;
  kept = unwrap_or (node_in row.bytes).0 no_node;
  queue = queue_at (NodeLock (node_named row.name)) t;
}

-- the nodes, in the order of their rows
abbrev pub nodes_at : TreeState → List NodeEntry
nodes_at t = map (node_at t) (under Nodes t)

-- the number that the next sequential child of a place gets
abbrev pub next_at : Place → TreeState → ℕ
next_at p t = unwrap_or (next_under p t) 0

-- ## registrations and handles

-- the registration for the pool of this number, if its row is there
abbrev pub registration_at : TreeState → ℕ → Option Registration
registration_at t pool = option_map (λ row. record { pool = record { 0 = pool }; session = owner_of row }) (row_in Launchers (Launcher (record { 0 = pool })) t)

-- the registrations, in the order of the configuration's pools
abbrev pub registrations_at : Configuration → TreeState → List Registration
registrations_at c t = filter_map (registration_at t) (places c.pools)

-- the job of this number, if the row of its handle is there
abbrev pub handle_at : SemId → TreeState → ℕ → Option JobId
handle_at x t job = option_map (λ row. record { 0 = job }) (row_in (Semaphore x) (Handle x (record { 0 = job })) t)

-- for each semaphore the jobs with a handle, in the order of the configuration's jobs
abbrev pub handles_at : Configuration → TreeState → List (List JobId)
handles_at c t = map (λ x. filter_map (handle_at (record { 0 = x }) t) (places c.jobs)) (places c.semaphores)

-- ## jobs and roles

-- the record that is spelled at the place of the job of this number
abbrev pub job_at : TreeState → ℕ → JobRecord
job_at t job = unwrap_or (job_in (text_at (Job (record { 0 = job })) t)).0 new_job

-- the records of the configuration's jobs
abbrev pub jobs_at : Configuration → TreeState → List JobRecord
jobs_at c t = map (job_at t) (places c.jobs)

-- the record that is spelled at the place of a role
abbrev pub role_at : Place → TreeState → RoleRecord
role_at p t = unwrap_or (role_in (text_at p t)).0 no_deeds

-- the records of the launchers, one for each pool
abbrev pub launchers_at : Configuration → TreeState → List RoleRecord
launchers_at c t = map (λ pool. role_at (LauncherRole (record { 0 = pool })) t) (places c.pools)

-- the records of the janitors, one for each pool
abbrev pub janitors_at : Configuration → TreeState → List RoleRecord
janitors_at c t = map (λ pool. role_at (JanitorRole (record { 0 = pool })) t) (places c.pools)

-- the records of the configuration's requesters
abbrev pub requesters_at : Configuration → TreeState → List RoleRecord
requesters_at c t = map (λ requester. role_at (RequesterRole (record { 0 = requester })) t) (places c.requesters)

-- ## swept pairs

-- the pair of a name: the ten digits of the node's number, a dash and the decimal of the server's
abbrev pub pair_named : List ℕ → Swept
pair_named name = record { node = node_named (take 10 name); server = unwrap_or (number_of max_u64 (drop 11 name)) 0 }

-- the pairs by node and then server: each is put before the first that is after it
abbrev pub in_order : List Swept → List Swept
in_order pairs = fold (λ sorted pair. insert_before (is_pair_before pair) pair sorted) [] pairs

-- the pairs that the names of the rows have
abbrev pub swept_at : TreeState → List Swept
swept_at t = in_order (map (λ row. pair_named row.name) (under SweptPairs t))

-- ## the whole

-- the state that a site's tree shows
abbrev pub decoded : Configuration → TreeState → State
decoded c t = record {
  tick = tick_at t;
  sessions = sessions_at t;
  registrations = registrations_at c t;
  requests = requests_at t;
  nodes = nodes_at t;
  handles = handles_at c t;
  jobs = jobs_at c t;
  launchers = launchers_at c t;
  janitors = janitors_at c t;
  requesters = requesters_at c t;
  swept = swept_at t;
  next_request = next_at Requests t;
  next_node = next_at Nodes t;
}

-- a tree lays out at most one state that it can carry, and that is the one that is read from it
abbrev pub TreesHaveOneState : Type 0
TreesHaveOneState = (c : Configuration) (s : State) (t : TreeState) → IsStored c s t → decoded c t ≡ s
