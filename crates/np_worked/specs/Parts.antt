-- what the made-up cases are made of: ids, a site, a state and its records
use Rattle.std.specs.Prelude.{ℕ, [], ◌∷◌, Some, None, true, false, codes}
use Rattle.np_worked.specs.Site.{a_job, label}
pub use Rattle.np_worked.specs.Site.{job, line as accepted, node, session}
use Rattle.np_worked.specs.Lower.{Configuration, Entry, Event, JobRecord, NodeEntry, NodeId, NodeRecord, NodeState, Phase, Refusal, Reply, RequestEntry, RequestId, RequestRecord, RequestState, Requester, Role, State, Turn, configuration, start}

-- ## ids and entries

-- a request of normal priority
abbrev pub request : ℕ → RequestId
request seq = record { priority = 200; seq = seq }

-- the site's one requester
abbrev pub requester : Role
requester = Requester (record { 0 = 0 })

abbrev pub refused : Event → Entry
refused event = record { event = event; reply = Reply.Refused Refusal.NotHeld }

-- ## a site with one requester, one job and one semaphore, and a state of it

abbrev pub site : Configuration
site = configuration [] [] [] (record { name = codes "x"; max = 1 } ∷ []) [] (record { name = codes "q"; window = 1 } ∷ []) (a_job (codes "j") (label 0 ∷ []) ∷ []) [] 0

-- the record of job 0's request, in this state
abbrev pub asked_for : RequestState → RequestRecord
asked_for state = record {
  declined = [];
  job = Some (job 0);
  labels = record { 0 = 0 } ∷ [];
  nodes = [];
  pinned = None;
  pool = None;
  relative_priority = 0;
  state = state;
}

-- a request with this record, which session 1 holds
abbrev pub held_request : RequestId → RequestRecord → RequestEntry
held_request r kept = record { id = r; kept = kept; queue = session 1 ∷ [] }

-- the record of a node that is allocated to request 0, in this state
abbrev pub allocated : NodeState → NodeRecord
allocated state = record {
  allocated_to = Some (request 0);
  attempts = 1;
  in_flight = false;
  label = record { 0 = 0 };
  pool = record { 0 = 0 };
  server = Some 7;
  since = 0;
  start = 1;
  state = state;
  tenant = None;
}

-- a node with this record, which session 1 holds
abbrev pub held_node : NodeId → NodeRecord → NodeEntry
held_node n kept = record { id = n; kept = kept; queue = session 1 ∷ [] }

-- a job that has asked for its nodes by request 0
abbrev pub asked_job : JobRecord
asked_job = record { ending = None; nodes = []; phase = Phase.Asked; pool = None; request = Some (request 0) }

-- one session, a request and a node that it holds, a job that asked and has a handle, and a swept server
abbrev pub whole : State
whole = record (start site) {
  sessions = record { role = requester; live = true; mute = false } ∷ [];
  requests = held_request (request 0) (asked_for RequestState.Requested) ∷ [];
  nodes = held_node (node 0) (allocated NodeState.Ready) ∷ [];
  handles = (job 0 ∷ []) ∷ [];
  jobs = asked_job ∷ [];
  swept = record { node = node 0; server = 6 } ∷ [];
  next_request = 1;
  next_node = 1;
}

-- ## turns

-- from the whole state, by this entry, to this state
abbrev pub turn_to : State → Entry → Turn
turn_to later entry = record { before = whole; entry = entry; later = later }

-- to the state before the first event
abbrev pub turn_to_nothing : Entry → Turn
turn_to_nothing entry = turn_to (start site) entry
