-- what the lookups have, when they are those of a state, and what an event's changes make of them
use Rattle.std.specs.Prelude.{ℕ, Bool, if◌then◌else◌, List, [], map, filter, slice_get, unwrap_or, ◌≡◌, ◌<◌, ◌+◌, Option, None, length, ◌-◌, ◌∷◌, ◌++◌, Some, take, slice_set, option_and_then}
use Rattle.np_lookups.specs.Lower.{insert_before, list_any, remove_first, Configuration, JobId, NodeId, RequestId, RequesterId, SessionId, State, owner_of, queued_nodes, queued_requests, unfinished_from, Changes, Growth, JobsChange, Marked, change_at, is_id_before, is_node_before, is_over, is_using, node_queue, option_map_or, request_holder, same_job, same_node, same_request, changed}
use Rattle.np_lookups.specs.declared.waits.Wait.{Wait}
use Rattle.np_lookups.specs.Waits.{joins_request, joins_node, leaves_request, leaves_node, removed_node, ending}

-- lists of ids in an order, and such lists by place

-- ## one list

-- the id at its place in the order, unless it is there
abbrev pub with_id : {I : Type 0} → (I → I → Bool) → (I → I → Bool) → I → List I → List I
with_id before same i list = if list_any (λ other. same other i) list then list else insert_before (λ other. before i other) i list

-- the id left out
abbrev pub without_id : {I : Type 0} → (I → I → Bool) → I → List I → List I
without_id same i list = remove_first (λ other. same other i) list

-- the id left out again, if it was added
abbrev pub taken_back : {I : Type 0} → (I → I → Bool) → Bool → I → List I → List I
taken_back same added i list = if added then without_id same i list else list

-- the ids of the rows that pass, in the rows' order
abbrev pub ids_of : {E I : Type 0} → (E → I) → (E → Bool) → List E → List I
ids_of id p rows = map id (filter p rows)

-- ## lists by place

-- the list at the place; there is none past the end
abbrev pub list_at : {I : Type 0} → ℕ → List (List I) → List I
list_at at lists = unwrap_or (slice_get lists at) []

-- what the lookups have, and when they are those of a state

-- the parts of lookups (own)
pub record LookupsOf : Type 0 where
  -- for each requester, by its place, its jobs that are not over
  pub unfinished : List (List JobId)
  -- for each session, by its number, the requests in whose queues it is
  pub requests : List (List RequestId)
  -- for each session, by its number, the nodes in whose queues it is
  pub nodes : List (List NodeId)
  -- for each node, by its number, the job that has it
  pub owners : List (Option JobId)

-- the list of each requester has its jobs that are not over, in job order
pub record AreUnfinished (c : Configuration) (s : State) (lists : List (List JobId)) : Type 0 where
  pub each : (q : RequesterId) → list_at q.0 lists ≡ unfinished_from c q 0 s.jobs

-- the list of each session has the requests in whose queues it is, in order; there is one for each
-- session that was begun
pub record AreRequestsOf (s : State) (lists : List (List RequestId)) : Type 0 where
  pub each : (session : SessionId) → list_at session.0 lists ≡ queued_requests session s
  pub many : length s.sessions < length lists

-- the same for nodes
pub record AreNodesOf (s : State) (lists : List (List NodeId)) : Type 0 where
  pub each : (session : SessionId) → list_at session.0 lists ≡ queued_nodes session s
  pub many : length s.sessions < length lists

-- the job at the place; there is none past the end
abbrev pub owner_at : ℕ → List (Option JobId) → Option JobId
owner_at at owners = unwrap_or (slice_get owners at) None

-- at the number of each node is the job that has it; there is a place for each number that a node
-- was given, and those begin at 0
pub record AreOwners (s : State) (owners : List (Option JobId)) : Type 0 where
  pub each : (n : NodeId) → owner_at n.0 owners ≡ owner_of n s.jobs
  pub many : length owners ≡ s.next_node

-- each part says what the state says
pub record AreLookupsOf (c : Configuration) (s : State) (l : LookupsOf) : Type 0 where
  pub unfinished : AreUnfinished c s l.unfinished
  pub requests : AreRequestsOf s l.requests
  pub nodes : AreNodesOf s l.nodes
  pub owners : AreOwners s l.owners

-- there is room for one more session
pub record HasRoom (s : State) (l : LookupsOf) : Type 0 where
  pub requests : length s.sessions + 1 < length l.requests
  pub nodes : length s.sessions + 1 < length l.nodes

-- what an event's changes make of the parts of lookups

-- ## the lists of sessions

-- the session's list has the row
abbrev pub lists_joined : {I : Type 0} → (I → I → Bool) → (I → I → Bool) → Option (Wait I) → List (List I) → List (List I)
lists_joined before same wait lists = option_map_or (λ w. change_at w.session.0 (with_id before same w.id) lists) wait lists

-- it has the row no longer, if that was added
abbrev pub lists_taken_back : {I : Type 0} → (I → I → Bool) → Option (Wait I) → Bool → List (List I) → List (List I)
lists_taken_back same wait added lists = option_map_or (λ w. change_at w.session.0 (taken_back same added w.id) lists) wait lists

-- the session's list has the row no longer
abbrev pub lists_left : {I : Type 0} → (I → I → Bool) → Option (Wait I) → List (List I) → List (List I)
lists_left same wait lists = option_map_or (λ w. change_at w.session.0 (without_id same w.id) lists) wait lists

-- nor has the list of any session of the queue
abbrev pub lists_without : {I : Type 0} → (I → I → Bool) → I → List SessionId → List (List I) → List (List I)
lists_without same i [] lists = lists
lists_without same i (session ∷ queue) lists = lists_without same i queue (change_at session.0 (without_id same i) lists)

-- if a row goes
abbrev pub lists_removed : {I : Type 0} → (I → I → Bool) → Option I → List SessionId → List (List I) → List (List I)
lists_removed same id queue lists = option_map_or (λ i. lists_without same i queue lists) id lists

-- the list of the session is empty
abbrev pub lists_ended : {I : Type 0} → Option SessionId → List (List I) → List (List I)
lists_ended session lists = option_map_or (λ x. change_at x.0 (λ _. []) lists) session lists

-- the queue of a node that goes
abbrev pub queue_at : Option NodeId → State → List SessionId
queue_at node s = option_map_or (λ n. node_queue n s.nodes) node []

-- the holder of a request that goes
abbrev pub holder_at : Option RequestId → State → Option SessionId
holder_at request s = option_and_then (λ r. request_holder r s.requests) request

-- ## jobs

-- a job that is over leaves the list of its requester
abbrev pub unfinished_changed : Configuration → JobsChange → List (List JobId) → List (List JobId)
unfinished_changed c JobsChange.Same lists = lists
unfinished_changed c (JobsChange.Put j kept) lists =
    if is_over kept.phase
    then option_map_or (λ row. change_at row.requester.0 (without_id same_job j) lists) (slice_get c.jobs j.0) lists
    else lists
unfinished_changed c (JobsChange.EndNode j n) lists = lists

-- ## the owners of nodes

-- a new node has a place at the end, and no owner
abbrev pub owners_grown : Growth → List (Option JobId) → List (Option JobId)
owners_grown (Growth.Node kept) owners = owners ++ None ∷ []
owners_grown growth owners = owners

-- its place leaves the end again
abbrev pub owners_taken_back : Growth → List (Option JobId) → List (Option JobId)
owners_taken_back (Growth.Node kept) owners = take (length owners - 1) owners
owners_taken_back growth owners = owners

-- at the place of each of the nodes is the job
abbrev pub owners_with : JobId → List Marked → List (Option JobId) → List (Option JobId)
owners_with j [] owners = owners
owners_with j (m ∷ nodes) owners = owners_with j nodes (slice_set owners m.node.0 (Some j))

-- a job that is using its nodes is their owner: only by taking them over does a job get nodes
abbrev pub owners_changed : JobsChange → List (Option JobId) → List (Option JobId)
owners_changed JobsChange.Same owners = owners
owners_changed (JobsChange.Put j kept) owners = if is_using kept.phase then owners_with j kept.nodes owners else owners
owners_changed (JobsChange.EndNode j n) owners = owners

-- ## all parts

-- with what grows; a new node has this number
abbrev pub lookups_grown : Changes → ℕ → LookupsOf → LookupsOf
lookups_grown ch next l = record l {
  requests = lists_joined is_id_before same_request (joins_request ch.maker ch.grows) l.requests;
  nodes = lists_joined is_node_before same_node (joins_node ch.maker ch.grows next) l.nodes;
  owners = owners_grown ch.grows l.owners;
}

-- without what grew: the row that the one list got, if it was added, and the place of a new node
abbrev pub lookups_taken_back : Changes → ℕ → Bool → LookupsOf → LookupsOf
lookups_taken_back ch next added l = record l {
  requests = lists_taken_back same_request (joins_request ch.maker ch.grows) added l.requests;
  nodes = lists_taken_back same_node (joins_node ch.maker ch.grows next) added l.nodes;
  owners = owners_taken_back ch.grows l.owners;
}

-- with the rest of the changes: a request that goes has this holder, and a node that goes this queue
abbrev pub lookups_settled : Configuration → Changes → Option SessionId → List SessionId → LookupsOf → LookupsOf
lookups_settled c ch holder queue l = record {
  unfinished = unfinished_changed c ch.jobs l.unfinished;
  requests = lists_ended (ending ch.sessions) (lists_left same_request (leaves_request ch.maker ch.requests holder) l.requests);
  nodes = lists_ended (ending ch.sessions) (lists_removed same_node (removed_node ch.nodes) queue (lists_left same_node (leaves_node ch.maker ch.nodes) l.nodes));
  owners = owners_changed ch.jobs l.owners;
}

-- what is prepared before a state changes, and what is made of it

-- what was read of the state, and whether a list got a row (own)
pub record PreparedOf : Type 0 where
  -- the number of a new node
  pub next : ℕ
  pub added : Bool
  -- of a request that goes
  pub holder : Option SessionId
  -- of a node that goes
  pub queue : List SessionId

-- without what grew
abbrev pub lookups_unmade : Changes → PreparedOf → LookupsOf → LookupsOf
lookups_unmade ch p l = lookups_taken_back ch p.next p.added l

-- with the rest of the changes
abbrev pub lookups_made : Configuration → Changes → PreparedOf → LookupsOf → LookupsOf
lookups_made c ch p l = lookups_settled c ch p.holder p.queue l

-- without what grew these are the lookups of the state, and with the rest those of the state after
-- the changes
pub record IsPrepared (c : Configuration) (s : State) (ch : Changes) (l : LookupsOf) (p : PreparedOf) : Type 0 where
  pub unmade : AreLookupsOf c s (lookups_unmade ch p l)
  pub made : AreLookupsOf c (changed c ch s) (lookups_made c ch p l)
