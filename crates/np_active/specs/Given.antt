-- the groups of the nodes that were given to requesters, what changes do to them, and the jobs that may begin or acquire
use Rattle.std.specs.Prelude.{◌≡◌, ◌<◌, ◌⊎◌, ℕ, List, Bool, true, false, ◌&&◌, if◌then◌else◌, Option, Some, None, is_none, option_and_then, slice_get, [], ◌∷◌, map, nat_lt, ◌||◌, ◌≤◌, ◌*◌, suc, length, take}
use Rattle.np_active.specs.Lower.{Configuration, Group, JobId, Member, State, first_full, group_after, group_from, ids_in, is_job_before, may_begin, option_map_or, same_group, NodeId, NodeRecord, RequesterId, Rises, SessionId, given_to, has_member, is_among, is_member_before, is_node_before, node_in, node_queue, same_node, Changes, JobRecord, JobsChange, RequestEdit, RequestId, RequestsChange, list_any, request_in, touches_node, AllByRecursion, Placed}

-- the first of a requester's jobs that may begin, and the first that may acquire its handles, by the groups and
-- the handles of a state: the search through lines is for both

-- ## one job

-- the job is there, and none of its semaphores blocks it: none is full of which it has no handle
abbrev pub is_free : Configuration → State → JobId → Bool
is_free c s j = option_map_or (λ row. is_none (first_full c s j row)) (slice_get c.jobs j.0) false

-- the job is there, and asks for its nodes first or is free
abbrev pub may_begin_of : Configuration → State → JobId → Bool
may_begin_of c s j = option_map_or (may_begin c s j) (slice_get c.jobs j.0) false

-- ## lines, one after another

-- the group of this line, where `lines` is the group of one of the same requester's, for the same purpose
abbrev pub at_line : Group → ℕ → Group
at_line lines line = record { class = lines.class; first = lines.first; second = lines.second; third = line }

-- the line of the group, if it is one of these
abbrev pub line_if : Group → Option Group → Option ℕ
line_if lines found = option_and_then (λ g. if same_group (at_line lines g.third) g then Some g.third else None) found

-- the first line in which a job waits
abbrev pub first_line : Group → List (Member JobId) → Option ℕ
first_line lines members = line_if lines (group_from (at_line lines 0) members)

-- the first line after this one in which a job waits
abbrev pub line_after : Group → ℕ → List (Member JobId) → Option ℕ
line_after lines line members = line_if lines (group_after (at_line lines line) members)

-- the first job that waits in the line
abbrev pub first_of_line : Group → ℕ → List (Member JobId) → Option JobId
first_of_line lines line members = slice_get (ids_in (at_line lines line) members) 0

-- ## the earliest job of some lines

-- the job comes before the best so far
abbrev pub comes_first : Option JobId → JobId → Bool
comes_first None j = true
comes_first (Some best) j = is_job_before j best

-- the first job of a line, if it comes before the best so far and none of its semaphores blocks it, and
-- otherwise the best so far
abbrev pub earlier_job : Configuration → State → Option JobId → Option JobId → Option JobId
earlier_job c s best None = best
earlier_job c s best (Some first) = if comes_first best first && is_free c s first then Some first else best

-- the search is past the line, where this one is the next; if there is none, it is past all
abbrev pub IsPast : Option ℕ → ℕ → Type 0
IsPast None line = Unit {0}
IsPast (Some next) line = line < next

-- the best of these: the one that the search began with, if there is one, and of each line that it is past the
-- first job, if none of its semaphores blocks it
pub record IsBest (c : Configuration) (s : State) (members : List (Member JobId)) (lines : Group) (old : Option JobId) (next : Option ℕ) (best : Option JobId) : Type 0 where
  -- it is one of them
  pub one : (b : JobId) → best ≡ Some b → (old ≡ Some b) ⊎ ((line : ℕ) × (first_of_line lines line members ≡ Some b) × (is_free c s b ≡ true))
  -- a job that does not come before the old one does not come before it
  pub keeps : (i : JobId) → comes_first old i ≡ false → comes_first best i ≡ false
  -- nor does the first job of one of these lines
  pub leads : (line : ℕ) (i : JobId) → IsPast next line → first_of_line lines line members ≡ Some i → is_free c s i ≡ true → comes_first best i ≡ false

-- the groups of the nodes that were given to requesters, and what a state says of them

-- ## groups (own)

-- the nodes that were given to the requester
abbrev pub given_group : RequesterId → Group
given_group q = record { class = 0; first = q.0; second = 0; third = 0 }

-- those of them in whose queues the session is
abbrev pub locked_group : RequesterId → SessionId → Group
locked_group q session = record { class = 1; first = q.0; second = 0; third = session.0 }

-- the groups of a node that was given to the requester and that has this queue
abbrev pub given_groups : RequesterId → List SessionId → List (Option Group)
given_groups q queue = Some (given_group q) ∷ map (λ session. Some (locked_group q session)) queue

-- the groups of a node with this record and this queue: none if it was given to no requester
abbrev pub groups_by : Configuration → State → NodeRecord → List SessionId → List (Option Group)
groups_by c s k queue = option_map_or (λ q. given_groups q queue) (given_to c s k) []

-- ## what a state says

-- the groups of the node, if it is there
abbrev pub groups_of_node : Configuration → State → NodeId → List (Option Group)
groups_of_node c s n = option_map_or (λ k. groups_by c s k (node_queue n s.nodes)) (node_in n s.nodes) []

-- the members of a group are the nodes that are in it; no two nodes have one number
pub record AreGivenGroups (c : Configuration) (s : State) (members : List (Member NodeId)) : Type 0 where
  pub rises : Rises (is_member_before is_node_before) members
  pub each : (g : Group) (n : NodeId) → has_member same_node g n members ≡ is_among g (groups_of_node c s n)
  pub once : Rises (λ a b. nat_lt a.id.0 b.id.0) s.nodes

-- the members of all groups, how many more can be put without taking memory, and of how many groups the list
-- has room into which those of one node are written
pub record GivenOf : Type 0 where
  pub members : List (Member NodeId)
  pub room : ℕ
  pub list_room : ℕ

-- they say what the state says
abbrev pub AreGiven : Configuration → State → GivenOf → Type 0
AreGiven c s given = AreGivenGroups c s given.members

-- which nodes the changes of an event may give to a requester, take from one, or lock

-- the nodes of the request with this id
abbrev pub nodes_of_request : State → RequestId → List NodeId
nodes_of_request s r = option_map_or (λ k. k.nodes) (request_in r s.requests) []

-- the edit may change the state of the request
abbrev pub changes_state : RequestEdit → Bool
changes_state (RequestEdit.Serve p) = true
changes_state (RequestEdit.AddNode n) = false
changes_state (RequestEdit.Decline p why failed) = true
changes_state RequestEdit.Fulfil = true
changes_state RequestEdit.GiveBack = true
changes_state RequestEdit.Fail = true
changes_state (RequestEdit.Revise relative) = false

-- the nodes of the request whose state changes
abbrev pub nodes_by_state : RequestsChange → State → List NodeId
nodes_by_state RequestsChange.Same s = []
nodes_by_state (RequestsChange.Edit r change) s = if changes_state change then nodes_of_request s r else []
nodes_by_state (RequestsChange.Remove r) s = []
nodes_by_state (RequestsChange.Leave r) s = []

-- the nodes of the request of a job with this record
abbrev pub nodes_of_job : State → JobRecord → List NodeId
nodes_of_job s kept = option_map_or (nodes_of_request s) kept.request []

-- the nodes of the request of the job whose record is put
abbrev pub nodes_by_job : JobsChange → State → List NodeId
nodes_by_job JobsChange.Same s = []
nodes_by_job (JobsChange.Put j kept) s = option_map_or (nodes_of_job s) (slice_get s.jobs j.0) []
nodes_by_job (JobsChange.EndNode j n) s = []

-- the changes may give the node to a requester, take it from one, or lock it
abbrev pub touches_given : Changes → State → NodeId → Bool
touches_given ch s n =
    touches_node ch s n || (list_any (λ m. same_node m n) (nodes_by_state ch.requests s) || list_any (λ m. same_node m n) (nodes_by_job ch.jobs s))

-- what is prepared for the changes of an event

-- the node with the groups that it is in
abbrev pub placed_node : Configuration → State → NodeId → Placed NodeId
placed_node c s n = record { id = n; groups = groups_of_node c s n }

-- the nodes to move with the groups that they are in before the changes, and how many sessions may be in the
-- queue of one of them after the changes (own)
pub record PreparedOf : Type 0 where
  pub past : List (Placed NodeId)
  pub most : ℕ

-- all nodes that the changes touch are listed, with the groups that they are in in the state; a queue grows by
-- one session at most
pub record IsPrepared (c : Configuration) (s : State) (ch : Changes) (prepared : PreparedOf) : Type 0 where
  pub listed : List NodeId
  pub nodes : (n : NodeId) → touches_given ch s n ≡ true → list_any (λ m. same_node m n) listed ≡ true
  pub past : prepared.past ≡ map (placed_node c s) listed
  pub most : AllByRecursion (λ n. suc (length (node_queue n s.nodes)) ≤ prepared.most) listed

-- there is room for each node in the group of its requester and in one for each session in its queue, and for
-- the list of these
pub record HasRoom (prepared : PreparedOf) (given : GivenOf) : Type 0 where
  pub nodes : length prepared.past * suc prepared.most ≤ given.room
  pub list : suc prepared.most ≤ given.list_room

-- the groups of a node, of whose queue only the first sessions are read

-- the groups of these sessions in a node's queue
abbrev pub locked_groups : RequesterId → List SessionId → List (Option Group)
locked_groups q queue = map (λ session. Some (locked_group q session)) queue

-- the groups of the node, if it is there and of its queue so many sessions are read at most
abbrev pub groups_within : Configuration → State → ℕ → NodeId → List (Option Group)
groups_within c s most n = option_map_or (λ k. groups_by c s k (take most (node_queue n s.nodes))) (node_in n s.nodes) []
