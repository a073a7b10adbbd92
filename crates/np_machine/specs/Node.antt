-- the rows on nodes
use Rattle.std.specs.Prelude.{ℕ, ◌+◌, List, [], ◌∷◌, ◌++◌, Bool, true, false, ◌==◌, ◌&&◌, ◌||◌, not, if◌then◌else◌, Option, Some, None, is_some, is_none, Ok, Err, map, slice_get, nat_lt}
use Rattle.std.specs.Option.{option_map, option_map_or}
use Rattle.std.specs.List.{list_any}
use Rattle.np_machine.specs.Entries.{NodeEntry}
use Rattle.np_machine.specs.declared.state.Swept.{Swept}
use Rattle.np_machine.specs.Kinds.{is_building, is_ready, is_in_use, is_deleting}
use Rattle.np_machine.specs.Tables.{freed, is_queued, ahead_of, joined, left, request_in, put_request, node_in, node_queue, node_holder, put_node, put_node_queue, remove_node, is_marked}
use Rattle.np_machine.specs.Count.{retries_of, count_of, is_short}
use Rattle.np_machine.specs.Tenants.{tenant_of_request}
use Rattle.np_machine.specs.Reasons.{next_label, ready_age, due_tick, is_old_ready, is_old_hold, is_paused}
use Rattle.np_machine.specs.Tests.{Answer, Check, maker, launcher, janitor, requester, request_at, node_at, by_registrant, by_request_holder, by_node_holder, of_pool, wrong_node, in_pending_by, incomplete, quota_short, after_found, after_given}
use Rattle.np_lists.specs.Refusals.{◌>>=◌, ◌>>◌}
use Rattle.np_machine.specs.State.{State}
use Rattle.np_machine.specs.Lower.{Configuration, Done, EndAs, Job, JobRecord, LabelId, Marked, NodeId, NodeRecord, NodeState, Outcome, PoolId, Refusal, RequestId, RequestRecord, RequesterId, RoleRecord, SessionId, TenantId, change_at, change_first, insert_before, need, vacant}

-- ## take-ready: the launcher gives a ready node to the request (Nodepool: ready nodes are used first)
abbrev pub judge_take_ready : State → SessionId → RequestId → NodeId → Answer
judge_take_ready s session r n = do
  p ← launcher s session
  request ← request_at s r
  k ← node_at s n
  by_registrant s p session
  by_request_holder s r session
  in_pending_by p request
  need (is_none request.pinned) Refusal.NotOwner
  l ← incomplete request
  need (is_ready k.state) (wrong_node k)
  vacant k.allocated_to Refusal.Allocated
  need ((k.pool.0 == p.0) && (k.label.0 == l.0)) (Refusal.NoLabel l)
  vacant (node_holder n s.nodes) Refusal.Busy
  Ok Done.Held

-- the node joins the request's list
abbrev pub with_node : RequestRecord → NodeId → RequestRecord
with_node request n = record request { nodes = request.nodes ++ n ∷ [] }

-- allocated to the request, for the tenant of its job, and the session joins its queue
abbrev pub allocated : RequestId → Option TenantId → SessionId → NodeEntry → NodeEntry
allocated r tenant session e = record e { kept = record e.kept { allocated_to = Some r; tenant = tenant }; queue = joined session e.queue }

abbrev pub took_ready : Configuration → State → SessionId → RequestId → NodeId → RequestRecord → State
took_ready c s session r n request = record s {
  requests = put_request r (with_node request n) s.requests;
  nodes = change_first (λ e. e.id.0 == n.0) (allocated r (tenant_of_request c request) session) s.nodes;
}

abbrev pub effect_take_ready : Configuration → State → SessionId → RequestId → NodeId → State
effect_take_ready c s session r n = after_found (request_in r s.requests) s (took_ready c s session r n)

-- ## create: the launcher makes a node for the request's next label (Nodepool)
abbrev pub judge_create : Configuration → State → SessionId → RequestId → Answer
judge_create c s session r = do
  p ← launcher s session
  request ← request_at s r
  by_registrant s p session
  by_request_holder s r session
  in_pending_by p request
  l ← incomplete request
  need (not (is_short c s p l)) (quota_short (count_of c s p))
  Ok (Done.Node (record { 0 = s.next_node }))

-- a node that nobody has launched yet, for the tenant of the request's job
abbrev pub made : Configuration → State → SessionId → RequestId → PoolId → RequestRecord → LabelId → NodeEntry
made c s session r p request l = record {
  id = record { 0 = s.next_node };
  kept = record {
    allocated_to = Some r;
    attempts = 0;
    in_flight = false;
    label = l;
    pool = p;
    server = None;
    since = s.tick;
    start = 0;
    state = NodeState.Building;
    tenant = tenant_of_request c request;
  };
  queue = session ∷ [];
}

abbrev pub created : Configuration → State → SessionId → RequestId → PoolId → RequestRecord → LabelId → State
created c s session r p request l = record s {
  requests = put_request r (with_node request (record { 0 = s.next_node })) s.requests;
  nodes = s.nodes ++ made c s session r p request l ∷ [];
  next_node = s.next_node + 1;
}

abbrev pub create_for : Configuration → State → SessionId → RequestId → PoolId → RequestRecord → State
create_for c s session r p request = after_found (next_label request) s (created c s session r p request)

abbrev pub create_by : Configuration → State → SessionId → RequestId → PoolId → State
create_by c s session r p = after_found (request_in r s.requests) s (create_for c s session r p)

abbrev pub effect_create : Configuration → State → SessionId → RequestId → State
effect_create c s session r = after_given (launcher s session) s (create_by c s session r)

-- ## start: the launcher begins an attempt to launch the node (Nodepool)

-- how many launches the pool has started
abbrev pub starts_of : PoolId → State → ℕ
starts_of p s = option_map_or (λ role. role.starts) (slice_get s.launchers p.0) 0

abbrev pub judge_start : State → SessionId → NodeId → Answer
judge_start s session n = do
  p ← launcher s session
  k ← node_at s n
  of_pool p k
  by_node_holder s n session
  need (is_building k.state && not k.in_flight) (wrong_node k)
  Ok (Done.Started (k.attempts + 1) (starts_of p s + 1))

abbrev pub one_more_start : RoleRecord → RoleRecord
one_more_start role = record role { starts = role.starts + 1 }

abbrev pub started : State → NodeId → PoolId → NodeRecord → State
started s n p k = record s {
  nodes = put_node n (record k { attempts = k.attempts + 1; in_flight = true; start = starts_of p s + 1 }) s.nodes;
  launchers = change_at p.0 one_more_start s.launchers;
}

abbrev pub start_by : State → NodeId → PoolId → State
start_by s n p = after_found (node_in n s.nodes) s (started s n p)

abbrev pub effect_start : State → SessionId → NodeId → State
effect_start s session n = after_given (launcher s session) s (start_by s n)

-- ## done: the launcher says what became of the launch (Nodepool: launch-retries)
abbrev pub judge_done : State → SessionId → NodeId → ℕ → Answer
judge_done s session n attempt = do
  p ← launcher s session
  k ← node_at s n
  of_pool p k
  by_node_holder s n session
  need k.in_flight (wrong_node k)
  need (k.attempts == attempt) (Refusal.WrongAttempt k.attempts)
  Ok Done.Plain

-- ready if it was launched; failed if the last attempt failed
abbrev pub state_after_launch : ℕ → NodeRecord → Outcome → NodeState
state_after_launch retries k (Outcome.Launched x) = NodeState.Ready
state_after_launch retries k Outcome.Failed = if k.attempts == retries then NodeState.Failed else k.state

abbrev pub server_after_launch : NodeRecord → Outcome → Option ℕ
server_after_launch k (Outcome.Launched x) = Some x
server_after_launch k Outcome.Failed = k.server

-- a ready node's age counts from here
abbrev pub since_after_launch : ℕ → NodeRecord → Outcome → ℕ
since_after_launch tick k (Outcome.Launched x) = tick
since_after_launch tick k Outcome.Failed = k.since

abbrev pub launched : ℕ → ℕ → Outcome → NodeRecord → NodeRecord
launched retries tick o k = record k {
  in_flight = false;
  server = server_after_launch k o;
  since = since_after_launch tick k o;
  state = state_after_launch retries k o;
}

abbrev pub reported : Configuration → State → NodeId → Outcome → NodeRecord → State
reported c s n o k = record s { nodes = put_node n (launched (retries_of c k.pool) s.tick o k) s.nodes }

abbrev pub effect_done : Configuration → State → NodeId → Outcome → State
effect_done c s n o = after_found (node_in n s.nodes) s (reported c s n o)

-- ## lock-node: the maker joins the node's queue (ZooKeeper Recipes: locks)

-- first in the queue, or how many sessions are before it
abbrev pub place_reply : ℕ → Done
place_reply ahead = if ahead == 0 then Done.Held else Done.Queued ahead

abbrev pub judge_lock_node : State → SessionId → NodeId → Answer
judge_lock_node s session n = do
  _role ← maker s session
  _k ← node_at s n
  Ok (place_reply (ahead_of session (node_queue n s.nodes)))

abbrev pub effect_lock_node : State → SessionId → NodeId → State
effect_lock_node s session n = record s { nodes = put_node_queue n (joined session (node_queue n s.nodes)) s.nodes }

-- ## unlock-node: the maker leaves the node's queue
abbrev pub judge_unlock_node : State → SessionId → NodeId → Answer
judge_unlock_node s session n = do
  _role ← maker s session
  _k ← node_at s n
  need (is_queued session (node_queue n s.nodes)) Refusal.NotHeld
  Ok Done.Plain

abbrev pub effect_unlock_node : State → SessionId → NodeId → State
effect_unlock_node s session n = record s { nodes = put_node_queue n (left session (node_queue n s.nodes)) s.nodes }

-- ## end-node: the requester is done with a node of its job (Zuul: nodes are returned as used or held)

-- the configuration's row of the job that has the node
abbrev pub owner_from : NodeId → List JobRecord → List Job → Option Job
owner_from n (kept ∷ records) (job ∷ jobs) = if is_marked n kept then Some job else owner_from n records jobs
owner_from n _ _ = None

abbrev pub is_own : RequesterId → Option Job → Bool
is_own q None = false
is_own q (Some job) = job.requester.0 == q.0

abbrev pub judge_end_node : Configuration → State → SessionId → NodeId → Answer
judge_end_node c s session n = do
  q ← requester s session
  k ← node_at s n
  by_node_holder s n session
  need (is_in_use k.state) (wrong_node k)
  need (is_own q (owner_from n s.jobs c.jobs)) Refusal.NotOwner
  Ok Done.Plain

abbrev pub ended_as : EndAs → NodeState
ended_as EndAs.Used = NodeState.Used
ended_as EndAs.Hold = NodeState.Hold

abbrev pub marked : NodeId → Marked → Marked
marked n m = record m { ended = m.ended || (m.node.0 == n.0) }

-- marked ended in its job
abbrev pub with_mark : NodeId → JobRecord → JobRecord
with_mark n job = record job { nodes = map (marked n) job.nodes }

abbrev pub node_ended : State → NodeId → EndAs → NodeRecord → State
node_ended s n as_what k = record s {
  nodes = put_node n (record k { since = s.tick; state = ended_as as_what }) s.nodes;
  jobs = change_first (is_marked n) (with_mark n) s.jobs;
}

abbrev pub effect_end_node : State → NodeId → EndAs → State
effect_end_node s n as_what = after_found (node_in n s.nodes) s (node_ended s n as_what)

-- ## mark-deleting: the janitor gives a node up (Nodepool: cleanup)

-- a ready node goes if nobody has it and it is old or its pool is paused; a held one if it is old;
-- any other at once
abbrev pub may_delete : Configuration → State → NodeRecord → NodeState → Check
may_delete c s k NodeState.Ready = do
  vacant k.allocated_to Refusal.Allocated
  need (is_old_ready c s k || is_paused c s k.pool) (Refusal.NotDue (due_tick (ready_age c k.label) k.since))
may_delete c s k NodeState.Hold = need (is_old_hold c s k) (Refusal.NotDue (due_tick c.max_hold_age k.since))
may_delete c s k NodeState.Deleting = Err (wrong_node k)
may_delete c s k _ = Ok tt

abbrev pub judge_mark_deleting : Configuration → State → SessionId → NodeId → Answer
judge_mark_deleting c s session n = do
  _p ← janitor s session
  k ← node_at s n
  by_node_holder s n session
  may_delete c s k k.state
  Ok Done.Plain

abbrev pub given_up : State → NodeId → NodeRecord → State
given_up s n k = record s { nodes = put_node n (record k { in_flight = false; state = NodeState.Deleting }) s.nodes }

abbrev pub effect_mark_deleting : State → NodeId → State
effect_mark_deleting s n = after_found (node_in n s.nodes) s (given_up s n)

-- ## gone: the node's record is removed
abbrev pub judge_gone : State → SessionId → NodeId → Answer
judge_gone s session n = do
  _p ← janitor s session
  k ← node_at s n
  by_node_holder s n session
  need (is_deleting k.state) (wrong_node k)
  Ok Done.Plain

abbrev pub effect_gone : State → NodeId → State
effect_gone s n = record s { nodes = remove_node n s.nodes }

-- ## free-node: the janitor frees a ready node whose request is gone (own)

-- the request that the node is allocated to, if it is there
abbrev pub standing : State → Option RequestId → Option RequestId
standing s None = None
standing s (Some r) = option_map (λ _. r) (request_in r s.requests)

abbrev pub judge_free_node : State → SessionId → NodeId → Answer
judge_free_node s session n = do
  _p ← janitor s session
  k ← node_at s n
  by_node_holder s n session
  need (is_ready k.state && is_some k.allocated_to) (wrong_node k)
  vacant (standing s k.allocated_to) Refusal.Allocated
  Ok Done.Plain

abbrev pub node_freed : State → NodeId → NodeRecord → State
node_freed s n k = record s { nodes = put_node n (freed k) s.nodes }

abbrev pub effect_free_node : State → NodeId → State
effect_free_node s n = after_found (node_in n s.nodes) s (node_freed s n)

-- ## sweep: the janitor asks whether a server of its cloud is still wanted (Nodepool: cleanup of leaked instances)

abbrev pub is_server : ℕ → Option ℕ → Bool
is_server x None = false
is_server x (Some other) = other == x

-- the node is there, and building or has this server
abbrev pub is_wanted : State → NodeId → ℕ → Bool
is_wanted s n x = option_map_or (λ k. is_building k.state || is_server x k.server) (node_in n s.nodes) false

abbrev pub judge_sweep : State → SessionId → NodeId → ℕ → Answer
judge_sweep s session n x = do
  _p ← janitor s session
  Ok (if is_wanted s n x then Done.Keep else Done.Remove)

abbrev pub is_pair : NodeId → ℕ → Swept → Bool
is_pair n x pair = (pair.node.0 == n.0) && (pair.server == x)

abbrev pub is_swept : NodeId → ℕ → List Swept → Bool
is_swept n x swept = list_any (is_pair n x) swept

-- the pair comes after this one, by node and then server
abbrev pub is_pair_after : NodeId → ℕ → Swept → Bool
is_pair_after n x pair = if n.0 == pair.node.0 then nat_lt x pair.server else nat_lt n.0 pair.node.0

-- the pair joins, unless it is there
abbrev pub with_pair : NodeId → ℕ → List Swept → List Swept
with_pair n x swept = if is_swept n x swept then swept else insert_before (is_pair_after n x) (record { node = n; server = x }) swept

abbrev pub effect_sweep : State → NodeId → ℕ → State
effect_sweep s n x = record s { swept = if is_wanted s n x then s.swept else with_pair n x s.swept }
