-- what no step breaks
use Rattle.std.specs.Prelude.{◌≡◌, ◌≤◌, ℕ, true, false, ◌==◌, List, [], ◌∷◌, Some, IsTrue, length, slice_get}
use Rattle.std.specs.List.{list_any}
use Rattle.np_machine.specs.Kinds.{is_fulfilled, is_ready}
use Rattle.np_machine.specs.Tables.{request_in, is_request, node_in, handles_of, is_among}
use Rattle.np_machine.specs.Count.{count_of}
use Rattle.np_machine.specs.Tenants.{count_of_tenant}
use Rattle.np_machine.specs.LiveHolder.{IsLiveHolder, IsLiveRequestHolder}
use Rattle.np_machine.specs.History.{after}
use Rattle.np_machine.specs.State.{State}
use Rattle.np_machine.specs.Lower.{Configuration, Entry, JobId, LabelId, NodeId, NodeRecord, Pool, PoolId, RequestId, RequestRecord, Sem, SemId, SessionId, Tenant, TenantId, fits, tenant_of}

-- no node and no request has two live holders (ZooKeeper Recipes: a lock)
pub record OneHolder (c : Configuration) (journal : List Entry) : Type 0 where
  pub of_node : (n : NodeId) (a b : SessionId) → IsLiveHolder c journal a n → IsLiveHolder c journal b n → a.0 ≡ b.0
  pub of_request : (r : RequestId) (a b : SessionId) → IsLiveRequestHolder c journal a r → IsLiveRequestHolder c journal b r → a.0 ≡ b.0

-- what a pool uses is within each of its limits (Nodepool: quota)
abbrev pub WithinQuota : Configuration → State → Type 0
WithinQuota c s = (p : PoolId) (pool : Pool) → slice_get c.pools p.0 ≡ Some pool → IsTrue (fits (count_of c s p) pool.limit)

-- what a tenant uses is within each of its limits (own)
abbrev pub WithinTenantQuota : Configuration → State → Type 0
WithinTenantQuota c s = (t : TenantId) (tenant : Tenant) → tenant_of c t ≡ Some tenant → IsTrue (fits (count_of_tenant c s t) tenant.limit)

-- no job twice
abbrev pub NoRepeat : List JobId → Type 0
NoRepeat [] = Unit {0}
NoRepeat (j ∷ jobs) = (is_among j jobs ≡ false) × NoRepeat jobs

-- a semaphore has at most max handles, each of another job (Zuul: semaphores)
abbrev pub WithinMax : Configuration → State → Type 0
WithinMax c s = (x : SemId) (sem : Sem) → slice_get c.semaphores x.0 ≡ Some sem
    → NoRepeat (handles_of x s.handles) × (length (handles_of x s.handles) ≤ sem.max)

-- no node twice
abbrev pub DistinctNodes : List NodeId → Type 0
DistinctNodes [] = Unit {0}
DistinctNodes (n ∷ nodes) = (list_any (λ m. m.0 == n.0) nodes ≡ false) × DistinctNodes nodes

-- the node is there, ready, allocated to the request, of the pool and the label
pub record IsGiven (s : State) (r : RequestId) (p : PoolId) (n : NodeId) (l : LabelId) : Type 0 where
  pub node : NodeRecord
  pub stands : node_in n s.nodes ≡ Some node
  pub ready : is_ready node.state ≡ true
  pub allocated : is_request r node.allocated_to ≡ true
  pub of_pool : node.pool.0 ≡ p.0
  pub of_label : node.label.0 ≡ l.0

-- the request owns a node of its pool for each of its labels, in order
pub record OwnsItsLabels (s : State) (r : RequestId) (request : RequestRecord) : Type 0 where
  pub pool : PoolId
  pub served_by : request.pool ≡ Some pool
  pub as_many : length request.nodes ≡ length request.labels
  pub distinct : DistinctNodes request.nodes
  pub each : (at : ℕ) (n : NodeId) (l : LabelId) → slice_get request.nodes at ≡ Some n → slice_get request.labels at ≡ Some l → IsGiven s r pool n l

-- each fulfilled request does (Nodepool: a request is fulfilled all at once)
abbrev pub FulfilledOwn : State → Type 0
FulfilledOwn s = (r : RequestId) (request : RequestRecord) → request_in r s.requests ≡ Some request
    → is_fulfilled request.state ≡ true → OwnsItsLabels s r request

-- the journal and the state that it leads to are safe
pub record Safe (c : Configuration) (journal : List Entry) : Type 0 where
  pub one_holder : OneHolder c journal
  pub within_quota : WithinQuota c (after c journal)
  pub within_max : WithinMax c (after c journal)
  pub fulfilled_own : FulfilledOwn (after c journal)
  pub within_tenant_quota : WithinTenantQuota c (after c journal)
