-- which lists of facts explain why a job waits, and which things a fact names
use Rattle.std.specs.Prelude.{◌==◌, ◌&&◌, ◌||◌, Bool, false, List, [], ◌∷◌, ◌++◌, if◌then◌else◌, Option, Some, None, length, map, option_and_then, slice_get, ◌≡◌, ◌⊎◌, ℕ, not, All}
use Rattle.np_causes.specs.Fact.{pool_of, about_of, IsTrueOf}
use Rattle.np_causes.specs.declared.fact.Thing.{Thing}
use Rattle.np_causes.specs.declared.fact.Fact.{Fact}
use Rattle.np_causes.specs.Lower.{Configuration, Janitor, JobId, Launcher, NodeEntry, NodeId, Phase, PoolId, RequestEntry, RequestId, Requester, Role, SessionId, State, TenantId, handles_of, is_held_near, is_pending_of, is_served_near, is_tenant, is_under_way_by, option_map, option_map_or, range_with_len, request_in, request_of_job, same_role, session_of, EachAfter, is_over}

-- which things a fact names

abbrev pub job_of : RequestId → State → Option JobId
job_of r s = option_and_then (λ request. request.job) (request_in r s.requests)

abbrev pub nodes_in : RequestId → State → List NodeId
nodes_in r s = option_map_or (λ request. request.nodes) (request_in r s.requests) []

abbrev pub a_node : NodeId → Option Thing
a_node n = Some (Thing.Node n)

-- the semaphores of a job that takes them before it asks for its nodes (Zuul: resources-first)
abbrev pub supply_of : Configuration → JobId → Option Thing
supply_of c j = option_and_then (λ job. if job.resources_first then None else Some (Thing.Supply j)) (slice_get c.jobs j.0)

-- what each pool of the configuration makes of the request
abbrev pub offers_for : Configuration → RequestId → List (Option Thing)
offers_for c r = map (λ k. Some (Thing.Offer r (record { 0 = k }))) (range_with_len 0 (length c.pools))

-- a request that the pool serves and that lacks a node
abbrev pub if_under_way : PoolId → RequestEntry → Option Thing
if_under_way p e = if is_under_way_by p e.kept then Some (Thing.Request e.id) else None

-- a request on which the launchers of the pool's provider work
abbrev pub is_near : Configuration → State → PoolId → RequestEntry → Bool
is_near c s p e = is_served_near c p e || is_held_near c s p e

abbrev pub if_near : Configuration → State → PoolId → RequestEntry → Option Thing
if_near c s p e = if is_near c s p e then Some (Thing.Request e.id) else None

abbrev pub if_of_pool : PoolId → NodeEntry → Option Thing
if_of_pool p e = if e.kept.pool.0 == p.0 then Some (Thing.Node e.id) else None

abbrev pub if_of_tenant : TenantId → NodeEntry → Option Thing
if_of_tenant t e = if is_tenant t e.kept.tenant then Some (Thing.Node e.id) else None

-- a pending request of a job of the tenant
abbrev pub if_pending_of : Configuration → TenantId → RequestEntry → Option Thing
if_pending_of c t e = if is_pending_of c t e then Some (Thing.Request e.id) else None

-- what the tenant's count is made of: its nodes, and what its pending requests still wait for
abbrev pub parts_of : Configuration → State → TenantId → List (Option Thing)
parts_of c s t = map (if_of_tenant t) s.nodes ++ map (if_pending_of c t) s.requests

-- a live session of the role
abbrev pub if_live : Role → State → SessionId → Option Thing
if_live role s session = if option_map_or (λ f. f.live && same_role f.role role) (session_of session s) false then Some (Thing.Session session) else None

abbrev pub sessions_for : Role → State → List (Option Thing)
sessions_for role s = map (λ k. if_live role s (record { 0 = k })) (range_with_len 1 (length s.sessions))

-- a job in this phase: nobody has asked for its nodes yet, its request is under way, or it uses them
abbrev pub named_in : Configuration → State → JobId → Phase → List (Option Thing)
named_in c s j Phase.New = Some (Thing.Turn j) ∷ Some (Thing.Window j) ∷ supply_of c j ∷ []
named_in c s j Phase.Asked = option_map Thing.Request (request_of_job j s) ∷ []
named_in c s j Phase.Using = Some (Thing.Turn j) ∷ []
named_in c s j Phase.Over = []

-- what the fact names, place by place; a place may name nothing
abbrev pub named_by : Configuration → State → Fact → List (Option Thing)
named_by c s (Fact.InPhase j phase) = named_in c s j phase
named_by c s (Fact.OfRequester j q) = Some (Thing.Role (Requester q)) ∷ []
named_by c s (Fact.Full j x) = Some (Thing.Semaphore x) ∷ []
named_by c s (Fact.Handles x count) = map (λ j. Some (Thing.Handle x j)) (handles_of x s.handles)
named_by c s (Fact.HasHandle x j) = Some (Thing.Job j) ∷ []
named_by c s (Fact.Open r) = offers_for c r
named_by c s (Fact.TakenUp r session) = Some (Thing.Session session) ∷ []
named_by c s (Fact.Served r session) = Some (Thing.Session session) ∷ Some (Thing.Next r) ∷ map a_node (nodes_in r s)
named_by c s (Fact.Abandoned r) = option_map (λ p. Thing.Role (Janitor p)) (pool_of r s) ∷ []
named_by c s (Fact.Fulfilled r) = option_map Thing.Turn (job_of r s) ∷ option_map Thing.Supply (job_of r s) ∷ map a_node (nodes_in r s)
named_by c s (Fact.Failed r) = option_map Thing.Turn (job_of r s) ∷ []
named_by c s (Fact.Blocked r p t) = Some (Thing.Tenant t) ∷ []
named_by c s (Fact.First r p) = Some (Thing.Pool p) ∷ []
named_by c s (Fact.Behind r p first) = Some (Thing.Pool p) ∷ Some (Thing.Request first) ∷ []
named_by c s (Fact.NoRoom r p l) = Some (Thing.Room p) ∷ []
named_by c s (Fact.Registered p session) = Some (Thing.Session session) ∷ Some (Thing.Work p) ∷ Some (Thing.Concurrency p) ∷ []
named_by c s (Fact.Unregistered p) = Some (Thing.Role (Launcher p)) ∷ []
named_by c s (Fact.Busy p) = map (if_under_way p) s.requests
named_by c s (Fact.NoTurn p most) = map (if_near c s p) s.requests
named_by c s (Fact.PoolUses p used) = map (if_of_pool p) s.nodes
named_by c s (Fact.TenantUses t used) = parts_of c s t
named_by c s (Fact.Stands n state attempts) = Some (Thing.Lock n) ∷ Some (Thing.Owner n) ∷ []
named_by c s (Fact.Held n session) = Some (Thing.Session session) ∷ []
named_by c s (Fact.Owned n j) = Some (Thing.Job j) ∷ []
named_by c s (Fact.Allocated n r) = Some (Thing.Request r) ∷ []
named_by c s (Fact.Stopped role) = sessions_for role s
named_by c s (Fact.MayOpen role) = sessions_for role s
named_by c s _ = []

-- which lists of facts explain why a job waits

-- the job is there, and not over
abbrev pub waits : State → JobId → Bool
waits s j = option_map_or (λ kept. not (is_over kept.phase)) (slice_get s.jobs j.0) false

-- one of the facts is about the thing
pub record IsTold (facts : List Fact) (it : Thing) : Type 0 where
  pub at : ℕ
  pub fact : Fact
  pub stands : slice_get facts at ≡ Some fact
  pub about : about_of fact ≡ it

-- one of the facts names the thing
pub record IsNamed (c : Configuration) (s : State) (facts : List Fact) (it : Thing) : Type 0 where
  pub at : ℕ
  pub fact : Fact
  pub stands : slice_get facts at ≡ Some fact
  pub place : ℕ
  pub names : slice_get (named_by c s fact) place ≡ Some (Some it)

-- the fact is about the job, or about a thing that one of the facts before it names
abbrev pub Follows : Configuration → State → JobId → List Fact → Fact → Type 0
Follows c s j earlier f = (about_of f ≡ Thing.Job j) ⊎ IsNamed c s earlier (about_of f)

-- each fact is true, and follows from the job
pub record IsSound (c : Configuration) (s : State) (j : JobId) (facts : List Fact) : Type 0 where
  pub true : All (IsTrueOf c s) facts
  pub follow : EachAfter (Follows c s j) [] facts

-- and one of them is about the job, and one about each thing that one of them names
pub record Explains (c : Configuration) (s : State) (j : JobId) (facts : List Fact) : Type 0 where
  pub sound : IsSound c s j facts
  pub begun : IsTold facts (Thing.Job j)
  pub each : (it : Thing) → IsNamed c s facts it → IsTold facts it

-- ## while a list grows

-- each fact stays at its place
abbrev pub Grows : List Fact → List Fact → Type 0
Grows before later = (at : ℕ) (f : Fact) → slice_get before at ≡ Some f → slice_get later at ≡ Some f

-- the thing at a place, if there is one, is named, and is told
abbrev pub IfNamed : Configuration → State → List Fact → Option Thing → Type 0
IfNamed c s facts None = Unit {0}
IfNamed c s facts (Some it) = IsNamed c s facts it

abbrev pub IfTold : List Fact → Option Thing → Type 0
IfTold facts None = Unit {0}
IfTold facts (Some it) = IsTold facts it

-- each thing that the fact names is told
abbrev pub NamesTold : Configuration → State → List Fact → Fact → Type 0
NamesTold c s facts f = (place : ℕ) (it : Thing) → slice_get (named_by c s f) place ≡ Some (Some it) → IsTold facts it
