-- how a thing is called, and the line of a fact
use Rattle.std.specs.Prelude.{ℕ, List, [], ◌++◌, codes, decimal, Option, Some, None, slice_get, Bool, true, false}
use Rattle.np_explain_lines.specs.Lower.{Configuration, Janitor, Job, JobId, LabelId, Launcher, NodeId, Pool, PoolId, Reaper, RequestId, Requester, RequesterId, Role, SemId, SessionId, TenantId, option_map, option_map_or, ten_digits_of, tenant_of, Amount, Fact, Limit, NodeState, Phase, Reason, Thing, about_of, limit_of, limit_of_tenant}

-- how a thing is called: its id, and beside it the name that the configuration gives it

-- an id alone, if nothing has it, and otherwise with a name
abbrev pub with_name : List ℕ → Option (List ℕ) → List ℕ
with_name id None = id
with_name id (Some name) = id ++ codes " " ++ name

-- the names of a provider and of a pool, and of a requester and of a job
abbrev pub pool_name : Configuration → Pool → List ℕ
pool_name c pool = option_map_or (λ provider. provider.name) (slice_get c.providers pool.provider) [] ++ codes "/" ++ pool.name

abbrev pub job_name : Configuration → Job → List ℕ
job_name c job = option_map_or (λ q. q.name) (slice_get c.requesters job.requester.0) [] ++ codes "/" ++ job.name

abbrev pub job_words : Configuration → JobId → List ℕ
job_words c j = with_name (codes "j" ++ decimal j.0) (option_map (job_name c) (slice_get c.jobs j.0))

abbrev pub pool_words : Configuration → PoolId → List ℕ
pool_words c p = with_name (codes "p" ++ decimal p.0) (option_map (pool_name c) (slice_get c.pools p.0))

abbrev pub label_words : Configuration → LabelId → List ℕ
label_words c l = with_name (codes "l" ++ decimal l.0) (option_map (λ label. label.name) (slice_get c.labels l.0))

abbrev pub semaphore_words : Configuration → SemId → List ℕ
semaphore_words c x = with_name (codes "x" ++ decimal x.0) (option_map (λ sem. sem.name) (slice_get c.semaphores x.0))

abbrev pub tenant_words : Configuration → TenantId → List ℕ
tenant_words c t = with_name (codes "t" ++ decimal t.0) (option_map (λ tenant. tenant.name) (tenant_of c t))

abbrev pub requester_words : Configuration → RequesterId → List ℕ
requester_words c q = with_name (codes "q" ++ decimal q.0) (option_map (λ requester. requester.name) (slice_get c.requesters q.0))

abbrev pub node_words : NodeId → List ℕ
node_words n = codes "n" ++ decimal n.0

abbrev pub session_words : SessionId → List ℕ
session_words s = codes "s" ++ decimal s.0

-- a request has no name: its priority and its sequence number
abbrev pub request_words : RequestId → List ℕ
request_words r = codes "request " ++ decimal r.priority ++ codes "-" ++ ten_digits_of r.seq

abbrev pub role_words : Configuration → Role → List ℕ
role_words c (Launcher p) = codes "launcher of " ++ pool_words c p
role_words c (Janitor p) = codes "janitor of " ++ pool_words c p
role_words c (Requester q) = codes "requester " ++ requester_words c q
role_words c Reaper = codes "reaper"

-- the line of a fact

-- ## what the fact is about

abbrev pub subject : Configuration → Thing → List ℕ
subject c (Thing.Job j) = job_words c j
subject c (Thing.Turn j) = job_words c j
subject c (Thing.Window j) = job_words c j
subject c (Thing.Supply j) = job_words c j
subject c (Thing.Semaphore x) = semaphore_words c x
subject c (Thing.Handle x j) = semaphore_words c x
subject c (Thing.Request r) = request_words r
subject c (Thing.Offer r p) = request_words r ++ codes " at " ++ pool_words c p
subject c (Thing.Next r) = request_words r
subject c (Thing.Pool p) = pool_words c p
subject c (Thing.Work p) = pool_words c p
subject c (Thing.Concurrency p) = pool_words c p
subject c (Thing.Room p) = pool_words c p
subject c (Thing.Tenant t) = tenant_words c t
subject c (Thing.Node n) = node_words n
subject c (Thing.Lock n) = node_words n
subject c (Thing.Owner n) = node_words n
subject c (Thing.Session s) = session_words s
subject c (Thing.Role role) = role_words c role

-- ## parts of what it says

abbrev pub phase_said : Phase → List ℕ
phase_said Phase.New = codes "nobody has asked for its nodes yet"
phase_said Phase.Asked = codes "waits for the nodes of its request"
phase_said Phase.Using = codes "has its nodes, and has not ended"
phase_said Phase.Over = codes "is over"

-- so many, and how many there may be, if there is a limit
abbrev pub of_limit : ℕ → Option ℕ → List ℕ
of_limit n None = decimal n
of_limit n (Some most) = decimal n ++ codes " of " ++ decimal most

-- and what there are so many of
abbrev pub part_words : ℕ → Option ℕ → List ℕ → List ℕ
part_words n limit word = of_limit n limit ++ word

abbrev pub amount_words : Amount → Limit → List ℕ
amount_words used limit = part_words used.instances limit.instances (codes " servers, ") ++ part_words used.cores limit.cores (codes " cores, ") ++ part_words used.ram limit.ram (codes " MiB of ram")

abbrev pub reason_words : Configuration → Reason → List ℕ
reason_words c (Reason.NoLabel l) = codes "it does not offer " ++ label_words c l
reason_words c Reason.NeverFits = codes "the labels together exceed a limit of the pool"
reason_words c Reason.TenantNeverFits = codes "the labels together exceed a limit of the job's tenant"
reason_words c (Reason.Spent n) = codes "the last launch of " ++ node_words n ++ codes " that it may try failed"

abbrev pub most_handles : Configuration → SemId → Option ℕ
most_handles c x = option_map (λ sem. sem.max) (slice_get c.semaphores x.0)

abbrev pub node_said : NodeState → List ℕ
node_said NodeState.Building = codes "is building"
node_said NodeState.Ready = codes "is ready"
node_said NodeState.InUse = codes "is in use"
node_said NodeState.Used = codes "is used"
node_said NodeState.Hold = codes "is on hold"
node_said NodeState.Deleting = codes "is deleting"
node_said NodeState.Failed = codes "is failed"

-- whether the session has expired, and whether its party has stopped
abbrev pub session_said : Bool → Bool → List ℕ
session_said true false = codes ", and is live"
session_said true true = codes ", crashed, and has not expired yet"
session_said false mute = codes ", and has expired"

-- the label of the next node
abbrev pub next_words : Configuration → LabelId → List ℕ
next_words c l = codes " for its next node, of label " ++ label_words c l

-- as many as there may be
abbrev pub most_words : ℕ → List ℕ
most_words most = codes "as many requests as they may, " ++ decimal most

-- ## what it says

abbrev pub said : Configuration → Fact → List ℕ
said c (Fact.InPhase j phase) = phase_said phase
said c (Fact.OfRequester j q) = codes "goes on by requester " ++ requester_words c q
said c (Fact.InWindow j) = codes "is in its requester's window"
said c (Fact.PastWindow j last) = codes "is past its requester's window, whose last job is " ++ job_words c last
said c (Fact.Supplied j) = codes "lacks no semaphore that is full"
said c (Fact.Full j x) = codes "lacks semaphore " ++ semaphore_words c x ++ codes ", which is full"
said c (Fact.Handles x count) = part_words count (most_handles c x) (codes " handles are taken")
said c (Fact.HasHandle x j) = job_words c j ++ codes " has a handle"
said c (Fact.Open r) = codes "nobody has taken it up"
said c (Fact.TakenUp r s) = session_words s ++ codes " has taken it up, and no pool has accepted it"
said c (Fact.Served r s) = codes "a pool serves it, by " ++ session_words s
said c (Fact.Abandoned r) = codes "a pool serves it, and nobody holds it"
said c (Fact.Fulfilled r) = codes "is fulfilled"
said c (Fact.Failed r) = codes "failed"
said c (Fact.Declined r p why) = codes "the pool declined: " ++ reason_words c why
said c (Fact.Blocked r p t) = codes "tenant " ++ tenant_words c t ++ codes " has no room for it now"
said c (Fact.First r p) = codes "it is the first that the pool may take up"
said c (Fact.Behind r p first) = request_words first ++ codes " comes first"
said c (Fact.Closed r p) = codes "the pool may take up no request now"
said c (Fact.Complete r) = codes "has a node for each of its labels"
said c (Fact.NoRoom r p l) = codes "no room in " ++ pool_words c p ++ next_words c l
said c (Fact.Lacks r l) = codes "has no node of label " ++ label_words c l ++ codes " yet"
said c (Fact.Registered p s) = session_words s ++ codes " is registered for it"
said c (Fact.Unregistered p) = codes "no session is registered for it"
said c (Fact.Busy p) = codes "serves a request that lacks a node"
said c (Fact.Idle p) = codes "serves no request that lacks a node"
said c (Fact.HasTurn p) = codes "its provider's launchers may take up one more request"
said c (Fact.NoTurn p most) = codes "its provider's launchers work on " ++ most_words most
said c (Fact.PoolUses p used) = codes "its nodes take " ++ amount_words used (limit_of c p)
said c (Fact.TenantUses t used) = codes "its nodes and pending requests take " ++ amount_words used (limit_of_tenant c t)
said c (Fact.Stands n state attempts) = node_said state ++ codes ", launched " ++ decimal attempts ++ codes " times"
said c (Fact.Held n s) = session_words s ++ codes " holds it"
said c (Fact.Unheld n) = codes "nobody holds it"
said c (Fact.Owned n j) = job_words c j ++ codes " has it"
said c (Fact.Allocated n r) = codes "is allocated to " ++ request_words r
said c (Fact.Free n) = codes "is allocated to no request, and no job has it"
said c (Fact.Known s facts) = codes "is of " ++ role_words c facts.role ++ session_said facts.live facts.mute
said c (Fact.Current role s) = codes "acts by " ++ session_words s
said c (Fact.Stopped role) = codes "has stopped for good"
said c (Fact.MayOpen role) = codes "has no session, and may open one"
said c (Fact.Missing it) = codes "is not there"

-- the line, without its newline: what the fact is about, and what it says
unfoldable pub line_of : Configuration → Fact → List ℕ
line_of c f = subject c (about_of f) ++ codes ": " ++ said c f
