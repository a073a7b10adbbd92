-- what worked journals are made of: ids, sites and lines
use Rattle.std.specs.Prelude.{◌≡◌, ℕ, List, [], ◌∷◌, ◌++◌, Some, None, false, codes}
use Rattle.np_worked.specs.Lower.{Configuration, Done, EndAs, Entry, Event, Fate, Janitor, Job, JobId, Label, LabelId, Launcher, Limit, NodeId, Offer, Outcome, Pool, PoolId, Provider, Refusal, Reply, RequestId, Requester, Role, Sem, SemId, SessionId, Tenant, TenantId, after, fates, no_limit, replayed, start}

-- the machine's replies are those of the journal, and the jobs end with these fates
pub record Plays (c : Configuration) (journal : List Entry) (ends : List Fate) : Type 0 where
  pub replies : replayed c (start c) journal ≡ journal
  pub fates : fates (after c journal) ≡ ends

-- a site, the events with their replies, and what becomes of each job
pub record Story : Type 0 where
  pub site : Configuration
  pub journal : List Entry
  pub ends : List Fate

-- a story on this site, with these fates of its jobs
abbrev pub story : Configuration → List Fate → List Entry → Story
story site ends journal = record { site = site; journal = journal; ends = ends }

-- ## ids

abbrev pub session : ℕ → SessionId
session k = record { 0 = k }

abbrev pub node : ℕ → NodeId
node k = record { 0 = k }

abbrev pub job : ℕ → JobId
job k = record { 0 = k }

abbrev pub label : ℕ → LabelId
label k = record { 0 = k }

abbrev pub semaphore : ℕ → SemId
semaphore k = record { 0 = k }

abbrev pub pool : ℕ → PoolId
pool k = record { 0 = k }

abbrev pub tenant : ℕ → TenantId
tenant k = record { 0 = k }

abbrev pub request : ℕ → ℕ → RequestId
request priority seq = record { priority = priority; seq = seq }

abbrev pub launcher : ℕ → Role
launcher p = Launcher (record { 0 = p })

abbrev pub janitor : ℕ → Role
janitor p = Janitor (record { 0 = p })

abbrev pub requester : ℕ → Role
requester q = Requester (record { 0 = q })

-- ## sites, with the configuration's defaults

-- at most this many servers
abbrev pub at_most : ℕ → Limit
at_most servers = record { instances = Some servers; cores = None; ram = None }

abbrev pub offer : ℕ → Offer
offer l = record { label = label l; amount = record { instances = 1; cores = 1; ram = 1024 } }

abbrev pub a_label : List ℕ → Label
a_label name = record { name = name; min_ready = 0; max_ready_age = 0 }

abbrev pub a_provider : List ℕ → Provider
a_provider name = record { name = name; retries = 3; concurrency = None }

-- a pool of the provider that offers these labels
abbrev pub a_pool : ℕ → List ℕ → List Offer → Pool
a_pool provider name offers = record { provider = provider; name = name; limit = no_limit; offers = offers; fail_starts = [] }

abbrev pub a_semaphore : List ℕ → Sem
a_semaphore name = record { name = name; max = 1 }

abbrev pub a_tenant : List ℕ → Limit → Tenant
a_tenant name limit = record { name = name; limit = limit }

-- a job of the first requester and the default tenant that asks for these labels
abbrev pub a_job : List ℕ → List LabelId → Job
a_job name labels = record {
  requester = record { 0 = 0 };
  name = name;
  labels = labels;
  priority = 200;
  relative_priority = 0;
  semaphores = [];
  resources_first = false;
  end = EndAs.Used;
  tenant = tenant 0;
}

-- one pool that offers one label, and one requester with these jobs
abbrev pub one_pool : List Job → Configuration
one_pool jobs = record {
  labels = a_label (codes "a") ∷ [];
  providers = a_provider (codes "c") ∷ [];
  pools = a_pool 0 (codes "m") (offer 0 ∷ []) ∷ [];
  semaphores = [];
  tenants = [];
  requesters = record { name = codes "z"; window = 20 } ∷ [];
  jobs = jobs;
  faults = [];
  max_hold_age = 0;
}

-- that site with one job, which asks for the label
abbrev pub plain_site : Configuration
plain_site = one_pool (a_job (codes "j") (label 0 ∷ []) ∷ [])

-- ## lines

abbrev pub line : Event → Done → Entry
line e what = record { event = e; reply = Reply.Done what }

abbrev pub refused : Event → Refusal → Entry
refused e why = record { event = e; reply = Reply.Refused why }

-- ## what sessions do one after another, as lines

-- a session of the pool's launcher opens and registers
abbrev pub registered : ℕ → ℕ → List Entry
registered s p = line (Event.OpenSession (launcher p)) (Done.Session (session s)) ∷ line (Event.Register (session s)) Done.Plain ∷ []

-- a launcher's session locks the request and accepts it
abbrev pub taken_up : ℕ → RequestId → List Entry
taken_up s r = line (Event.LockRequest (session s) r) Done.Held ∷ line (Event.Accept (session s) r) Done.Plain ∷ []

-- a requester's session requests a job's nodes, and a launcher's takes the request up
abbrev pub asked : ℕ → ℕ → ℕ → RequestId → List Entry
asked q j s r = line (Event.Submit (session q) (job j)) (Done.Request r) ∷ taken_up s r

-- a node is launched, by this attempt of its own and this start of its pool, and the outcome is reported
abbrev pub tried : ℕ → ℕ → ℕ → ℕ → Outcome → List Entry
tried s n attempt start o = line (Event.Start (session s) (node n)) (Done.Started attempt start) ∷ line (Event.Done (session s) (node n) attempt o) Done.Plain ∷ []

-- a request's last node is made and launched, with a server of its start's number, and the request is fulfilled
abbrev pub provided : ℕ → RequestId → ℕ → ℕ → List Entry
provided s r n start = line (Event.Create (session s) r) (Done.Node (node n)) ∷ tried s n 1 start (Outcome.Launched start) ++ line (Event.Fulfil (session s) r) Done.Plain ∷ []

-- a ready node is taken as a request's last, and the request is fulfilled
abbrev pub reused : ℕ → RequestId → ℕ → List Entry
reused s r n = line (Event.TakeReady (session s) r (node n)) Done.Held ∷ line (Event.Fulfil (session s) r) Done.Plain ∷ []

-- a session lets go of a node, and another one gets it
abbrev pub handed_over : ℕ → ℕ → ℕ → List Entry
handed_over s t n = line (Event.UnlockNode (session s) (node n)) Done.Plain ∷ line (Event.LockNode (session t) (node n)) Done.Held ∷ []
