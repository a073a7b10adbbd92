-- the state of the machine: numbers and flat lists
use Rattle.std.specs.Prelude.{ℕ, List, [], map, None}
use Rattle.np_machine.specs.Entries.{RequestEntry, NodeEntry}
use Rattle.np_machine.specs.declared.state.SessionFacts.{SessionFacts}
use Rattle.np_machine.specs.declared.state.Registration.{Registration}
use Rattle.np_machine.specs.declared.state.Swept.{Swept}
use Rattle.np_machine.specs.Lower.{Configuration, JobId, JobRecord, Phase, RoleRecord}

-- what the machine knows (own, in the words of ZooKeeper, Nodepool and Zuul)
pub record State : Type 0 where
  pub tick : ℕ
  -- session number k is at place k - 1, and is never removed
  pub sessions : List SessionFacts
  -- who is registered for which pool, by pool
  pub registrations : List Registration
  -- the requests with their queues, by priority and then sequence
  pub requests : List RequestEntry
  -- the nodes with their queues, by number
  pub nodes : List NodeEntry
  -- for each semaphore the jobs with a handle, by job
  pub handles : List (List JobId)
  pub jobs : List JobRecord
  -- what each role has done: launchers and janitors by pool, requesters by place
  pub launchers : List RoleRecord
  pub janitors : List RoleRecord
  pub requesters : List RoleRecord
  -- the swept pairs, by node and then server, each once
  pub swept : List Swept
  pub next_request : ℕ
  pub next_node : ℕ

-- a job that nobody has begun (own)
abbrev pub new_job : JobRecord
new_job = record { ending = None; nodes = []; phase = Phase.New; pool = None; request = None }

-- a role that has done nothing (own)
abbrev pub no_deeds : RoleRecord
no_deeds = record { acts = 0; starts = 0; strikes = 0 }

-- the state before the first event (own)
abbrev pub start : Configuration → State
start c = record {
  tick = 0;
  sessions = [];
  registrations = [];
  requests = [];
  nodes = [];
  handles = map (λ _. []) c.semaphores;
  jobs = map (λ _. new_job) c.jobs;
  launchers = map (λ _. no_deeds) c.pools;
  janitors = map (λ _. no_deeds) c.pools;
  requesters = map (λ _. no_deeds) c.requesters;
  swept = [];
  next_request = 0;
  next_node = 0;
}
