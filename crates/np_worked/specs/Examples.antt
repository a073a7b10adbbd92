-- what the examples say, and the sites and journals that are made for them
use Rattle.std.specs.Prelude.{[], ◌≡◌, ℕ, List, ◌∷◌, ◌++◌, Option, Some, None, true, false, is_ok, codes, take}
use Rattle.np_worked.specs.Site.{a_job, a_label, a_pool, a_provider, asked, at_most, handed_over, janitor, job, label, launcher, line, node, offer, one_pool, plain_site, registered, request, requester, session, taken_up, tried}
use Rattle.np_worked.specs.Jobs.{fail_declined, finished_by_the_janitor, min_ready_and_taken, plain_path, retries_spent}
use Rattle.np_worked.specs.Nodes.{expiry_during_a_launch}
use Rattle.np_worked.specs.Shares.{tenant_limit}
use Rattle.np_worked.specs.Lower.{Configuration, Done, Entry, Event, FaultKind, Outcome, PoolId, Role, State, after, is_maker_of, judge, maker_of, node_in, option_map, replayed, request_in, role_in, row_holds, start}

-- the machine would accept the event from the role's current session, but it is not useful
pub record IsUseless (c : Configuration) (s : State) (role : Role) (e : Event) : Type 0 where
  pub accepted : is_ok (judge c s e) ≡ true
  pub maker : is_maker_of role s (maker_of e) ≡ true
  pub row : row_holds c s role e ≡ false

-- the state after this many of the journal's first entries
abbrev pub after_first : ℕ → Configuration → List Entry → State
after_first count c journal = after c (take count journal)

-- since when the first node is in its state
abbrev pub since_after : Configuration → List Entry → Option ℕ
since_after c journal = option_map (λ k. k.since) (node_in (node 0) (after c journal).nodes)

-- the pool that serves the first request, if it has one
abbrev pub pool_after : Configuration → List Entry → Option (Option PoolId)
pool_after c journal = option_map (λ k. k.pool) (request_in (request 200 0) (after c journal).requests)

-- how many times the role's session was lost
abbrev pub strikes_after : Role → Configuration → List Entry → Option ℕ
strikes_after role c journal = option_map (λ k. k.strikes) (role_in role (after c journal))

-- the machine's replies are those of the journal
abbrev pub HasReplies : Configuration → List Entry → Type 0
HasReplies c journal = replayed c (start c) journal ≡ journal

-- ## a second session of a launcher, which is not registered and holds the first one's node

abbrev pub two_sessions : List Entry
two_sessions =
    take 7 plain_path.journal
    ++ line (Event.OpenSession (launcher 0)) (Done.Session (session 3))
    ∷ handed_over 1 3 0
    ++ line (Event.Crash (session 3)) Done.Plain
    ∷ []

-- ## a job whose labels the pool does not offer

abbrev pub unoffered_site : Configuration
unoffered_site = record fail_declined.site {
  labels = a_label (codes "a") ∷ a_label (codes "b") ∷ a_label (codes "c") ∷ [];
  jobs = a_job (codes "j") (label 0 ∷ label 2 ∷ []) ∷ [];
}

abbrev pub unoffered : List Entry
unoffered = take 7 fail_declined.journal

-- ## a job that asks for more than the pool and its tenant may ever hold

abbrev pub small_site : Configuration
small_site = record tenant_limit.site { pools = record (a_pool 0 (codes "m") (offer 0 ∷ [])) { limit = at_most 2 } ∷ [] }

abbrev pub small : List Entry
small = take 13 tenant_limit.journal

-- ## a request with a ready node for its last label, and a launch that fails

abbrev pub failing_site : Configuration
failing_site = record (one_pool (a_job (codes "j") (label 1 ∷ label 1 ∷ label 0 ∷ []) ∷ [])) {
  labels = record (a_label (codes "a")) { min_ready = 1 } ∷ a_label (codes "b") ∷ [];
  providers = record (a_provider (codes "c")) { retries = 1 } ∷ [];
  pools = record (a_pool 0 (codes "m") (offer 0 ∷ offer 1 ∷ [])) { fail_starts = 2 ∷ [] } ∷ [];
}

abbrev pub failing : List Entry
failing =
    take 10 min_ready_and_taken.journal
    ++ line (Event.OpenSession (requester 0)) (Done.Session (session 2))
    ∷ asked 2 0 1 (request 200 1)
    ++ line (Event.Create (session 1) (request 200 1)) (Done.Node (node 1))
    ∷ line (Event.Create (session 1) (request 200 1)) (Done.Node (node 2))
    ∷ tried 1 1 1 2 Outcome.Failed

-- ## two jobs, a window and a concurrency

-- a requester with this window
abbrev pub window_site : ℕ → Configuration
window_site window = record (one_pool (a_job (codes "j") (label 0 ∷ []) ∷ a_job (codes "k") (label 0 ∷ []) ∷ [])) {
  requesters = record { name = codes "z"; window = window } ∷ [];
}

-- a provider whose launchers may work on this many requests
abbrev pub concurrency_site : ℕ → Configuration
concurrency_site concurrency = record (window_site 20) { providers = record (a_provider (codes "c")) { concurrency = Some concurrency } ∷ [] }

abbrev pub two_jobs : List Entry
two_jobs =
    take 4 plain_path.journal
    ++ line (Event.Submit (session 2) (job 1)) (Done.Request (request 200 1))
    ∷ taken_up 1 (request 200 0)
    ++ line (Event.Create (session 1) (request 200 0)) (Done.Node (node 0))
    ∷ []

-- a job is withdrawn, and the next moves into a window of one
abbrev pub moved_window : List Entry
moved_window =
    line (Event.OpenSession (requester 0)) (Done.Session (session 1))
    ∷ line (Event.Withdraw (session 1) (job 0)) Done.Plain
    ∷ []

-- ## a pool that has room for a node of one label and waits for room for another

abbrev pub waiting_site : Configuration
waiting_site = record (one_pool (a_job (codes "j") (label 0 ∷ []) ∷ a_job (codes "k") (label 1 ∷ []) ∷ [])) {
  labels = record (a_label (codes "a")) { min_ready = 1 } ∷ a_label (codes "b") ∷ [];
  pools = record (a_pool 0 (codes "m") (offer 0 ∷ record (offer 1) { amount = record { instances = 1; cores = 4; ram = 1024 } } ∷ [])) {
    limit = record { instances = None; cores = Some 4; ram = None };
  } ∷ [];
}

abbrev pub waiting : List Entry
waiting = two_jobs ++ line (Event.LockRequest (session 1) (request 200 1)) Done.Held ∷ line (Event.Accept (session 1) (request 200 1)) Done.Plain ∷ []

-- ## the janitor of another pool

abbrev pub other_pool : List Entry
other_pool =
    take 9 retries_spent.journal
    ++ line (Event.Expire (session 1)) Done.Plain
    ∷ line (Event.OpenSession (janitor 1)) (Done.Session (session 4))
    ∷ line (Event.LockRequest (session 4) (request 200 0)) Done.Held
    ∷ line (Event.LockNode (session 4) (node 0)) Done.Held
    ∷ line (Event.MarkDeleting (session 4) (node 0)) Done.Plain
    ∷ []

-- ## planned faults

-- a fault of the launcher, after its first act
abbrev pub struck_site : FaultKind → Configuration
struck_site what = record plain_site { faults = record { role = launcher 0; kind = what; after = 1 } ∷ [] }

abbrev pub struck : List Entry
struck =
    registered 1 0
    ++ line (Event.Crash (session 1)) Done.Plain
    ∷ line (Event.Expire (session 1)) Done.Plain
    ∷ []

-- the requester of a job that a janitor finishes has such a fault
abbrev pub left_alone_site : FaultKind → Configuration
left_alone_site what = record finished_by_the_janitor.site { faults = record { role = requester 0; kind = what; after = 1 } ∷ [] }

-- ## journals that were driven, and that were not

-- the launcher's session expires after its fifth act, while it launches
abbrev pub expiring_site : Configuration
expiring_site = record plain_site { faults = record { role = launcher 0; kind = FaultKind.Expire; after = 5 } ∷ [] }

-- a journal of all kinds: useful events, a late report, the sweep of its server, and a tick
abbrev pub all_kinds : List Entry
all_kinds = take 18 expiry_during_a_launch.journal ++ line Event.Tick Done.Plain ∷ []

abbrev pub first_tick : List Entry
first_tick = line Event.Tick Done.Plain ∷ []

-- a site without pools, requesters and jobs
abbrev pub empty_site : Configuration
empty_site = record plain_site { pools = []; requesters = []; jobs = [] }

-- a site with one requester, which has no job
abbrev pub quiet_site : Configuration
quiet_site = record plain_site { pools = []; jobs = [] }

abbrev pub quiet : List Entry
quiet = line (Event.OpenSession (requester 0)) (Done.Session (session 1)) ∷ []
