-- worked journals: semaphores, quotas and tenants
use Rattle.std.specs.Prelude.{[], Some, codes, take, true, ◌++◌, ◌∷◌}
use Rattle.np_worked.specs.Site.{Story, a_job, a_label, a_pool, a_semaphore, a_tenant, asked, at_most, handed_over, janitor, job, label, line, node, offer, one_pool, pool, provided, refused, registered, request, requester, reused, semaphore, session, story, taken_up, tenant, tried}
use Rattle.np_worked.specs.Jobs.{plain_path, min_ready_and_taken}
use Rattle.np_worked.specs.Nodes.{nodes_that_are_not_free}
use Rattle.np_worked.specs.Lower.{Done, EndAs, Ending, Event, Outcome, Phase, Reason, Refusal, no_limit}
use Rattle.np_machine.specs.Fates as fate

-- jobs take all their semaphores or none
abbrev pub semaphores_all_or_none : Story
semaphores_all_or_none = story (record (one_pool (
    record (a_job (codes "j") (label 0 ∷ [])) { semaphores = semaphore 0 ∷ semaphore 1 ∷ [] }
    ∷ record (a_job (codes "k") (label 0 ∷ [])) { semaphores = semaphore 1 ∷ semaphore 0 ∷ [] }
    ∷ record (a_job (codes "l") (label 0 ∷ [])) { semaphores = semaphore 0 ∷ [] }
    ∷ [])) { semaphores = a_semaphore (codes "db") ∷ a_semaphore (codes "net") ∷ [] }) (fate.waiting Phase.New ∷ fate.waiting Phase.New ∷ fate.withdrawn ∷ []) (
    line (Event.OpenSession (requester 0)) (Done.Session (session 1))
    ∷ line (Event.Acquire (session 1) (job 2)) Done.Plain
    ∷ refused (Event.Acquire (session 1) (job 1)) (Refusal.SemaphoreFull (semaphore 0))
    ∷ refused (Event.Submit (session 1) (job 1)) (Refusal.NotAll 2)
    ∷ line (Event.Withdraw (session 1) (job 2)) Done.Plain
    ∷ line (Event.Release (session 1) (job 2)) Done.Plain
    ∷ line (Event.Acquire (session 1) (job 0)) Done.Plain
    ∷ line (Event.Acquire (session 1) (job 0)) Done.Plain
    ∷ refused (Event.Acquire (session 1) (job 1)) (Refusal.SemaphoreFull (semaphore 1))
    ∷ [])

-- a semaphore has as many handles as it may, and no more
abbrev pub two_handles : Story
two_handles = story (record (one_pool (
    record (a_job (codes "j") (label 0 ∷ [])) { semaphores = semaphore 0 ∷ [] }
    ∷ record (a_job (codes "k") (label 0 ∷ [])) { semaphores = semaphore 0 ∷ [] }
    ∷ record (a_job (codes "u") (label 0 ∷ [])) { semaphores = semaphore 0 ∷ [] }
    ∷ [])) {
      semaphores = record (a_semaphore (codes "db")) { max = 2 } ∷ [];
    }) (fate.waiting Phase.New ∷ fate.waiting Phase.New ∷ fate.withdrawn ∷ []) (
    take 3 plain_path.journal
    ++ line (Event.Acquire (session 2) (job 2)) Done.Plain
    ∷ line (Event.Acquire (session 2) (job 0)) Done.Plain
    ∷ refused (Event.Acquire (session 2) (job 1)) (Refusal.SemaphoreFull (semaphore 0))
    ∷ line (Event.Acquire (session 2) (job 0)) Done.Plain
    ∷ line (Event.Withdraw (session 2) (job 2)) Done.Plain
    ∷ refused (Event.Acquire (session 2) (job 1)) (Refusal.SemaphoreFull (semaphore 0))
    ∷ line (Event.Release (session 2) (job 2)) Done.Plain
    ∷ line (Event.Acquire (session 2) (job 1)) Done.Plain
    ∷ [])

-- a job that asked for its nodes first takes them when it holds them and has its semaphores, and its request is gone
abbrev pub taken_with_its_handles : Story
taken_with_its_handles = story (record (one_pool (record (a_job (codes "j") (label 0 ∷ [])) { semaphores = semaphore 0 ∷ semaphore 1 ∷ []; resources_first = true } ∷ [])) {
  semaphores = a_semaphore (codes "db") ∷ a_semaphore (codes "log") ∷ [];
}) (fate.waiting Phase.Using ∷ []) (
    plain_path.journal
    ++ line (Event.LockNode (session 2) (node 0)) (Done.Queued 1)
    ∷ refused (Event.Take (session 2) (job 0)) (Refusal.NotAll 1)
    ∷ line (Event.UnlockNode (session 1) (node 0)) Done.Plain
    ∷ refused (Event.Take (session 2) (job 0)) (Refusal.NotAll 2)
    ∷ line (Event.Acquire (session 2) (job 0)) Done.Plain
    ∷ line (Event.Take (session 2) (job 0)) Done.Plain
    ∷ refused (Event.UnlockRequest (session 1) (request 200 0)) Refusal.NoRequest
    ∷ [])

-- a job waits for room in the pool, and another for the semaphore that the first has
abbrev pub short_quota : Story
short_quota = story (record (one_pool (
    record (a_job (codes "j") (label 0 ∷ [])) { semaphores = semaphore 0 ∷ [] }
    ∷ record (a_job (codes "k") (label 0 ∷ [])) { semaphores = semaphore 0 ∷ []; resources_first = true }
    ∷ [])) {
      pools = record (a_pool 0 (codes "m") (offer 0 ∷ [])) { limit = at_most 1 } ∷ [];
      semaphores = a_semaphore (codes "db") ∷ [];
    }) (fate.waiting Phase.Asked ∷ fate.waiting Phase.Asked ∷ []) (
    take 3 plain_path.journal
    ++ asked 2 1 1 (request 200 0)
    ++ provided 1 (request 200 0) 0 1
    ++ line (Event.UnlockNode (session 1) (node 0)) Done.Plain
    ∷ line (Event.UnlockRequest (session 1) (request 200 0)) Done.Plain
    ∷ line (Event.Acquire (session 2) (job 0)) Done.Plain
    ∷ asked 2 0 1 (request 200 1)
    ++ refused (Event.Create (session 1) (request 200 1)) (Refusal.QuotaShort 1 1 1024)
    ∷ line (Event.LockNode (session 2) (node 0)) Done.Held
    ∷ refused (Event.Acquire (session 2) (job 1)) (Refusal.SemaphoreFull (semaphore 0))
    ∷ refused (Event.Take (session 2) (job 1)) (Refusal.NotAll 1)
    ∷ [])

-- a pool at its quota gives up a ready node that its request cannot use
abbrev pub paused_pool : Story
paused_pool = story (record (one_pool (a_job (codes "j") (label 1 ∷ []) ∷ [])) {
  labels = record { name = codes "a"; min_ready = 1; max_ready_age = 0 } ∷ a_label (codes "b") ∷ [];
  pools = record (a_pool 0 (codes "m") (offer 0 ∷ offer 1 ∷ [])) { limit = at_most 1 } ∷ [];
}) (fate.waiting Phase.Asked ∷ []) (
    take 10 min_ready_and_taken.journal
    ++ line (Event.OpenSession (janitor 0)) (Done.Session (session 2))
    ∷ line (Event.LockNode (session 2) (node 0)) Done.Held
    ∷ refused (Event.MarkDeleting (session 2) (node 0)) (Refusal.NotDue 0)
    ∷ line (Event.OpenSession (requester 0)) (Done.Session (session 3))
    ∷ asked 3 0 1 (request 200 1)
    ++ refused (Event.TakeReady (session 1) (request 200 1) (node 0)) (Refusal.NoLabel (label 1))
    ∷ refused (Event.Create (session 1) (request 200 1)) (Refusal.QuotaShort 1 1 1024)
    ∷ line (Event.MarkDeleting (session 2) (node 0)) Done.Plain
    ∷ refused (Event.Create (session 1) (request 200 1)) (Refusal.QuotaShort 1 1 1024)
    ∷ line (Event.Gone (session 2) (node 0)) Done.Plain
    ∷ line (Event.Create (session 1) (request 200 1)) (Done.Node (node 1))
    ∷ [])

-- a pool without room pauses for a node that is to be kept ready, though another of its label is unused
abbrev pub paused_by_a_kept_label : Story
paused_by_a_kept_label = story (record (one_pool (a_job (codes "j") (label 0 ∷ []) ∷ [])) {
  labels = record (a_label (codes "a")) { min_ready = 3 } ∷ [];
  pools = record (a_pool 0 (codes "m") (offer 0 ∷ [])) { limit = at_most 2 } ∷ [];
}) (fate.waiting Phase.New ∷ []) (
    take 10 nodes_that_are_not_free.journal
    ++ line (Event.UnlockNode (session 1) (node 0)) Done.Plain
    ∷ line (Event.MinReady (session 1) (label 0)) (Done.Request (request 400 1))
    ∷ line (Event.MinReady (session 1) (label 0)) (Done.Request (request 400 2))
    ∷ taken_up 1 (request 400 1)
    ++ provided 1 (request 400 1) 1 2
    ++ line (Event.UnlockNode (session 1) (node 1)) Done.Plain
    ∷ line (Event.LockRequest (session 1) (request 400 2)) Done.Held
    ∷ line (Event.OpenSession (janitor 0)) (Done.Session (session 3))
    ∷ line (Event.LockNode (session 3) (node 0)) Done.Held
    ∷ refused (Event.MarkDeleting (session 3) (node 0)) (Refusal.NotDue 0)
    ∷ line (Event.Accept (session 1) (request 400 2)) Done.Plain
    ∷ line (Event.MarkDeleting (session 3) (node 0)) Done.Plain
    ∷ [])

-- a tenant has room for one request and not for the next, and never for the largest
abbrev pub tenant_limit : Story
tenant_limit = story (record (one_pool (
    record (a_job (codes "j") (label 0 ∷ label 0 ∷ [])) { tenant = tenant 1 }
    ∷ record (a_job (codes "k") (label 0 ∷ [])) { tenant = tenant 1 }
    ∷ a_job (codes "u") (label 0 ∷ [])
    ∷ record (a_job (codes "v") (label 0 ∷ label 0 ∷ label 0 ∷ [])) { tenant = tenant 1 }
    ∷ [])) {
      tenants = a_tenant (codes "t") (at_most 2) ∷ [];
    }) (fate.withdrawn ∷ fate.waiting Phase.Asked ∷ fate.waiting Phase.Asked ∷ fate.failed (record { pool = pool 0; reason = Reason.TenantNeverFits } ∷ []) ∷ []) (
    take 4 plain_path.journal
    ++ line (Event.Submit (session 2) (job 1)) (Done.Request (request 200 1))
    ∷ line (Event.Submit (session 2) (job 2)) (Done.Request (request 200 2))
    ∷ line (Event.Submit (session 2) (job 3)) (Done.Request (request 200 3))
    ∷ line (Event.LockRequest (session 1) (request 200 0)) Done.Held
    ∷ refused (Event.Decline (session 1) (request 200 0) Reason.TenantNeverFits) Refusal.FalseReason
    ∷ line (Event.Accept (session 1) (request 200 0)) Done.Plain
    ∷ refused (Event.LockRequest (session 1) (request 200 1)) (Refusal.TenantShort 2 2 2048)
    ∷ line (Event.LockRequest (session 1) (request 200 2)) Done.Held
    ∷ line (Event.LockRequest (session 1) (request 200 3)) Done.Held
    ∷ refused (Event.Accept (session 1) (request 200 3)) Refusal.TenantNeverFits
    ∷ line (Event.Decline (session 1) (request 200 3) Reason.TenantNeverFits) Done.Plain
    ∷ line (Event.Finish (session 2) (job 3)) (Done.Ended Ending.Failed)
    ∷ line (Event.Create (session 1) (request 200 0)) (Done.Node (node 0))
    ∷ line (Event.Create (session 1) (request 200 0)) (Done.Node (node 1))
    ∷ line (Event.Withdraw (session 2) (job 0)) Done.Plain
    ∷ refused (Event.LockRequest (session 1) (request 200 1)) (Refusal.TenantShort 2 2 2048)
    ∷ line (Event.OpenSession (janitor 0)) (Done.Session (session 3))
    ∷ handed_over 1 3 0
    ++ line (Event.MarkDeleting (session 3) (node 0)) Done.Plain
    ∷ refused (Event.LockRequest (session 1) (request 200 1)) (Refusal.TenantShort 2 2 2048)
    ∷ line (Event.Gone (session 3) (node 0)) Done.Plain
    ∷ taken_up 1 (request 200 1))

-- of two requests of one tenant that were locked together, one is accepted, and takes all that the tenant may use
abbrev pub half_built_requests : Story
half_built_requests = story (record (one_pool (
    record (a_job (codes "j") (label 0 ∷ label 0 ∷ [])) { tenant = tenant 1 }
    ∷ record (a_job (codes "k") (label 0 ∷ label 0 ∷ [])) { tenant = tenant 1 }
    ∷ [])) {
      tenants = a_tenant (codes "t") (at_most 2) ∷ [];
    }) (fate.waiting Phase.Asked ∷ fate.waiting Phase.Asked ∷ []) (
    take 4 plain_path.journal
    ++ line (Event.Submit (session 2) (job 1)) (Done.Request (request 200 1))
    ∷ line (Event.LockRequest (session 1) (request 200 0)) Done.Held
    ∷ line (Event.LockRequest (session 1) (request 200 1)) Done.Held
    ∷ line (Event.Accept (session 1) (request 200 0)) Done.Plain
    ∷ refused (Event.Accept (session 1) (request 200 1)) (Refusal.TenantShort 2 2 2048)
    ∷ refused (Event.LockRequest (session 1) (request 200 1)) (Refusal.Busy (session 1))
    ∷ line (Event.Create (session 1) (request 200 0)) (Done.Node (node 0))
    ∷ refused (Event.Accept (session 1) (request 200 1)) (Refusal.TenantShort 2 2 2048)
    ∷ line (Event.Create (session 1) (request 200 0)) (Done.Node (node 1))
    ∷ tried 1 0 1 1 (Outcome.Launched 1)
    ++ tried 1 1 1 2 (Outcome.Launched 2)
    ++ line (Event.Fulfil (session 1) (request 200 0)) Done.Plain
    ∷ refused (Event.Accept (session 1) (request 200 1)) (Refusal.TenantShort 2 2 2048)
    ∷ [])

-- a node counts for its tenant while it is allocated and in use, and not when it is free
abbrev pub tenant_of_a_node : Story
tenant_of_a_node = story (record (one_pool (
    record (a_job (codes "j") (label 0 ∷ [])) { tenant = tenant 1 }
    ∷ record (a_job (codes "k") (label 0 ∷ [])) { tenant = tenant 1 }
    ∷ record (a_job (codes "u") (label 0 ∷ [])) { tenant = tenant 1 }
    ∷ [])) {
      tenants = a_tenant (codes "t") (at_most 1) ∷ [];
    }) (fate.withdrawn ∷ fate.waiting Phase.Using ∷ fate.waiting Phase.Asked ∷ []) (
    take 4 plain_path.journal
    ++ line (Event.Submit (session 2) (job 1)) (Done.Request (request 200 1))
    ∷ line (Event.Submit (session 2) (job 2)) (Done.Request (request 200 2))
    ∷ taken_up 1 (request 200 0)
    ++ line (Event.Create (session 1) (request 200 0)) (Done.Node (node 0))
    ∷ tried 1 0 1 1 (Outcome.Launched 1)
    ++ line (Event.Withdraw (session 2) (job 0)) Done.Plain
    ∷ line (Event.UnlockNode (session 1) (node 0)) Done.Plain
    ∷ refused (Event.LockRequest (session 1) (request 200 1)) (Refusal.TenantShort 1 1 1024)
    ∷ line (Event.OpenSession (janitor 0)) (Done.Session (session 3))
    ∷ line (Event.LockNode (session 3) (node 0)) Done.Held
    ∷ line (Event.FreeNode (session 3) (node 0)) Done.Plain
    ∷ line (Event.UnlockNode (session 3) (node 0)) Done.Plain
    ∷ taken_up 1 (request 200 1)
    ++ reused 1 (request 200 1) 0
    ++ refused (Event.LockRequest (session 1) (request 200 2)) (Refusal.TenantShort 1 1 1024)
    ∷ line (Event.LockNode (session 2) (node 0)) (Done.Queued 1)
    ∷ line (Event.UnlockNode (session 1) (node 0)) Done.Plain
    ∷ line (Event.Take (session 2) (job 1)) Done.Plain
    ∷ refused (Event.LockRequest (session 1) (request 200 2)) (Refusal.TenantShort 1 1 1024)
    ∷ line (Event.EndNode (session 2) (node 0) EndAs.Used) Done.Plain
    ∷ refused (Event.LockRequest (session 1) (request 200 2)) (Refusal.TenantShort 1 1 1024)
    ∷ [])

-- a tenant counts what each node and each request takes of its own pool, and what a pool can never serve is declined
abbrev pub tenant_counts_by_pool : Story
tenant_counts_by_pool = story (record (one_pool (
    record (a_job (codes "j") (label 0 ∷ [])) { tenant = tenant 1 }
    ∷ record (a_job (codes "k") (label 0 ∷ [])) { tenant = tenant 1 }
    ∷ record (a_job (codes "u") (label 0 ∷ label 0 ∷ [])) { tenant = tenant 1 }
    ∷ record (a_job (codes "v") (label 1 ∷ [])) { tenant = tenant 1 }
    ∷ [])) {
      labels = a_label (codes "a") ∷ a_label (codes "b") ∷ [];
      pools =
          a_pool 0 (codes "m") (offer 0 ∷ [])
          ∷ record (a_pool 0 (codes "n") (record { label = label 0; amount = record { instances = 1; cores = 4; ram = 1024 } } ∷ [])) { limit = at_most 1 }
          ∷ [];
      tenants = a_tenant (codes "t") (record no_limit { cores = Some 5 }) ∷ [];
    }) (fate.waiting Phase.Asked ∷ fate.waiting Phase.Asked ∷ fate.waiting Phase.Asked ∷ fate.waiting Phase.Asked ∷ []) (
    take 3 plain_path.journal
    ++ registered 3 1
    ++ line (Event.Submit (session 2) (job 0)) (Done.Request (request 200 0))
    ∷ line (Event.Submit (session 2) (job 1)) (Done.Request (request 200 1))
    ∷ line (Event.Submit (session 2) (job 2)) (Done.Request (request 200 2))
    ∷ line (Event.Submit (session 2) (job 3)) (Done.Request (request 200 3))
    ∷ taken_up 3 (request 200 0)
    ++ refused (Event.LockRequest (session 3) (request 200 1)) (Refusal.TenantShort 1 4 1024)
    ∷ line (Event.LockRequest (session 1) (request 200 1)) Done.Held
    ∷ line (Event.Create (session 3) (request 200 0)) (Done.Node (node 0))
    ∷ line (Event.Accept (session 1) (request 200 1)) Done.Plain
    ∷ refused (Event.LockRequest (session 1) (request 200 2)) (Refusal.TenantShort 2 5 2048)
    ∷ line (Event.LockRequest (session 3) (request 200 2)) Done.Held
    ∷ refused (Event.Accept (session 3) (request 200 2)) Refusal.NeverFits
    ∷ line (Event.Decline (session 3) (request 200 2) Reason.NeverFits) Done.Plain
    ∷ line (Event.LockRequest (session 1) (request 200 3)) Done.Held
    ∷ refused (Event.Accept (session 1) (request 200 3)) (Refusal.NoLabel (label 1))
    ∷ line (Event.Decline (session 1) (request 200 3) (Reason.NoLabel (label 1))) Done.Plain
    ∷ [])
