-- worked journals: what becomes of jobs and their requests
use Rattle.std.specs.Prelude.{[], Some, codes, take, ◌++◌, ◌∷◌}
use Rattle.np_worked.specs.Site.{Story, a_job, a_label, a_pool, a_provider, a_semaphore, asked, at_most, handed_over, janitor, job, label, launcher, line, node, offer, one_pool, plain_site, pool, provided, refused, registered, request, requester, reused, semaphore, session, story, taken_up, tried}
use Rattle.np_worked.specs.Lower.{Done, EndAs, Ending, Event, Found, NodeState, Outcome, Phase, Reason, Refusal, RequestState}
use Rattle.np_machine.specs.Fates as fate

-- one pool, one label, one job: from its request to its fulfilled node
abbrev pub plain_path : Story
plain_path = story plain_site (fate.waiting Phase.Asked ∷ []) (
    line (Event.OpenSession (launcher 0)) (Done.Session (session 1))
    ∷ line (Event.OpenSession (requester 0)) (Done.Session (session 2))
    ∷ line (Event.Register (session 1)) Done.Plain
    ∷ asked 2 0 1 (request 200 0)
    ++ provided 1 (request 200 0) 0 1)

-- the requester takes its node over, uses it and ends its job
abbrev pub served_job : Story
served_job = story plain_path.site (fate.served (Some (pool 0)) (node 0 ∷ []) ∷ []) (
    plain_path.journal
    ++ line (Event.LockNode (session 2) (node 0)) (Done.Queued 1)
    ∷ line (Event.UnlockNode (session 1) (node 0)) Done.Plain
    ∷ line (Event.Take (session 2) (job 0)) Done.Plain
    ∷ line (Event.EndNode (session 2) (node 0) EndAs.Used) Done.Plain
    ∷ line (Event.Finish (session 2) (job 0)) (Done.Ended Ending.Served)
    ∷ line (Event.UnlockNode (session 2) (node 0)) Done.Plain
    ∷ [])

-- a node is kept ready, and a job with three labels takes it
abbrev pub min_ready_and_taken : Story
min_ready_and_taken = story (record (one_pool (a_job (codes "j") (label 0 ∷ label 1 ∷ label 0 ∷ []) ∷ [])) {
  labels = record { name = codes "a"; min_ready = 1; max_ready_age = 0 } ∷ a_label (codes "b") ∷ [];
  pools = a_pool 0 (codes "m") (offer 0 ∷ offer 1 ∷ []) ∷ [];
}) (fate.waiting Phase.Asked ∷ []) (
    registered 1 0
    ++ line (Event.MinReady (session 1) (label 0)) (Done.Request (request 400 0))
    ∷ taken_up 1 (request 400 0)
    ++ provided 1 (request 400 0) 0 1
    ++ line (Event.UnlockNode (session 1) (node 0)) Done.Plain
    ∷ refused (Event.MinReady (session 1) (label 0)) (Refusal.Enough 1)
    ∷ refused (Event.MinReady (session 1) (label 1)) (Refusal.Enough 0)
    ∷ line (Event.OpenSession (requester 0)) (Done.Session (session 2))
    ∷ asked 2 0 1 (request 200 1)
    ++ line (Event.TakeReady (session 1) (request 200 1) (node 0)) Done.Held
    ∷ line (Event.Create (session 1) (request 200 1)) (Done.Node (node 1))
    ∷ line (Event.Create (session 1) (request 200 1)) (Done.Node (node 2))
    ∷ tried 1 1 1 2 (Outcome.Launched 2)
    ++ refused (Event.Fulfil (session 1) (request 200 1)) (Refusal.NotAll 1)
    ∷ tried 1 2 1 3 (Outcome.Launched 3)
    ++ line (Event.Fulfil (session 1) (request 200 1)) Done.Plain
    ∷ [])

-- a job asks for more than the pool may ever hold
abbrev pub never_fits : Story
never_fits = story (record (one_pool (a_job (codes "j") (label 0 ∷ label 0 ∷ label 0 ∷ []) ∷ [])) {
  pools = record (a_pool 0 (codes "m") (offer 0 ∷ [])) { limit = at_most 2 } ∷ [];
}) (fate.failed (record { pool = pool 0; reason = Reason.NeverFits } ∷ []) ∷ []) (
    take 5 plain_path.journal
    ++ refused (Event.Accept (session 1) (request 200 0)) Refusal.NeverFits
    ∷ line (Event.Decline (session 1) (request 200 0) Reason.NeverFits) Done.Plain
    ∷ line (Event.Finish (session 2) (job 0)) (Done.Ended Ending.Failed)
    ∷ [])

-- the one pool that is left has declined, and the request fails
abbrev pub declined_by_all : Story
declined_by_all = story (record plain_site {
  labels = a_label (codes "a") ∷ a_label (codes "b") ∷ [];
  providers = a_provider (codes "c") ∷ a_provider (codes "d") ∷ [];
  pools = a_pool 0 (codes "m") (offer 1 ∷ []) ∷ a_pool 1 (codes "m") (offer 0 ∷ []) ∷ [];
}) (fate.failed (record { pool = pool 0; reason = Reason.NoLabel (label 0) } ∷ []) ∷ []) (
    line (Event.OpenSession (launcher 0)) (Done.Session (session 1))
    ∷ line (Event.OpenSession (launcher 1)) (Done.Session (session 2))
    ∷ line (Event.Register (session 1)) Done.Plain
    ∷ line (Event.Register (session 2)) Done.Plain
    ∷ line (Event.OpenSession (janitor 0)) (Done.Session (session 3))
    ∷ line (Event.OpenSession (requester 0)) (Done.Session (session 4))
    ∷ line (Event.Submit (session 4) (job 0)) (Done.Request (request 200 0))
    ∷ line (Event.LockRequest (session 1) (request 200 0)) Done.Held
    ∷ refused (Event.Accept (session 1) (request 200 0)) (Refusal.NoLabel (label 0))
    ∷ line (Event.Decline (session 1) (request 200 0) (Reason.NoLabel (label 0))) Done.Plain
    ∷ line (Event.UnlockRequest (session 1) (request 200 0)) Done.Plain
    ∷ refused (Event.FailDeclined (session 3) (request 200 0)) (Refusal.NotAll 1)
    ∷ line (Event.Expire (session 2)) Done.Plain
    ∷ line (Event.FailDeclined (session 3) (request 200 0)) Done.Plain
    ∷ line (Event.Finish (session 4) (job 0)) (Done.Ended Ending.Failed)
    ∷ [])

-- another launcher of the other pool comes, and takes the request up
abbrev pub declined_but_taken_up : Story
declined_but_taken_up = story declined_by_all.site (fate.waiting Phase.Asked ∷ []) (
    take 13 declined_by_all.journal
    ++ registered 5 1
    ++ refused (Event.FailDeclined (session 3) (request 200 0)) (Refusal.NotAll 1)
    ∷ line (Event.LockRequest (session 5) (request 200 0)) Done.Held
    ∷ [])

-- every launch of the first pool fails, and the second serves the request
abbrev pub retries_spent : Story
retries_spent = story (record plain_site {
  providers = a_provider (codes "c") ∷ a_provider (codes "d") ∷ [];
  pools = record (a_pool 0 (codes "m") (offer 0 ∷ [])) { fail_starts = 1 ∷ 2 ∷ 3 ∷ [] } ∷ a_pool 1 (codes "m") (offer 0 ∷ []) ∷ [];
}) (fate.waiting Phase.Asked ∷ []) (
    take 4 declined_by_all.journal
    ++ line (Event.OpenSession (requester 0)) (Done.Session (session 3))
    ∷ asked 3 0 1 (request 200 0)
    ++ line (Event.Create (session 1) (request 200 0)) (Done.Node (node 0))
    ∷ tried 1 0 1 1 Outcome.Failed
    ++ tried 1 0 2 2 Outcome.Failed
    ++ tried 1 0 3 3 Outcome.Failed
    ++ refused (Event.Start (session 1) (node 0)) (Refusal.WrongState (Found.Node NodeState.Failed))
    ∷ line (Event.Decline (session 1) (request 200 0) (Reason.Spent (node 0))) Done.Plain
    ∷ line (Event.UnlockRequest (session 1) (request 200 0)) Done.Plain
    ∷ refused (Event.LockRequest (session 1) (request 200 0)) Refusal.Declined
    ∷ taken_up 2 (request 200 0)
    ++ provided 2 (request 200 0) 1 1)

-- a job is withdrawn while its node is launched, and the node serves another
abbrev pub withdrawn_request : Story
withdrawn_request = story (one_pool (a_job (codes "j") (label 0 ∷ []) ∷ a_job (codes "k") (label 0 ∷ []) ∷ [])) (fate.withdrawn ∷ fate.waiting Phase.Asked ∷ []) (
    take 8 plain_path.journal
    ++ line (Event.Withdraw (session 2) (job 0)) Done.Plain
    ∷ line (Event.Done (session 1) (node 0) 1 (Outcome.Launched 1)) Done.Plain
    ∷ refused (Event.Fulfil (session 1) (request 200 0)) Refusal.NoRequest
    ∷ line (Event.UnlockNode (session 1) (node 0)) Done.Plain
    ∷ line (Event.OpenSession (janitor 0)) (Done.Session (session 3))
    ∷ line (Event.LockNode (session 3) (node 0)) Done.Held
    ∷ refused (Event.MarkDeleting (session 3) (node 0)) (Refusal.Allocated (request 200 0))
    ∷ line (Event.FreeNode (session 3) (node 0)) Done.Plain
    ∷ line (Event.UnlockNode (session 3) (node 0)) Done.Plain
    ∷ asked 2 1 1 (request 200 1)
    ++ reused 1 (request 200 1) 0)

-- a job is withdrawn before it has requested nodes, and cannot request them afterwards
abbrev pub withdrawn_early : Story
withdrawn_early = story plain_site (fate.withdrawn ∷ []) (
    line (Event.OpenSession (requester 0)) (Done.Session (session 1))
    ∷ line (Event.Withdraw (session 1) (job 0)) Done.Plain
    ∷ refused (Event.Withdraw (session 1) (job 0)) (Refusal.WrongState (Found.Job Phase.Over))
    ∷ refused (Event.Submit (session 1) (job 0)) (Refusal.WrongState (Found.Job Phase.Over))
    ∷ refused (Event.Acquire (session 1) (job 0)) (Refusal.WrongState (Found.Job Phase.Over))
    ∷ refused (Event.Take (session 1) (job 0)) (Refusal.WrongState (Found.Job Phase.Over))
    ∷ line (Event.Release (session 1) (job 0)) Done.Plain
    ∷ [])

-- requests are taken up by priority, relative priority and sequence
abbrev pub priorities : Story
priorities = story (one_pool (
    record (a_job (codes "low") (label 0 ∷ [])) { priority = 300 }
    ∷ record (a_job (codes "later") (label 0 ∷ [])) { relative_priority = 5 }
    ∷ record (a_job (codes "sooner") (label 0 ∷ [])) { relative_priority = 1 }
    ∷ record (a_job (codes "high") (label 0 ∷ [])) { priority = 100 }
    ∷ [])) (fate.waiting Phase.Asked ∷ fate.waiting Phase.Asked ∷ fate.waiting Phase.Asked ∷ fate.waiting Phase.Asked ∷ []) (
    take 3 plain_path.journal
    ++ line (Event.Submit (session 2) (job 0)) (Done.Request (request 300 0))
    ∷ line (Event.Submit (session 2) (job 1)) (Done.Request (request 200 1))
    ∷ line (Event.Submit (session 2) (job 2)) (Done.Request (request 200 2))
    ∷ line (Event.Submit (session 2) (job 3)) (Done.Request (request 100 3))
    ∷ refused (Event.LockRequest (session 1) (request 300 0)) (Refusal.NotFirst (request 100 3))
    ∷ line (Event.LockRequest (session 1) (request 100 3)) Done.Held
    ∷ refused (Event.LockRequest (session 1) (request 200 1)) (Refusal.NotFirst (request 200 2))
    ∷ line (Event.LockRequest (session 1) (request 200 2)) Done.Held
    ∷ refused (Event.LockRequest (session 1) (request 300 0)) (Refusal.NotFirst (request 200 1))
    ∷ [])

-- a request that nobody has accepted is revised, and another goes first
abbrev pub revise : Story
revise = story (one_pool (a_job (codes "j") (label 0 ∷ []) ∷ a_job (codes "k") (label 0 ∷ []) ∷ [])) (fate.waiting Phase.Asked ∷ fate.waiting Phase.Asked ∷ []) (
    take 3 plain_path.journal
    ++ refused (Event.Revise (session 2) (job 0) 5) (Refusal.WrongState (Found.Job Phase.New))
    ∷ line (Event.Submit (session 2) (job 0)) (Done.Request (request 200 0))
    ∷ line (Event.Submit (session 2) (job 1)) (Done.Request (request 200 1))
    ∷ refused (Event.LockRequest (session 1) (request 200 1)) (Refusal.NotFirst (request 200 0))
    ∷ line (Event.Revise (session 2) (job 0) 5) Done.Plain
    ∷ line (Event.Revise (session 2) (job 0) 1) Done.Plain
    ∷ line (Event.Revise (session 2) (job 1) 3) Done.Plain
    ∷ refused (Event.LockRequest (session 1) (request 200 1)) (Refusal.NotFirst (request 200 0))
    ∷ line (Event.Revise (session 2) (job 0) 5) Done.Plain
    ∷ line (Event.LockRequest (session 1) (request 200 1)) Done.Held
    ∷ line (Event.Revise (session 2) (job 1) 4) Done.Plain
    ∷ line (Event.Accept (session 1) (request 200 1)) Done.Plain
    ∷ refused (Event.Revise (session 2) (job 1) 0) (Refusal.WrongState (Found.Request RequestState.Pending))
    ∷ [])

-- events that come too early, or from the wrong party
abbrev pub refusals : Story
refusals = story plain_site (fate.waiting Phase.Asked ∷ []) (
    refused (Event.Register (session 9)) Refusal.NoSession
    ∷ refused (Event.OpenSession (launcher 9)) Refusal.WrongRole
    ∷ line (Event.OpenSession (launcher 0)) (Done.Session (session 1))
    ∷ line (Event.OpenSession (requester 0)) (Done.Session (session 2))
    ∷ refused (Event.Register (session 2)) Refusal.WrongRole
    ∷ refused (Event.LockRequest (session 1) (request 200 0)) Refusal.NoRequest
    ∷ refused (Event.Submit (session 2) (job 7)) Refusal.NoJob
    ∷ refused (Event.LockNode (session 2) (node 0)) Refusal.NoNode
    ∷ line (Event.Submit (session 2) (job 0)) (Done.Request (request 200 0))
    ∷ refused (Event.LockRequest (session 1) (request 200 0)) Refusal.NotRegistered
    ∷ line (Event.Register (session 1)) Done.Plain
    ∷ refused (Event.Register (session 1)) (Refusal.Taken (session 1))
    ∷ refused (Event.Accept (session 1) (request 200 0)) Refusal.NotHeld
    ∷ line (Event.LockRequest (session 1) (request 200 0)) Done.Held
    ∷ refused (Event.LockRequest (session 1) (request 200 0)) (Refusal.Busy (session 1))
    ∷ refused (Event.Decline (session 1) (request 200 0) Reason.NeverFits) Refusal.FalseReason
    ∷ refused (Event.Finish (session 2) (job 0)) (Refusal.WrongState (Found.Job Phase.Asked))
    ∷ [])

-- only their own requester ends nodes and jobs
abbrev pub ended_by_the_wrong_party : Story
ended_by_the_wrong_party = story (record (one_pool (a_job (codes "j") (label 0 ∷ []) ∷ [])) {
  requesters = record { name = codes "z"; window = 20 } ∷ record { name = codes "y"; window = 20 } ∷ [];
}) (fate.lost ∷ []) (
    plain_path.journal
    ++ line (Event.OpenSession (requester 1)) (Done.Session (session 3))
    ∷ refused (Event.Submit (session 3) (job 0)) Refusal.NotOwner
    ∷ refused (Event.Take (session 3) (job 0)) Refusal.NotOwner
    ∷ refused (Event.Take (session 2) (job 0)) (Refusal.NotAll 1)
    ∷ handed_over 1 2 0
    ++ refused (Event.EndNode (session 2) (node 0) EndAs.Used) (Refusal.WrongState (Found.Node NodeState.Ready))
    ∷ line (Event.Take (session 2) (job 0)) Done.Plain
    ∷ refused (Event.Finish (session 2) (job 0)) (Refusal.WrongState (Found.Job Phase.Using))
    ∷ refused (Event.Finish (session 3) (job 0)) Refusal.NotOwner
    ∷ handed_over 2 3 0
    ++ refused (Event.EndNode (session 3) (node 0) EndAs.Used) Refusal.NotOwner
    ∷ refused (Event.Release (session 3) (job 0)) Refusal.NotOwner
    ∷ line (Event.Finish (session 2) (job 0)) (Done.Ended Ending.Lost)
    ∷ line (Event.Release (session 2) (job 0)) Done.Plain
    ∷ [])

-- a label that cannot be kept ready is not tried again
abbrev pub spent_min_ready : Story
spent_min_ready = story (record (one_pool []) {
  labels = record { name = codes "a"; min_ready = 1; max_ready_age = 0 } ∷ [];
  providers = record (a_provider (codes "c")) { retries = 1 } ∷ [];
  pools = record (a_pool 0 (codes "m") (offer 0 ∷ [])) { fail_starts = 1 ∷ [] } ∷ [];
}) ([]) (
    registered 1 0
    ++ refused (Event.MinReady (session 1) (label 7)) (Refusal.NoLabel (label 7))
    ∷ line (Event.MinReady (session 1) (label 0)) (Done.Request (request 400 0))
    ∷ refused (Event.MinReady (session 1) (label 0)) (Refusal.Enough 1)
    ∷ taken_up 1 (request 400 0)
    ++ line (Event.Create (session 1) (request 400 0)) (Done.Node (node 0))
    ∷ tried 1 0 1 1 Outcome.Failed
    ++ refused (Event.Decline (session 1) (request 400 0) Reason.NeverFits) (Refusal.WrongState (Found.Request RequestState.Pending))
    ∷ refused (Event.Decline (session 1) (request 400 0) (Reason.Spent (node 7))) Refusal.FalseReason
    ∷ line (Event.Decline (session 1) (request 400 0) (Reason.Spent (node 0))) Done.Plain
    ∷ refused (Event.MinReady (session 1) (label 0)) Refusal.Spent
    ∷ line (Event.UnlockRequest (session 1) (request 400 0)) Done.Plain
    ∷ refused (Event.LockRequest (session 1) (request 400 0)) (Refusal.WrongState (Found.Request RequestState.Failed))
    ∷ line (Event.OpenSession (janitor 0)) (Done.Session (session 2))
    ∷ refused (Event.MarkDeleting (session 2) (node 0)) Refusal.NotHeld
    ∷ line (Event.LockNode (session 2) (node 0)) (Done.Queued 1)
    ∷ line (Event.UnlockNode (session 1) (node 0)) Done.Plain
    ∷ refused (Event.UnlockNode (session 1) (node 0)) Refusal.NotHeld
    ∷ line (Event.LockNode (session 2) (node 0)) Done.Held
    ∷ line (Event.MarkDeleting (session 2) (node 0)) Done.Plain
    ∷ refused (Event.MarkDeleting (session 2) (node 0)) (Refusal.WrongState (Found.Node NodeState.Deleting))
    ∷ line (Event.Gone (session 2) (node 0)) Done.Plain
    ∷ [])

-- only the pool that made a min-ready request serves it
abbrev pub pinned_elsewhere : Story
pinned_elsewhere = story (record (one_pool []) {
  labels = record { name = codes "a"; min_ready = 1; max_ready_age = 0 } ∷ a_label (codes "b") ∷ [];
  providers = a_provider (codes "c") ∷ a_provider (codes "d") ∷ [];
  pools = a_pool 0 (codes "m") (offer 0 ∷ []) ∷ record (a_pool 1 (codes "m") (offer 0 ∷ [])) { limit = at_most 0 } ∷ [];
}) ([]) (
    line (Event.OpenSession (launcher 0)) (Done.Session (session 1))
    ∷ line (Event.OpenSession (launcher 1)) (Done.Session (session 2))
    ∷ refused (Event.MinReady (session 1) (label 0)) Refusal.NotRegistered
    ∷ line (Event.Register (session 1)) Done.Plain
    ∷ line (Event.Register (session 2)) Done.Plain
    ∷ refused (Event.MinReady (session 1) (label 1)) (Refusal.NoLabel (label 1))
    ∷ refused (Event.MinReady (session 2) (label 0)) (Refusal.QuotaShort 0 0 0)
    ∷ line (Event.MinReady (session 1) (label 0)) (Done.Request (request 400 0))
    ∷ refused (Event.LockRequest (session 2) (request 400 0)) Refusal.NotOwner
    ∷ taken_up 1 (request 400 0)
    ++ line (Event.Create (session 1) (request 400 0)) (Done.Node (node 0))
    ∷ refused (Event.Create (session 1) (request 400 0)) (Refusal.WrongState (Found.Request RequestState.Pending))
    ∷ refused (Event.Start (session 2) (node 0)) Refusal.NotOwner
    ∷ refused (Event.TakeReady (session 1) (request 400 0) (node 0)) Refusal.NotOwner
    ∷ refused (Event.UnlockRequest (session 1) (request 400 0)) (Refusal.WrongState (Found.Request RequestState.Pending))
    ∷ line (Event.Start (session 1) (node 0)) (Done.Started 1 1)
    ∷ refused (Event.Start (session 1) (node 0)) (Refusal.WrongState Found.InFlight)
    ∷ refused (Event.Done (session 2) (node 0) 1 (Outcome.Launched 1)) Refusal.NotOwner
    ∷ line (Event.Done (session 1) (node 0) 1 (Outcome.Launched 1)) Done.Plain
    ∷ refused (Event.Done (session 1) (node 0) 1 (Outcome.Launched 1)) (Refusal.WrongState (Found.Node NodeState.Ready))
    ∷ line (Event.Fulfil (session 1) (request 400 0)) Done.Plain
    ∷ refused (Event.Fulfil (session 1) (request 400 0)) Refusal.NoRequest
    ∷ [])

-- the janitor gives back a request whose launcher has gone, and its node is free
abbrev pub reset_request : Story
reset_request = story plain_path.site (fate.waiting Phase.Asked ∷ []) (
    take 9 plain_path.journal
    ++ line (Event.OpenSession (janitor 0)) (Done.Session (session 3))
    ∷ refused (Event.LockRequest (session 3) (request 200 0)) (Refusal.Busy (session 1))
    ∷ refused (Event.Reset (session 3) (request 200 0)) Refusal.NotHeld
    ∷ line (Event.Expire (session 1)) Done.Plain
    ∷ line (Event.LockRequest (session 3) (request 200 0)) Done.Held
    ∷ line (Event.Reset (session 3) (request 200 0)) Done.Plain
    ∷ refused (Event.Reset (session 3) (request 200 0)) (Refusal.WrongState (Found.Request RequestState.Requested))
    ∷ refused (Event.LockRequest (session 3) (request 200 0)) (Refusal.WrongState (Found.Request RequestState.Requested))
    ∷ line (Event.UnlockRequest (session 3) (request 200 0)) Done.Plain
    ∷ registered 4 0
    ++ taken_up 4 (request 200 0)
    ++ reused 4 (request 200 0) 0)

-- a request that nobody may serve fails only if a pool is registered
abbrev pub fail_declined : Story
fail_declined = story declined_by_all.site (fate.withdrawn ∷ []) (
    take 7 retries_spent.journal
    ++ refused (Event.Decline (session 1) (request 200 0) (Reason.NoLabel (label 1))) Refusal.FalseReason
    ∷ line (Event.Decline (session 1) (request 200 0) (Reason.NoLabel (label 0))) Done.Plain
    ∷ refused (Event.Accept (session 1) (request 200 0)) Refusal.Declined
    ∷ refused (Event.Decline (session 1) (request 200 0) (Reason.NoLabel (label 0))) Refusal.Declined
    ∷ line (Event.OpenSession (janitor 1)) (Done.Session (session 4))
    ∷ line (Event.Expire (session 1)) Done.Plain
    ∷ line (Event.Expire (session 2)) Done.Plain
    ∷ refused (Event.FailDeclined (session 4) (request 200 0)) Refusal.NotRegistered
    ∷ registered 5 0
    ++ line (Event.FailDeclined (session 4) (request 200 0)) Done.Plain
    ∷ refused (Event.FailDeclined (session 4) (request 200 0)) (Refusal.WrongState (Found.Request RequestState.Failed))
    ∷ line (Event.Withdraw (session 3) (job 0)) Done.Plain
    ∷ [])

-- a janitor ends a job whose requester has no live session, mute or not
abbrev pub finished_by_the_janitor : Story
finished_by_the_janitor = story plain_site (fate.lost ∷ []) (
    take 13 served_job.journal
    ++ line (Event.OpenSession (janitor 0)) (Done.Session (session 3))
    ∷ line (Event.Crash (session 2)) Done.Plain
    ∷ refused (Event.Finish (session 3) (job 0)) Refusal.NotOwner
    ∷ line (Event.Expire (session 2)) Done.Plain
    ∷ line (Event.Finish (session 3) (job 0)) (Done.Ended Ending.Lost)
    ∷ [])

-- a requester stops while it uses its node, and its job is lost
abbrev pub crashed_requester : Story
crashed_requester = story (record (one_pool (record (a_job (codes "j") (label 0 ∷ [])) { semaphores = semaphore 0 ∷ [] } ∷ [])) {
  semaphores = a_semaphore (codes "db") ∷ [];
}) (fate.lost ∷ []) (
    take 3 plain_path.journal
    ++ line (Event.Acquire (session 2) (job 0)) Done.Plain
    ∷ asked 2 0 1 (request 200 0)
    ++ provided 1 (request 200 0) 0 1
    ++ handed_over 1 2 0
    ++ line (Event.Take (session 2) (job 0)) Done.Plain
    ∷ line (Event.Crash (session 2)) Done.Plain
    ∷ refused (Event.EndNode (session 2) (node 0) EndAs.Used) Refusal.Crashed
    ∷ line (Event.OpenSession (janitor 0)) (Done.Session (session 3))
    ∷ line (Event.LockNode (session 3) (node 0)) (Done.Queued 1)
    ∷ line (Event.Expire (session 2)) Done.Plain
    ∷ line (Event.LockNode (session 3) (node 0)) Done.Held
    ∷ line (Event.MarkDeleting (session 3) (node 0)) Done.Plain
    ∷ line (Event.Gone (session 3) (node 0)) Done.Plain
    ∷ line (Event.OpenSession (requester 0)) (Done.Session (session 4))
    ∷ refused (Event.Finish (session 3) (job 0)) Refusal.NotOwner
    ∷ line (Event.Finish (session 4) (job 0)) (Done.Ended Ending.Lost)
    ∷ line (Event.Release (session 3) (job 0)) Done.Plain
    ∷ [])
