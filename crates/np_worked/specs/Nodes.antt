-- worked journals: what becomes of nodes and their servers
use Rattle.std.specs.Prelude.{[], Some, codes, take, ◌++◌, ◌∷◌}
use Rattle.np_worked.specs.Site.{Story, a_job, a_label, a_pool, asked, handed_over, janitor, job, label, line, node, offer, one_pool, plain_site, pool, provided, refused, registered, request, requester, session, story, taken_up, tried}
use Rattle.np_worked.specs.Jobs.{plain_path, served_job}
use Rattle.np_worked.specs.Lower.{Done, EndAs, Ending, Event, Found, NodeState, Outcome, Phase, Refusal, RequestState}
use Rattle.np_machine.specs.Fates as fate

-- a launcher expires while it launches; the janitor cleans up, and another launcher serves the request
abbrev pub expiry_during_a_launch : Story
expiry_during_a_launch = story plain_path.site (fate.waiting Phase.Asked ∷ []) (
    take 8 plain_path.journal
    ++ line (Event.Expire (session 1)) Done.Plain
    ∷ line (Event.OpenSession (janitor 0)) (Done.Session (session 3))
    ∷ line (Event.LockRequest (session 3) (request 200 0)) Done.Held
    ∷ line (Event.Reset (session 3) (request 200 0)) Done.Plain
    ∷ line (Event.UnlockRequest (session 3) (request 200 0)) Done.Plain
    ∷ refused (Event.Done (session 1) (node 0) 1 (Outcome.Launched 1)) Refusal.Expired
    ∷ line (Event.LockNode (session 3) (node 0)) Done.Held
    ∷ line (Event.MarkDeleting (session 3) (node 0)) Done.Plain
    ∷ line (Event.Gone (session 3) (node 0)) Done.Plain
    ∷ line (Event.Sweep (session 3) (node 0) 1) Done.Remove
    ∷ registered 4 0
    ++ taken_up 4 (request 200 0)
    ++ provided 4 (request 200 0) 1 2)

-- the next in a node's queue holds it when the first expires
abbrev pub queue_after_an_expiry : Story
queue_after_an_expiry = story plain_path.site (fate.waiting Phase.Asked ∷ []) (
    plain_path.journal
    ++ line (Event.LockNode (session 2) (node 0)) (Done.Queued 1)
    ∷ line (Event.Expire (session 1)) Done.Plain
    ∷ line (Event.LockNode (session 2) (node 0)) Done.Held
    ∷ line (Event.OpenSession (requester 0)) (Done.Session (session 3))
    ∷ line (Event.LockNode (session 3) (node 0)) (Done.Queued 1)
    ∷ [])

-- a late report of an earlier launch is refused
abbrev pub wrong_attempt : Story
wrong_attempt = story plain_path.site (fate.waiting Phase.Asked ∷ []) (
    take 8 plain_path.journal
    ++ line (Event.Done (session 1) (node 0) 1 Outcome.Failed) Done.Plain
    ∷ line (Event.Start (session 1) (node 0)) (Done.Started 2 2)
    ∷ refused (Event.Done (session 1) (node 0) 1 (Outcome.Launched 1)) (Refusal.WrongAttempt 2)
    ∷ line (Event.Done (session 1) (node 0) 2 (Outcome.Launched 2)) Done.Plain
    ∷ [])

-- a held node is removed when it is old enough
abbrev pub hold_age : Story
hold_age = story (record plain_site { max_hold_age = 2 }) (fate.served (Some (pool 0)) (node 0 ∷ []) ∷ []) (
    take 13 served_job.journal
    ++ line (Event.EndNode (session 2) (node 0) EndAs.Hold) Done.Plain
    ∷ line (Event.Finish (session 2) (job 0)) (Done.Ended Ending.Served)
    ∷ line (Event.UnlockNode (session 2) (node 0)) Done.Plain
    ∷ line (Event.OpenSession (janitor 0)) (Done.Session (session 3))
    ∷ line (Event.LockNode (session 3) (node 0)) Done.Held
    ∷ refused (Event.MarkDeleting (session 3) (node 0)) (Refusal.NotDue 3)
    ∷ line Event.Tick Done.Plain
    ∷ line Event.Tick Done.Plain
    ∷ line Event.Tick Done.Plain
    ∷ line (Event.MarkDeleting (session 3) (node 0)) Done.Plain
    ∷ [])

-- an unused ready node is removed when it is old enough
abbrev pub ready_age : Story
ready_age = story (record plain_site {
  labels = record { name = codes "a"; min_ready = 1; max_ready_age = 1 } ∷ [];
}) (fate.waiting Phase.New ∷ []) (
    line Event.Tick Done.Plain
    ∷ registered 1 0
    ++ line (Event.MinReady (session 1) (label 0)) (Done.Request (request 400 0))
    ∷ taken_up 1 (request 400 0)
    ++ line (Event.Create (session 1) (request 400 0)) (Done.Node (node 0))
    ∷ line (Event.Start (session 1) (node 0)) (Done.Started 1 1)
    ∷ line Event.Tick Done.Plain
    ∷ line (Event.Done (session 1) (node 0) 1 (Outcome.Launched 1)) Done.Plain
    ∷ line (Event.Fulfil (session 1) (request 400 0)) Done.Plain
    ∷ line (Event.UnlockNode (session 1) (node 0)) Done.Plain
    ∷ line (Event.OpenSession (janitor 0)) (Done.Session (session 2))
    ∷ line (Event.LockNode (session 2) (node 0)) Done.Held
    ∷ refused (Event.MarkDeleting (session 2) (node 0)) (Refusal.NotDue 4)
    ∷ line Event.Tick Done.Plain
    ∷ refused (Event.MarkDeleting (session 2) (node 0)) (Refusal.NotDue 4)
    ∷ line Event.Tick Done.Plain
    ∷ line (Event.MarkDeleting (session 2) (node 0)) Done.Plain
    ∷ line (Event.Gone (session 2) (node 0)) Done.Plain
    ∷ refused (Event.Gone (session 2) (node 0)) Refusal.NoNode
    ∷ [])

-- a node's age counts from its last change; and what its record says along the way
abbrev pub aged_node : Story
aged_node = story plain_site (fate.waiting Phase.Using ∷ []) (
    take 6 plain_path.journal
    ++ line Event.Tick Done.Plain
    ∷ line (Event.Create (session 1) (request 200 0)) (Done.Node (node 0))
    ∷ line Event.Tick Done.Plain
    ∷ tried 1 0 1 1 (Outcome.Launched 1)
    ++ line (Event.Fulfil (session 1) (request 200 0)) Done.Plain
    ∷ line (Event.LockNode (session 2) (node 0)) (Done.Queued 1)
    ∷ line (Event.UnlockNode (session 1) (node 0)) Done.Plain
    ∷ line Event.Tick Done.Plain
    ∷ line (Event.Take (session 2) (job 0)) Done.Plain
    ∷ line Event.Tick Done.Plain
    ∷ line (Event.EndNode (session 2) (node 0) EndAs.Used) Done.Plain
    ∷ [])

-- a ready node is not freed while its request exists, and is freed when its request is gone
abbrev pub freed_node : Story
freed_node = story plain_path.site (fate.withdrawn ∷ []) (
    plain_path.journal
    ++ line (Event.OpenSession (janitor 0)) (Done.Session (session 3))
    ∷ handed_over 1 3 0
    ++ refused (Event.FreeNode (session 3) (node 0)) (Refusal.Allocated (request 200 0))
    ∷ line (Event.Withdraw (session 2) (job 0)) Done.Plain
    ∷ line (Event.FreeNode (session 3) (node 0)) Done.Plain
    ∷ refused (Event.FreeNode (session 3) (node 0)) (Refusal.WrongState (Found.Node NodeState.Ready))
    ∷ refused (Event.MarkDeleting (session 3) (node 0)) (Refusal.NotDue 0)
    ∷ [])

-- a ready node is taken once, by a request that waits for it, when nobody holds it
abbrev pub nodes_that_are_not_free : Story
nodes_that_are_not_free = story (record (one_pool (a_job (codes "j") (label 0 ∷ []) ∷ a_job (codes "k") (label 0 ∷ label 0 ∷ []) ∷ [])) {
  labels = record (a_label (codes "a")) { min_ready = 1 } ∷ [];
}) (fate.waiting Phase.Asked ∷ fate.waiting Phase.Asked ∷ []) (
    take 3 plain_path.journal
    ++ line (Event.MinReady (session 1) (label 0)) (Done.Request (request 400 0))
    ∷ taken_up 1 (request 400 0)
    ++ provided 1 (request 400 0) 0 1
    ++ line (Event.Submit (session 2) (job 0)) (Done.Request (request 200 1))
    ∷ line (Event.Submit (session 2) (job 1)) (Done.Request (request 200 2))
    ∷ taken_up 1 (request 200 1)
    ++ refused (Event.TakeReady (session 1) (request 200 1) (node 0)) (Refusal.Busy (session 1))
    ∷ line (Event.UnlockNode (session 1) (node 0)) Done.Plain
    ∷ line (Event.TakeReady (session 1) (request 200 1) (node 0)) Done.Held
    ∷ refused (Event.TakeReady (session 1) (request 200 1) (node 0)) (Refusal.WrongState (Found.Request RequestState.Pending))
    ∷ taken_up 1 (request 200 2)
    ++ refused (Event.TakeReady (session 1) (request 200 2) (node 0)) (Refusal.Allocated (request 200 1))
    ∷ line (Event.Create (session 1) (request 200 2)) (Done.Node (node 1))
    ∷ refused (Event.TakeReady (session 1) (request 200 2) (node 1)) (Refusal.WrongState (Found.Node NodeState.Building))
    ∷ [])

-- a node that is given up during its launch is no longer in flight
abbrev pub deleted_during_a_launch : Story
deleted_during_a_launch = story plain_site (fate.waiting Phase.Asked ∷ []) (
    take 8 plain_path.journal
    ++ line (Event.OpenSession (janitor 0)) (Done.Session (session 3))
    ∷ handed_over 1 3 0
    ++ line (Event.MarkDeleting (session 3) (node 0)) Done.Plain
    ∷ handed_over 3 1 0
    ++ refused (Event.Done (session 1) (node 0) 1 (Outcome.Launched 1)) (Refusal.WrongState (Found.Node NodeState.Deleting))
    ∷ [])

-- a server is kept while its node is building or has it
abbrev pub swept_servers : Story
swept_servers = story plain_path.site (fate.waiting Phase.Asked ∷ []) (
    plain_path.journal
    ++ line (Event.OpenSession (janitor 0)) (Done.Session (session 3))
    ∷ refused (Event.Sweep (session 1) (node 0) 1) Refusal.WrongRole
    ∷ line (Event.Sweep (session 3) (node 0) 1) Done.Keep
    ∷ line (Event.Sweep (session 3) (node 0) 2) Done.Remove
    ∷ line (Event.Sweep (session 3) (node 0) 2) Done.Remove
    ∷ line (Event.Sweep (session 3) (node 7) 1) Done.Remove
    ∷ [])

-- any server that a building node may get is kept
abbrev pub swept_while_building : Story
swept_while_building = story plain_path.site (fate.waiting Phase.Asked ∷ []) (
    take 8 plain_path.journal
    ++ line (Event.OpenSession (janitor 0)) (Done.Session (session 3))
    ∷ line (Event.Sweep (session 3) (node 0) 1) Done.Keep
    ∷ line (Event.Sweep (session 3) (node 0) 9) Done.Keep
    ∷ refused (Event.Gone (session 3) (node 0)) Refusal.NotHeld
    ∷ refused (Event.FreeNode (session 3) (node 0)) Refusal.NotHeld
    ∷ line (Event.Expire (session 1)) Done.Plain
    ∷ line (Event.LockNode (session 3) (node 0)) Done.Held
    ∷ refused (Event.FreeNode (session 3) (node 0)) (Refusal.WrongState Found.InFlight)
    ∷ refused (Event.Gone (session 3) (node 0)) (Refusal.WrongState Found.InFlight)
    ∷ [])

-- a label is kept ready by all pools together, and not by each
abbrev pub kept_ready_by_all_pools : Story
kept_ready_by_all_pools = story (record (one_pool (a_job (codes "j") (label 0 ∷ []) ∷ [])) {
  labels = record (a_label (codes "a")) { min_ready = 1 } ∷ [];
  pools = a_pool 0 (codes "m") (offer 0 ∷ []) ∷ a_pool 0 (codes "n") (offer 0 ∷ []) ∷ [];
}) (fate.waiting Phase.Asked ∷ []) (
    take 3 plain_path.journal
    ++ registered 3 1
    ++ line (Event.MinReady (session 1) (label 0)) (Done.Request (request 400 0))
    ∷ refused (Event.MinReady (session 3) (label 0)) (Refusal.Enough 1)
    ∷ taken_up 1 (request 400 0)
    ++ line (Event.Create (session 1) (request 400 0)) (Done.Node (node 0))
    ∷ refused (Event.MinReady (session 3) (label 0)) (Refusal.Enough 1)
    ∷ tried 1 0 1 1 (Outcome.Launched 1)
    ++ line (Event.Fulfil (session 1) (request 400 0)) Done.Plain
    ∷ refused (Event.MinReady (session 3) (label 0)) (Refusal.Enough 1)
    ∷ line (Event.UnlockNode (session 1) (node 0)) Done.Plain
    ∷ asked 2 0 1 (request 200 1)
    ++ line (Event.TakeReady (session 1) (request 200 1) (node 0)) Done.Held
    ∷ line (Event.MinReady (session 3) (label 0)) (Done.Request (request 400 2))
    ∷ [])
