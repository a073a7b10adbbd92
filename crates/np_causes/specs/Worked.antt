-- worked cases: the facts that explain a wait, in states of worked journals
use Rattle.std.specs.Prelude.{ℕ, List, [], ◌∷◌, true, false}
use Rattle.np_causes.specs.Fact.{IsTrueOf}
use Rattle.np_causes.specs.declared.fact.Fact.{Fact}
use Rattle.np_causes.specs.Lower.{AllByRecursion, Amount, Configuration, Entry, NodeState, Phase, Reason, Role, SessionFacts, after_first, janitor, job, label, launcher, node, pool, request, requester, semaphore, session, tenant}

-- in the state after so many entries of a journal each of these facts is true
abbrev pub TrueAfter : ℕ → Configuration → List Entry → List Fact → Type 0
TrueAfter n c journal facts = AllByRecursion (IsTrueOf c (after_first n c journal)) facts

-- and there this one is not
abbrev pub FalseAfter : ℕ → Configuration → List Entry → Fact → Type 0
FalseAfter n c journal f = IsTrueOf c (after_first n c journal) f → ⊥

-- what is known of a session that is live, and of one that crashed
abbrev pub live : Role → SessionFacts
live role = record { role = role; live = true; mute = false }

abbrev pub crashed : Role → SessionFacts
crashed role = record { role = role; live = true; mute = true }

-- so many servers, each with one core
abbrev pub used : ℕ → ℕ → Amount
used servers ram = record { instances = servers; cores = servers; ram = ram }

-- j1 lacks x1, which j0 has
abbrev pub full_semaphore : List Fact
full_semaphore =
    Fact.InPhase (job 1) Phase.New
    ∷ Fact.OfRequester (job 1) (record { 0 = 0 })
    ∷ Fact.InWindow (job 1)
    ∷ Fact.Full (job 1) (semaphore 1)
    ∷ Fact.Current (requester 0) (session 1)
    ∷ Fact.Handles (semaphore 1) 1
    ∷ Fact.HasHandle (semaphore 1) (job 0)
    ∷ Fact.InPhase (job 0) Phase.New
    ∷ Fact.Supplied (job 0)
    ∷ []

-- the window of j1's requester has room for j0 alone
abbrev pub full_window : List Fact
full_window =
    Fact.InPhase (job 1) Phase.New
    ∷ Fact.OfRequester (job 1) (record { 0 = 0 })
    ∷ Fact.PastWindow (job 1) (job 0)
    ∷ Fact.Supplied (job 1)
    ∷ []

-- nobody acts for the requester, whose session crashed
abbrev pub silent_requester : List Fact
silent_requester =
    Fact.InPhase (job 0) Phase.Using
    ∷ Fact.OfRequester (job 0) (record { 0 = 0 })
    ∷ Fact.MayOpen (requester 0)
    ∷ Fact.Known (session 2) (crashed (requester 0))
    ∷ []

-- the launcher may take up the request
abbrev pub first_request : List Fact
first_request =
    Fact.InPhase (job 0) Phase.Asked
    ∷ Fact.Open (request 200 0)
    ∷ Fact.First (request 200 0) (pool 0)
    ∷ Fact.Registered (pool 0) (session 1)
    ∷ Fact.Known (session 1) (live (launcher 0))
    ∷ Fact.Idle (pool 0)
    ∷ []

-- the launcher has taken it up
abbrev pub taken_up : List Fact
taken_up = Fact.TakenUp (request 200 0) (session 1) ∷ Fact.Known (session 1) (live (launcher 0)) ∷ []

-- one pool declined the request, and no launcher is registered
abbrev pub nobody_registered : List Fact
nobody_registered =
    Fact.Open (request 200 0)
    ∷ Fact.Declined (request 200 0) (pool 0) (Reason.NoLabel (label 0))
    ∷ Fact.First (request 200 0) (pool 1)
    ∷ Fact.Unregistered (pool 1)
    ∷ Fact.MayOpen (launcher 1)
    ∷ []

-- the tenant has no room for the request
abbrev pub full_tenant : List Fact
full_tenant =
    Fact.Open (request 200 1)
    ∷ Fact.Blocked (request 200 1) (pool 0) (tenant 1)
    ∷ Fact.TenantUses (tenant 1) (used 2 2048)
    ∷ []

-- another request comes first, and the launcher is at work on a third
abbrev pub behind_another : List Fact
behind_another =
    Fact.Behind (request 200 3) (pool 0) (request 200 2)
    ∷ Fact.Busy (pool 0)
    ∷ Fact.Served (request 200 0) (session 1)
    ∷ Fact.Lacks (request 200 0) (label 0)
    ∷ []

-- the pool has no room, since its one server is of a node for another label, which its janitor holds
abbrev pub full_pool : List Fact
full_pool =
    Fact.InPhase (job 0) Phase.Asked
    ∷ Fact.Served (request 200 1) (session 1)
    ∷ Fact.NoRoom (request 200 1) (pool 0) (label 1)
    ∷ Fact.PoolUses (pool 0) (used 1 1024)
    ∷ Fact.Stands (node 0) NodeState.Ready 1
    ∷ Fact.Held (node 0) (session 2)
    ∷ Fact.Known (session 2) (live (janitor 0))
    ∷ Fact.Free (node 0)
    ∷ []

-- the node is launched for the second time
abbrev pub second_launch : List Fact
second_launch =
    Fact.Served (request 200 0) (session 1)
    ∷ Fact.Complete (request 200 0)
    ∷ Fact.Stands (node 0) NodeState.Building 2
    ∷ Fact.Held (node 0) (session 1)
    ∷ Fact.Allocated (node 0) (request 200 0)
    ∷ []

-- the launcher's session expired while its pool served the request
abbrev pub lost_launcher : List Fact
lost_launcher = Fact.Abandoned (request 200 0) ∷ Fact.MayOpen (janitor 0) ∷ []

-- the nodes are there, and the launcher holds the one that the requester has to take
abbrev pub not_taken : List Fact
not_taken =
    Fact.Fulfilled (request 200 0)
    ∷ Fact.OfRequester (job 0) (record { 0 = 0 })
    ∷ Fact.Current (requester 0) (session 2)
    ∷ Fact.Supplied (job 0)
    ∷ Fact.Stands (node 0) NodeState.Ready 1
    ∷ Fact.Held (node 0) (session 1)
    ∷ []
