-- the planned events, and their spots: what of the tree the judgement of each reads
use Rattle.std.specs.Prelude.{ℕ, List, [], ◌∷◌, ◌++◌, codes, map, Option, Some, None, ◌≡◌, true, is_ok}
use Rattle.np_planned.specs.declared.spot.Spot.{Spot}
use Rattle.np_planned.specs.Lower.{AreFreshPaths, Configuration, Entry, Event, IsStored, NodeId, Place, Reason, RequestId, Role, Runs, Since, State, TreeState, below, is_planned, judge, option_map_or, path_of, request_in, role_of}

-- ## one spot

-- the place of the record or registration, or the directory of the lock
abbrev pub place_of : Spot → Place
place_of (Spot.Session session) = Place.Session session
place_of (Spot.Launcher p) = Place.Launcher p
place_of (Spot.Request r) = Place.Request r
place_of (Spot.RequestLock r) = Place.RequestLock r
place_of (Spot.Node n) = Place.Node n
place_of (Spot.NodeLock n) = Place.NodeLock n

-- the path at which a spot is tested: for a lock one below its directory that is never there, so that the
-- sessions that wait are tested (own)
abbrev pub path_at : Spot → List ℕ
path_at (Spot.Session session) = path_of (Place.Session session)
path_at (Spot.Launcher p) = path_of (Place.Launcher p)
path_at (Spot.Request r) = path_of (Place.Request r)
path_at (Spot.RequestLock r) = below (path_of (Place.RequestLock r)) (codes "lock-")
path_at (Spot.Node n) = path_of (Place.Node n)
path_at (Spot.NodeLock n) = below (path_of (Place.NodeLock n)) (codes "lock-")

abbrev pub paths_at : List Spot → List (List ℕ)
paths_at spots = map path_at spots

-- ## the spots of an event

-- a request's record, and then its lock
abbrev pub of_request : RequestId → List Spot
of_request r = Spot.Request r ∷ Spot.RequestLock r ∷ []

-- a node's record, and then its lock
abbrev pub of_node : NodeId → List Spot
of_node n = Spot.Node n ∷ Spot.NodeLock n ∷ []

-- the record and then the lock of each node
abbrev pub of_nodes : List NodeId → List Spot
of_nodes [] = []
of_nodes (n ∷ numbers) = Spot.Node n ∷ Spot.NodeLock n ∷ of_nodes numbers

-- the registration of the launcher's pool
abbrev pub of_role : Option Role → List Spot
of_role (Some (Role.Launcher p)) = Spot.Launcher p ∷ []
of_role (Some (Role.Janitor p)) = []
of_role (Some (Role.Requester q)) = []
of_role (Some Role.Reaper) = []
of_role None = []

-- the record of the node of the reason, if it has one
abbrev pub of_reason : Reason → List Spot
of_reason (Reason.NoLabel l) = []
of_reason Reason.NeverFits = []
of_reason Reason.TenantNeverFits = []
of_reason (Reason.Spent n) = Spot.Node n ∷ []

-- the nodes in a request's list
abbrev pub listed : RequestId → State → List NodeId
listed r s = option_map_or (λ request. request.nodes) (request_in r s.requests) []

-- what the judgement of a planned event reads in a state, beside the configuration and the answer's numbers (own)
abbrev pub spots_of : State → Event → List Spot
spots_of s (Event.Start session n) = Spot.Session session ∷ of_node n
spots_of s (Event.UnlockNode session n) = Spot.Session session ∷ of_node n
spots_of s (Event.UnlockRequest session r) = Spot.Session session ∷ of_request r
spots_of s (Event.Decline session r why) = Spot.Session session ∷ of_role (role_of session s) ++ of_request r ++ of_reason why
spots_of s (Event.TakeReady session r n) = Spot.Session session ∷ of_role (role_of session s) ++ of_request r ++ of_node n
spots_of s (Event.Fulfil session r) = Spot.Session session ∷ of_role (role_of session s) ++ of_request r ++ of_nodes (listed r s)
spots_of s _ = []

-- what was planned over a tree is accepted over a later one where the spots are fresh

-- an event that was accepted in the state of a tree is accepted in the state of a later tree, which a run leads to, if the
-- event's spots are there as they were
abbrev pub FreshCommits : Type 0
FreshCommits = (c : Configuration) (journal : List Entry) (s u : State) (t v : TreeState) (z : ℕ) (e : Event) → Runs c journal u → IsStored c s t → IsStored c u v → Since z t v →
    AreFreshPaths z v (paths_at (spots_of s e)) → is_planned e ≡ true → is_ok (judge c s e) ≡ true → is_ok (judge c u e) ≡ true
