-- the place of each record and lock in the tree: its path, the directory that it is in, and its
-- name there (own)
use Rattle.std.specs.Prelude.{ℕ, ◌^◌, ◌<◌, List, [], ◌++◌, codes, Option, Some, None, ◌≡◌, ◌≤◌, true, length}
use Rattle.std.specs.Fmt.{decimal}
use Rattle.np_layout.specs.declared.place.Place.{Place}
use Rattle.np_layout.specs.declared.place.Place.TheVariants.{Root, Nodepool, Requests, Request, RequestLocks, RequestLock, RequestWait, Nodes, Node, NodeLock, NodeWait, Launchers, Launcher, Zuul, Semaphores, Semaphore, Handle, Poolsim, Jobs, Job, Roles, LauncherRole, JanitorRole, RequesterRole, Sessions, Session, SweptPairs, Swept, Tick}
use Rattle.std.specs.Ordering.{nat_cmp}
use Rattle.std.specs.Cmp.Lexicographic.{slice_cmp}
use Rattle.np_layout.specs.Lower.{HasText, NodeId, RequestId, SessionId, below, is_path, name_of, option_map, parent_of, request_cmp, request_text_of, ten_digits_of}

-- the path of a place (Nodepool developer guide: `/nodepool/requests/200-0000000000`; what is below `/poolsim` is own)
unfoldable pub path_of : Place → List ℕ
path_of Root = codes "/"
path_of Nodepool = codes "/nodepool"
path_of Requests = codes "/nodepool/requests"
path_of (Request id) = codes "/nodepool/requests/" ++ request_text_of id
path_of RequestLocks = codes "/nodepool/requests-lock"
path_of (RequestLock id) = codes "/nodepool/requests-lock/" ++ request_text_of id
path_of (RequestWait id wait) = codes "/nodepool/requests-lock/" ++ request_text_of id ++ codes "/lock-" ++ ten_digits_of wait
path_of Nodes = codes "/nodepool/nodes"
path_of (Node n) = codes "/nodepool/nodes/" ++ ten_digits_of n.0
path_of (NodeLock n) = codes "/nodepool/nodes/" ++ ten_digits_of n.0 ++ codes "/lock"
path_of (NodeWait n wait) = codes "/nodepool/nodes/" ++ ten_digits_of n.0 ++ codes "/lock/lock-" ++ ten_digits_of wait
path_of Launchers = codes "/nodepool/launchers"
path_of (Launcher p) = codes "/nodepool/launchers/" ++ decimal p.0
path_of Zuul = codes "/zuul"
path_of Semaphores = codes "/zuul/semaphores"
path_of (Semaphore x) = codes "/zuul/semaphores/" ++ decimal x.0
path_of (Handle x j) = codes "/zuul/semaphores/" ++ decimal x.0 ++ codes "/" ++ decimal j.0
path_of Poolsim = codes "/poolsim"
path_of Jobs = codes "/poolsim/jobs"
path_of (Job j) = codes "/poolsim/jobs/" ++ decimal j.0
path_of Roles = codes "/poolsim/roles"
path_of (LauncherRole p) = codes "/poolsim/roles/launcher-" ++ decimal p.0
path_of (JanitorRole p) = codes "/poolsim/roles/janitor-" ++ decimal p.0
path_of (RequesterRole q) = codes "/poolsim/roles/requester-" ++ decimal q.0
path_of Sessions = codes "/poolsim/sessions"
path_of (Session s) = codes "/poolsim/sessions/" ++ ten_digits_of s.0
path_of SweptPairs = codes "/poolsim/swept"
path_of (Swept n server) = codes "/poolsim/swept/" ++ ten_digits_of n.0 ++ codes "-" ++ decimal server
path_of Tick = codes "/poolsim/tick"

-- the place above: the directory or the node that a place is below. The root has none
abbrev pub above : Place → Option Place
above Root = None
above Nodepool = Some Root
above Requests = Some Nodepool
above (Request id) = Some Requests
above RequestLocks = Some Nodepool
above (RequestLock id) = Some RequestLocks
above (RequestWait id wait) = Some (RequestLock id)
above Nodes = Some Nodepool
above (Node n) = Some Nodes
above (NodeLock n) = Some (Node n)
above (NodeWait n wait) = Some (NodeLock n)
above Launchers = Some Nodepool
above (Launcher p) = Some Launchers
above Zuul = Some Root
above Semaphores = Some Zuul
above (Semaphore x) = Some Semaphores
above (Handle x j) = Some (Semaphore x)
above Poolsim = Some Root
above Jobs = Some Poolsim
above (Job j) = Some Jobs
above Roles = Some Poolsim
above (LauncherRole p) = Some Roles
above (JanitorRole p) = Some Roles
above (RequesterRole q) = Some Roles
above Sessions = Some Poolsim
above (Session s) = Some Sessions
above SweptPairs = Some Poolsim
above (Swept n server) = Some SweptPairs
above Tick = Some Poolsim

-- the name of a place among its siblings. The root's is empty
abbrev pub place_name : Place → List ℕ
place_name Root = []
place_name Nodepool = codes "nodepool"
place_name Requests = codes "requests"
place_name (Request id) = request_text_of id
place_name RequestLocks = codes "requests-lock"
place_name (RequestLock id) = request_text_of id
place_name (RequestWait id wait) = codes "lock-" ++ ten_digits_of wait
place_name Nodes = codes "nodes"
place_name (Node n) = ten_digits_of n.0
place_name (NodeLock n) = codes "lock"
place_name (NodeWait n wait) = codes "lock-" ++ ten_digits_of wait
place_name Launchers = codes "launchers"
place_name (Launcher p) = decimal p.0
place_name Zuul = codes "zuul"
place_name Semaphores = codes "semaphores"
place_name (Semaphore x) = decimal x.0
place_name (Handle x j) = decimal j.0
place_name Poolsim = codes "poolsim"
place_name Jobs = codes "jobs"
place_name (Job j) = decimal j.0
place_name Roles = codes "roles"
place_name (LauncherRole p) = codes "launcher-" ++ decimal p.0
place_name (JanitorRole p) = codes "janitor-" ++ decimal p.0
place_name (RequesterRole q) = codes "requester-" ++ decimal q.0
place_name Sessions = codes "sessions"
place_name (Session s) = ten_digits_of s.0
place_name SweptPairs = codes "swept"
place_name (Swept n server) = ten_digits_of n.0 ++ codes "-" ++ decimal server
place_name Tick = codes "tick"

-- the ids of a place have a text: a request's priority has three digits, and each number is in its type's range
abbrev pub IsGood : Place → Type 0
IsGood Root = Unit {0}
IsGood Nodepool = Unit {0}
IsGood Requests = Unit {0}
IsGood (Request id) = HasText id
IsGood RequestLocks = Unit {0}
IsGood (RequestLock id) = HasText id
IsGood (RequestWait id wait) = HasText id × (wait < 2 ^ 32)
IsGood Nodes = Unit {0}
IsGood (Node n) = n.0 < 2 ^ 32
IsGood (NodeLock n) = n.0 < 2 ^ 32
IsGood (NodeWait n wait) = (n.0 < 2 ^ 32) × (wait < 2 ^ 32)
IsGood Launchers = Unit {0}
IsGood (Launcher p) = p.0 < 2 ^ 16
IsGood Zuul = Unit {0}
IsGood Semaphores = Unit {0}
IsGood (Semaphore x) = x.0 < 2 ^ 16
IsGood (Handle x j) = (x.0 < 2 ^ 16) × (j.0 < 2 ^ 32)
IsGood Poolsim = Unit {0}
IsGood Jobs = Unit {0}
IsGood (Job j) = j.0 < 2 ^ 32
IsGood Roles = Unit {0}
IsGood (LauncherRole p) = p.0 < 2 ^ 16
IsGood (JanitorRole p) = p.0 < 2 ^ 16
IsGood (RequesterRole q) = q.0 < 2 ^ 16
IsGood Sessions = Unit {0}
IsGood (Session s) = s.0 < 2 ^ 32
IsGood SweptPairs = Unit {0}
IsGood (Swept n server) = (n.0 < 2 ^ 32) × (server < 2 ^ 64)
IsGood Tick = Unit {0}

-- what is true of all places whose ids have a text

-- ## paths and their parts

-- each path is in the grammar of paths
abbrev pub PathsAreInTheGrammar : Type 0
PathsAreInTheGrammar = (p : Place) → IsGood p → is_path (path_of p) ≡ true

-- a path is that of the place above, joined with the name below it
abbrev pub PathsAreJoined : Type 0
PathsAreJoined = (p dir : Place) → above p ≡ Some dir → path_of p ≡ below (path_of dir) (place_name p)

-- the parent of a path is the path of the place above
abbrev pub ParentsAreAbove : Type 0
ParentsAreAbove = (p : Place) → IsGood p → parent_of (path_of p) ≡ option_map path_of (above p)

-- the last element of a path is the place's name
abbrev pub NamesAreLast : Type 0
NamesAreLast = (p : Place) → IsGood p → name_of (path_of p) ≡ place_name p

-- if a place's ids have a text, so have those of the place above
abbrev pub AboveIsGood : Type 0
AboveIsGood = (p dir : Place) → IsGood p → above p ≡ Some dir → IsGood dir

-- ## no two places share a path

-- places with equal paths are equal
abbrev pub PathsAreApart : Type 0
PathsAreApart = (p q : Place) → IsGood p → IsGood q → path_of p ≡ path_of q → p ≡ q

-- siblings with equal names are equal
abbrev pub NamesAreApart : Type 0
NamesAreApart = (p q : Place) → IsGood p → IsGood q → above p ≡ above q → place_name p ≡ place_name q → p ≡ q

-- ## order

-- the records of requests are in the order of the requests
abbrev pub RequestsRise : Type 0
RequestsRise = (a b : RequestId) → HasText a → HasText b → slice_cmp nat_cmp (place_name (Request a)) (place_name (Request b)) ≡ request_cmp a b

-- and so are their locks
abbrev pub RequestLocksRise : Type 0
RequestLocksRise = (a b : RequestId) → HasText a → HasText b → slice_cmp nat_cmp (place_name (RequestLock a)) (place_name (RequestLock b)) ≡ request_cmp a b

-- the waits for a request's lock are in the order of their numbers
abbrev pub WaitsForRequestsRise : Type 0
WaitsForRequestsRise = (id : RequestId) (j k : ℕ) → j < 2 ^ 32 → k < 2 ^ 32 → slice_cmp nat_cmp (place_name (RequestWait id j)) (place_name (RequestWait id k)) ≡ nat_cmp j k

-- the records of nodes are in the order of their numbers
abbrev pub NodesRise : Type 0
NodesRise = (a b : NodeId) → a.0 < 2 ^ 32 → b.0 < 2 ^ 32 → slice_cmp nat_cmp (place_name (Node a)) (place_name (Node b)) ≡ nat_cmp a.0 b.0

-- and so are the waits for a node's lock
abbrev pub WaitsForNodesRise : Type 0
WaitsForNodesRise = (n : NodeId) (j k : ℕ) → j < 2 ^ 32 → k < 2 ^ 32 → slice_cmp nat_cmp (place_name (NodeWait n j)) (place_name (NodeWait n k)) ≡ nat_cmp j k

-- the records of sessions are in the order of their numbers
abbrev pub SessionsRise : Type 0
SessionsRise = (a b : SessionId) → a.0 < 2 ^ 32 → b.0 < 2 ^ 32 → slice_cmp nat_cmp (place_name (Session a)) (place_name (Session b)) ≡ nat_cmp a.0 b.0

-- ## length

-- a path has at most 54 bytes
abbrev pub PathsFit : Type 0
PathsFit = (p : Place) → IsGood p → length (path_of p) ≤ 54

-- the path of a wait for a request's lock has 54 bytes
abbrev pub LongestIsAWait : Type 0
LongestIsAWait = (id : RequestId) (wait : ℕ) → HasText id → wait < 2 ^ 32 → length (path_of (RequestWait id wait)) ≡ 54
