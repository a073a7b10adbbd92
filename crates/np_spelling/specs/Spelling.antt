-- The one spelling of each record: compact JSON, keys in byte order, absent keys left out (own).
use Rattle.std.specs.Prelude.{Bool, true, false, ◌≤◌, ◌<◌, ◌^◌, ℕ, ◌≡◌, ◌⊎◌, List, [], ◌∷◌, ◌++◌, length, take, codes, Option, Some, None, IfSome}
use Rattle.std.specs.Fmt.{decimal}
use Rattle.std.specs.List.{AllByRecursion}
use Rattle.np_spelling.specs.Lower.{Declined, Ending, HasText, JOB_LABELS, JobId, JobRecord, LabelId, Marked, NodeId, NodeRecord, POOLS, Phase, PoolId, Reason, RequestId, RequestRecord, RequestState, Role, RoleKind, RoleRecord, SessionRecord, TenantId, ending_word, node_state_word, phase_word, reason_text_of, request_state_word, request_text_of, role_kind_word}

-- these texts, one after the other
abbrev pub joined : List (List ℕ) → List ℕ
joined [] = []
joined (text ∷ texts) = text ++ joined texts

-- ## Lists

-- what follows an item of a list: the further items, each after a comma, and the bracket
abbrev pub rest_text : {A : Type 0} → (A → List ℕ) → List A → List ℕ
rest_text text [] = codes "]"
rest_text text (x ∷ xs) = joined (codes "," ∷ text x ∷ rest_text text xs ∷ [])

-- a list in brackets
abbrev pub list_text : {A : Type 0} → (A → List ℕ) → List A → List ℕ
list_text text [] = codes "[]"
list_text text (x ∷ xs) = joined (codes "[" ∷ text x ∷ rest_text text xs ∷ [])

-- ## Roles

abbrev pub role_text : RoleRecord → List ℕ
role_text r = joined (
    codes "{\"acts\":" ∷ decimal r.acts ∷
    codes ",\"starts\":" ∷ decimal r.starts ∷
    codes ",\"strikes\":" ∷ decimal r.strikes ∷
    codes "}" ∷ [])

-- the numbers are within their types
pub record IsRole (r : RoleRecord) : Type 0 where
  pub acts : r.acts < 2 ^ 32
  pub starts : r.starts < 2 ^ 32
  pub strikes : r.strikes < 2 ^ 32

abbrev pub SpellsRole : RoleRecord → List ℕ → Type 0
SpellsRole r bytes = IsRole r × (bytes ≡ role_text r)

-- ## Sessions

abbrev pub flag_text : Bool → List ℕ
flag_text true = codes "true"
flag_text false = codes "false"

-- the role's kind, a dash and the number of its pool or requester; the reaper has no session
abbrev pub role_name : Role → List ℕ
role_name (Role.Launcher p) = joined (role_kind_word RoleKind.Launcher ∷ codes "-" ∷ decimal p.0 ∷ [])
role_name (Role.Janitor p) = joined (role_kind_word RoleKind.Janitor ∷ codes "-" ∷ decimal p.0 ∷ [])
role_name (Role.Requester q) = joined (role_kind_word RoleKind.Requester ∷ codes "-" ∷ decimal q.0 ∷ [])
role_name Role.Reaper = []

abbrev pub session_text : SessionRecord → List ℕ
session_text s = joined (
    codes "{\"mute\":" ∷ flag_text s.mute ∷
    codes ",\"role\":\"" ∷ role_name s.role ∷
    codes "\"}" ∷ [])

-- the role may have a session
abbrev pub IsSessionRole : Role → Type 0
IsSessionRole (Role.Launcher p) = p.0 < 2 ^ 16
IsSessionRole (Role.Janitor p) = p.0 < 2 ^ 16
IsSessionRole (Role.Requester q) = q.0 < 2 ^ 16
IsSessionRole Role.Reaper = ⊥

abbrev pub IsSession : SessionRecord → Type 0
IsSession s = IsSessionRole s.role

abbrev pub SpellsSession : SessionRecord → List ℕ → Type 0
SpellsSession s bytes = IsSession s × (bytes ≡ session_text s)

-- ## Nodes

-- what comes before the attempts: the request that the node is allocated to, if any
abbrev pub node_front : Option RequestId → List ℕ
node_front None = codes "{\"attempts\":"
node_front (Some id) = joined (codes "{\"allocated-to\":\"" ∷ request_text_of id ∷ codes "\",\"attempts\":" ∷ [])

-- what comes between the pool and the tick: the server, if any
abbrev pub node_server : Option ℕ → List ℕ
node_server None = codes ",\"since\":"
node_server (Some server) = joined (codes ",\"server\":" ∷ decimal server ∷ codes ",\"since\":" ∷ [])

-- the end of a record with a tenant: a number, or none
abbrev pub node_tenant : Option TenantId → List ℕ
node_tenant None = codes ",\"tenant\":\"none\"}"
node_tenant (Some t) = joined (codes ",\"tenant\":" ∷ decimal t.0 ∷ codes "}" ∷ [])

-- a node's record with this end
abbrev pub node_text_to : List ℕ → NodeRecord → List ℕ
node_text_to end n = joined (
    node_front n.allocated_to ∷ decimal n.attempts ∷
    codes ",\"in-flight\":" ∷ flag_text n.in_flight ∷
    codes ",\"label\":" ∷ decimal n.label.0 ∷
    codes ",\"pool\":" ∷ decimal n.pool.0 ∷
    node_server n.server ∷ decimal n.since ∷
    codes ",\"start\":" ∷ decimal n.start ∷
    codes ",\"state\":\"" ∷ node_state_word n.state ∷
    codes "\"" ∷ end ∷ [])

abbrev pub node_text : NodeRecord → List ℕ
node_text n = node_text_to (node_tenant n.tenant) n

-- the tenant `default`
abbrev pub default_tenant : Option TenantId
default_tenant = Some (record { 0 = 0 })

-- numbers are within their types, and a request has three digits
pub record IsNode (n : NodeRecord) : Type 0 where
  pub allocated_to : IfSome n.allocated_to HasText
  pub attempts : n.attempts < 2 ^ 8
  pub label : n.label.0 < 2 ^ 16
  pub pool : n.pool.0 < 2 ^ 16
  pub server : IfSome n.server (λ server. server < 2 ^ 64)
  pub since : n.since < 2 ^ 32
  pub start : n.start < 2 ^ 32
  pub tenant : IfSome n.tenant (λ t. t.0 < 2 ^ 16)

-- the record with its tenant, last; or the one from before there were tenants, which means the
-- tenant `default`
abbrev pub SpellsNode : NodeRecord → List ℕ → Type 0
SpellsNode n bytes = IsNode n × ((bytes ≡ node_text n) ⊎ ((n.tenant ≡ default_tenant) × (bytes ≡ node_text_to (codes "}") n)))

-- ## Items of lists

abbrev pub label_text : LabelId → List ℕ
label_text l = decimal l.0

abbrev pub IsLabel : LabelId → Type 0
IsLabel l = l.0 < 2 ^ 16

abbrev pub node_id_text : NodeId → List ℕ
node_id_text n = decimal n.0

abbrev pub IsNodeId : NodeId → Type 0
IsNodeId n = n.0 < 2 ^ 32

-- a node of a job, and whether the requester is done with it
abbrev pub marked_text : Marked → List ℕ
marked_text m = joined (codes "[" ∷ decimal m.node.0 ∷ codes "," ∷ flag_text m.ended ∷ codes "]" ∷ [])

abbrev pub IsMarked : Marked → Type 0
IsMarked m = m.node.0 < 2 ^ 32

abbrev pub IsReason : Reason → Type 0
IsReason (Reason.NoLabel l) = l.0 < 2 ^ 16
IsReason Reason.NeverFits = Unit {0}
IsReason Reason.TenantNeverFits = Unit {0}
IsReason (Reason.Spent n) = n.0 < 2 ^ 32

-- a pool, and why it declined
abbrev pub declined_text : Declined → List ℕ
declined_text d = joined (codes "[" ∷ decimal d.pool.0 ∷ codes ",\"" ∷ reason_text_of d.reason ∷ codes "\"]" ∷ [])

pub record IsDeclined (d : Declined) : Type 0 where
  pub pool : d.pool.0 < 2 ^ 16
  pub reason : IsReason d.reason

-- ## Jobs

-- what comes before the nodes: how the job ended, if it is over
abbrev pub job_front : Option Ending → List ℕ
job_front None = codes "{\"nodes\":"
job_front (Some e) = joined (codes "{\"ending\":\"" ∷ ending_word e ∷ codes "\",\"nodes\":" ∷ [])

-- what follows the phase: the pool and the request, if there are any
abbrev pub job_end : Option PoolId → Option RequestId → List ℕ
job_end None None = codes "}"
job_end None (Some id) = joined (codes ",\"request\":\"" ∷ request_text_of id ∷ codes "\"}" ∷ [])
job_end (Some p) None = joined (codes ",\"pool\":" ∷ decimal p.0 ∷ codes "}" ∷ [])
job_end (Some p) (Some id) = joined (codes ",\"pool\":" ∷ decimal p.0 ∷ codes ",\"request\":\"" ∷ request_text_of id ∷ codes "\"}" ∷ [])

abbrev pub job_text : JobRecord → List ℕ
job_text j = joined (
    job_front j.ending ∷ list_text marked_text j.nodes ∷
    codes ",\"phase\":\"" ∷ phase_word j.phase ∷ codes "\"" ∷
    job_end j.pool j.request ∷ [])

-- there is an ending if and only if the job is over
abbrev pub EndsIn : Phase → Option Ending → Type 0
EndsIn Phase.Over (Some e) = Unit {0}
EndsIn Phase.Over None = ⊥
EndsIn p (Some e) = ⊥
EndsIn p None = Unit {0}

-- an asked job has a request, and one that was ever using nodes has a pool too
abbrev pub HasParts : Phase → Option PoolId → Option RequestId → Type 0
HasParts Phase.New None None = Unit {0}
HasParts Phase.New pool request = ⊥
HasParts Phase.Asked None (Some id) = Unit {0}
HasParts Phase.Asked pool request = ⊥
HasParts Phase.Using (Some p) (Some id) = Unit {0}
HasParts Phase.Using pool request = ⊥
HasParts Phase.Over (Some p) None = ⊥
HasParts Phase.Over pool request = Unit {0}

pub record IsJob (j : JobRecord) : Type 0 where
  pub ending : EndsIn j.phase j.ending
  pub parts : HasParts j.phase j.pool j.request
  pub few : length j.nodes ≤ JOB_LABELS
  pub nodes : AllByRecursion IsMarked j.nodes
  pub pool : IfSome j.pool (λ p. p.0 < 2 ^ 16)
  pub request : IfSome j.request HasText

abbrev pub SpellsJob : JobRecord → List ℕ → Type 0
SpellsJob j bytes = IsJob j × (bytes ≡ job_text j)

-- ## Requests

-- what comes between the declines and the labels: the job, if one made the request
abbrev pub request_job : Option JobId → List ℕ
request_job None = codes ",\"labels\":"
request_job (Some j) = joined (codes ",\"job\":" ∷ decimal j.0 ∷ codes ",\"labels\":" ∷ [])

-- the pool of a min-ready request
abbrev pub request_pinned : Option PoolId → List ℕ
request_pinned None = []
request_pinned (Some p) = joined (codes ",\"pinned\":" ∷ decimal p.0 ∷ [])

-- what comes before the relative priority: the pool that serves the request, if any
abbrev pub request_pool : Option PoolId → List ℕ
request_pool None = codes ",\"relative-priority\":"
request_pool (Some p) = joined (codes ",\"pool\":" ∷ decimal p.0 ∷ codes ",\"relative-priority\":" ∷ [])

abbrev pub request_record_text : RequestRecord → List ℕ
request_record_text r = joined (
    codes "{\"declined\":" ∷ list_text declined_text r.declined ∷
    request_job r.job ∷ list_text label_text r.labels ∷
    codes ",\"nodes\":" ∷ list_text node_id_text r.nodes ∷
    request_pinned r.pinned ∷ request_pool r.pool ∷ decimal r.relative_priority ∷
    codes ",\"state\":\"" ∷ request_state_word r.state ∷
    codes "\"}" ∷ [])

-- a job made the request, or a pool did for itself: exactly one of the two
abbrev pub IsAsked : Option JobId → Option PoolId → Type 0
IsAsked (Some j) None = j.0 < 2 ^ 32
IsAsked None (Some p) = p.0 < 2 ^ 16
IsAsked (Some j) (Some p) = ⊥
IsAsked None None = ⊥

-- a pool serves the request if and only if it is pending or fulfilled
abbrev pub IsServed : RequestState → Option PoolId → Type 0
IsServed RequestState.Requested None = Unit {0}
IsServed RequestState.Failed None = Unit {0}
IsServed RequestState.Pending (Some p) = p.0 < 2 ^ 16
IsServed RequestState.Fulfilled (Some p) = p.0 < 2 ^ 16
IsServed RequestState.Requested (Some p) = ⊥
IsServed RequestState.Failed (Some p) = ⊥
IsServed RequestState.Pending None = ⊥
IsServed RequestState.Fulfilled None = ⊥

pub record IsRequest (r : RequestRecord) : Type 0 where
  pub few_declined : length r.declined ≤ POOLS
  pub declined : AllByRecursion IsDeclined r.declined
  pub asked : IsAsked r.job r.pinned
  pub few_labels : length r.labels ≤ JOB_LABELS
  pub labels : AllByRecursion IsLabel r.labels
  pub few_nodes : length r.nodes ≤ JOB_LABELS
  pub nodes : AllByRecursion IsNodeId r.nodes
  pub served : IsServed r.state r.pool
  pub relative_priority : r.relative_priority < 2 ^ 32

abbrev pub SpellsRequest : RequestRecord → List ℕ → Type 0
SpellsRequest r bytes = IsRequest r × (bytes ≡ request_record_text r)

-- ## Where bytes stop being the beginning of a spelling

-- some spelling begins with these bytes
abbrev pub Begins : {V : Type 0} → (V → List ℕ → Type 0) → List ℕ → Type 0
Begins {V} Spells front = (v : V) × (rest : List ℕ) × Spells v (front ++ rest)

-- the longest prefix of the bytes with which some spelling begins has this length
pub record StopsAt {V : Type 0} (Spells : V → List ℕ → Type 0) (bytes : List ℕ) (place : ℕ) : Type 0 where
  pub within : place ≤ length bytes
  pub begins : Begins Spells (take place bytes)
  pub no_further : (longer : ℕ) → place < longer → longer ≤ length bytes → Begins Spells (take longer bytes) → ⊥
