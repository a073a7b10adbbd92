-- parts that go from a tree of one state to a tree of another, joined to the parts of a call
use Rattle.np_layout.proofs.Prelude.{AllByRecursion, AreDistinct, Bool, Changes, Configuration, Declined, Deed, DeedsEnact, EditPremise, EmptiesRequest, Enacts, Ending, Expect, Gains, Goes, Growth, HandlesChange, HandlesEnact, HasGoodIds, HasRoomFor, HasSpellings, HasText, IfSome, IsApart, IsAsked, IsDeclined, IsGood, IsJob, IsLabel, IsMade, IsMarked, IsNode, IsNodeId, IsOk, IsPart, IsReady, IsReason, IsRequest, IsRole, IsServed, IsSessionRole, IsTaken, IsWhole, JobId, JobRecord, JobsEnact, LabelId, Launcher, List, Maker, Marked, Mode, NodeEntry, NodeId, NodePlace, NodeRecord, NodeState, NodesChange, NodesEnact, NodesPremise, NodesReady, None, Op, OpDone, Option, PartsLayOut, Phase, Place, PoolId, Premises, Reason, Registration, Request, RequestEdit, RequestEntry, RequestId, RequestRecord, RequestState, RequestsChange, RequestsEnact, RequestsPremise, Result, Role, RoleRecord, Row, SessionFacts, SessionId, SessionReady, SessionsChange, SessionsEnact, SetLaysOut, Some, Stands, State, TenantId, TicksEnact, TreeRefusal, TreeState, WaitOnce, [], after_begin, after_create_under, after_end, after_loss, after_multi, after_part, after_parts, all-change_first, all-filter, all-mapped, all-weaker, ap, ap₂, arith, at_path, change_node, change_session, checks-leave-the-tree, children_of, codes, cond, decimal-short, declined_text, deed_parts, delete, ended, ending_word, ends-show, false, filter, flag_text, goes-after, goes-joined, goes-under-one-number, goes-whole, grown, grown_parts, handles_changed, handles_parts, in_call, inl, inr, is_at, is_check, is_in, is_kept, is_owned, is_path-below, is_pool, is_request, is_session, job_end, job_front, job_text, jobs-grown, jobs_changed, jobs_parts, label_text, length, length-append, length-change_at, length-children-paths, length-filter_at_most, length-map, list_any, list_any-append, list_text, lit≤, low-min, map, marked_text, name_of, next_change, node_front, node_id_text, node_left, node_server, node_state_word, node_tenant, node_text, nodes_changed, nodes_parts, not, parent_of, part_answer, parts-change_nodes_alone, path_of, paths_of-change_node, phase_word, reason_text_of, refl, remove-alone, request_job, request_left, request_pinned, request_pool, request_record_text, request_state_word, requests_changed, requests_parts, rest_text, role_name, role_text, row_of, rows-without, rows_at, rows_in, session_parts, session_text, sessions_changed, set, settled_parts, subst, sym, tick_parts, true, wait_at, where_found, with_begin, with_deeds, with_new_child, without_child, without_child_above, without_node, without_session, writer, ℕ, ◌*◌, ◌++◌, ◌+◌, ◌-◌, ◌<◌, ◌==◌, ◌^◌, ◌||◌, ◌∙◌, ◌∷◌, ◌≡◌, ◌≤◌, ◌⊎◌}
pub use Rattle.np_layout.proofs.FirstTrees.{room-after}
use Rattle.np_layout.proofs.Names.{is_path-of, length-four, length-request, length-two}
use Rattle.np_changes.specs.Prelude.{role_in}
use Rattle.np_layout.specs.Prelude.{Node}
use Rattle.np_layout.proofs.Elsewhere.{same-lays}

-- # parts that go from a tree of one state to a tree of another, joined and made

-- ## room

-- where there is room for more parts there is for fewer
pub room-less : (t : TreeState) (more less : ℕ) → less ≤ more → HasRoomFor more t → HasRoomFor less t
room-less t more less fewer room = record {
  change = room.change;
  versions = all-weaker (λ (n : Node). n.facts.version + more ≤ 18_446_744_073_709_551_615) (λ (n : Node). n.facts.version + less ≤ 18_446_744_073_709_551_615) (λ n low. omega arith) t.nodes room.versions;
  counters = all-weaker (λ (n : Node). n.facts.counter + more ≤ 2_147_483_648) (λ (n : Node). n.facts.counter + less ≤ 2_147_483_648) (λ n low. omega arith) t.nodes room.counters;
  rows = λ dir. let low = room.rows dir in omega arith;
  few = let low = room.few in omega arith;
}

pub stands-less : (s : State) (t : TreeState) (w more less : ℕ) → less ≤ more → Stands s t w more → Stands s t w less
stands-less s t w more less fewer stands = record { whole = stands.whole; good = stands.good; lays = stands.lays; live = stands.live; room = room-less t more less fewer stands.room }

-- ## parts joined

pub enacts-none : (s : State) (t : TreeState) (w more : ℕ) → Stands s t w more → Enacts t w [] s more
enacts-none s t w more stands = record { goes = refl; leaves = stands }

pub enacts-joined : (s last : State) (t : TreeState) (w : ℕ) (parts rest : List Op) (more least : ℕ) → Enacts t w parts s more → Enacts (after_parts t w parts) w rest last least → Enacts t w (parts ++ rest) last least
enacts-joined s last t w parts rest more least first later =
    let goes = goes-joined t (after_parts t w parts) (after_parts (after_parts t w parts) w rest) w parts rest first.goes later.goes in
    let same : after_parts (after_parts t w parts) w rest ≡ after_parts t w (parts ++ rest) = sym (goes-after t (after_parts (after_parts t w parts) w rest) w (parts ++ rest) goes) in
    record {
      goes = subst (λ (u : TreeState). Goes t w (parts ++ rest) u) same goes;
      leaves = subst (λ (u : TreeState). Stands last u w least) same later.leaves;
    }

-- ## the parts of a law of the layout

-- parts do not change which sessions are live
pub live-after : (t : TreeState) (w : ℕ) (parts : List Op) → (after_parts t w parts).live ≡ t.live
live-after t w [] = refl
live-after t w (part ∷ parts) = live-after (after_part t w part) w parts ∙ ap (λ (u : TreeState). u.live) (parts-change_nodes_alone t w part)

stands-after : (later : State) (t : TreeState) (w : ℕ) (parts : List Op) (more : ℕ) → IsWhole t.nodes → is_in t.live w ≡ true → HasGoodIds later → AllByRecursion IsPart parts → PartsLayOut later t w parts → HasRoomFor more (after_parts t w parts) → Enacts t w parts later more
stands-after later t w parts more whole live good proper lays room =
    let whole_later = goes-whole t (after_parts t w parts) w parts whole proper lays.goes in
    let live_later : is_in (after_parts t w parts).live w ≡ true = ap (λ (known : List ℕ). is_in known w) (live-after t w parts) ∙ live in
    record { goes = lays.goes; leaves = assumption lays }

-- so parts of a law of the layout are enacted
pub enacts-parts : (s later : State) (t : TreeState) (w : ℕ) (parts : List Op) (more : ℕ) → Stands s t w (length parts + more) → HasGoodIds later → AllByRecursion IsPart parts → PartsLayOut later t w parts → Enacts t w parts later more
enacts-parts s later t w parts more stands good proper lays =
    stands-after later t w parts more stands.whole stands.live good proper lays (room-after t w parts more stands.room)

-- ## parts that name a good place

pub part-create : (p : Place) (bytes : List ℕ) (mode : Mode) → IsGood p → IsPart (Op.Create (path_of p) bytes mode)
part-create p bytes mode good = record { path = is_path-of p good; numbered = refl }

pub part-delete : (p : Place) → IsGood p → IsPart (delete p)
part-delete p good = record { path = is_path-of p good; numbered = refl }

pub part-wait : (lock : Place) → IsGood lock → IsPart (wait_at lock)
part-wait lock good = record { path = is_path-below (path_of lock) (codes "lock-") (is_path-of lock good) refl; numbered = refl }

-- a set takes the room of one
pub enacts-set : (s later : State) (t : TreeState) (w : ℕ) (p : Place) (bytes : List ℕ) (more : ℕ) → Stands s t w (more + 1) → IsGood p → HasGoodIds later → length bytes ≤ 65_536 → SetLaysOut later t p bytes → Enacts t w (set bytes p ∷ []) later more
enacts-set s later t w p bytes more stands good_place good short lays =
    enacts-parts s later t w (set bytes p ∷ []) more (stands-less s t w (more + 1) (1 + more) (omega arith) stands) good (record { path = is_path-of p good_place; numbered = refl }, tt)
    (record { goes = (lays.goes w stands.live short (room-less t (more + 1) 1 (omega arith) stands.room), refl); lays = lays.lays w })

-- ## deletes take no room

abbrev pub IsDelete : Op → Type 0
IsDelete (Op.Delete path expect) = Unit {0}
IsDelete other = ⊥

rows-change : (dir path : List ℕ) (z : ℕ) (nodes : List Node) → length (rows_in dir (change_node path (without_child z) nodes)) ≡ length (rows_in dir nodes)
rows-change dir path z nodes =
    length-map (children_of (change_node path (without_child z) nodes) dir) row_of
    ∙ length-children-paths dir (change_node path (without_child z) nodes) nodes (paths_of-change_node path (without_child z) (λ _. refl) nodes)
    ∙ sym (length-map (children_of nodes dir) row_of)

-- the nodes alone
record NodesHave (more : ℕ) (nodes : List Node) : Type 0 where
  versions : AllByRecursion (λ n. n.facts.version + more ≤ 18_446_744_073_709_551_615) nodes
  counters : AllByRecursion (λ n. n.facts.counter + more ≤ 2_147_483_648) nodes
  rows : (dir : List ℕ) → length (rows_in dir nodes) + more ≤ 4_294_967_295

above-stays : (more z : ℕ) (o : Option (List ℕ)) (nodes : List Node) → NodesHave more nodes → NodesHave more (without_child_above z o nodes)
above-stays more z None nodes room = room
above-stays more z (Some above) nodes room = record {
  versions = all-change_first (λ (n : Node). n.facts.version + more ≤ 18_446_744_073_709_551_615) (is_at above) (without_child z) nodes (λ n low. low) room.versions;
  counters = all-change_first (λ (n : Node). n.facts.counter + more ≤ 2_147_483_648) (is_at above) (without_child z) nodes (λ n low. low) room.counters;
  rows = λ dir. let low = room.rows dir in let same = rows-change dir above z nodes in omega arith;
}

without-stays : (more : ℕ) (path : List ℕ) (nodes : List Node) → NodesHave more nodes → NodesHave more (without_node path nodes)
without-stays more path nodes room = record {
  versions = all-filter (λ (n : Node). n.facts.version + more ≤ 18_446_744_073_709_551_615) (λ n. not (is_at path n)) nodes room.versions;
  counters = all-filter (λ (n : Node). n.facts.counter + more ≤ 2_147_483_648) (λ n. not (is_at path n)) nodes room.counters;
  rows = λ dir. let low = room.rows dir in let fewer = rows-without dir path nodes in omega arith;
}

room-deletes : (t : TreeState) (w more : ℕ) (parts : List Op) → AllByRecursion IsDelete parts → HasRoomFor more t → HasRoomFor more (after_parts t w parts)
room-deletes t w more [] all room = room
room-deletes t w more (Op.Delete path expect ∷ parts) all room =
    let nodes = without-stays more path (without_child_above (next_change t) (parent_of path) t.nodes) (above-stays more (next_change t) (parent_of path) t.nodes (record { versions = room.versions; counters = room.counters; rows = room.rows })) in
    room-deletes (after_part t w (Op.Delete path expect)) w more parts all.1 (record { change = room.change; versions = nodes.versions; counters = nodes.counters; rows = nodes.rows; few = room.few })
room-deletes t w more (other ∷ parts) all room = absurd all.0

pub enacts-deletes : (s later : State) (t : TreeState) (w : ℕ) (parts : List Op) (more : ℕ) → Stands s t w more → HasGoodIds later → AllByRecursion IsPart parts → AllByRecursion IsDelete parts → PartsLayOut later t w parts → Enacts t w parts later more
enacts-deletes s later t w parts more stands good proper deletes lays =
    stands-after later t w parts more stands.whole stands.live good proper lays (room-deletes t w more parts deletes stands.room)

-- # how long the records' texts are: each fits the bytes of a node

-- ## lists of short items

module _ {A : Type 0} (P : A → Type 0) (text : A → List ℕ) (short : (a : A) → P a → length (text a) ≤ 31) where
  rest-short : (list : List A) → AllByRecursion P list → length (rest_text text list) ≤ 1 + 32 * length list
  rest-short [] all = lit≤ tt
  rest-short (a ∷ list) all = simp length-append (omega (arith, short a all.0, rest-short list all.1))

  -- the brackets, and a comma with each item
  pub list-short : (list : List A) → AllByRecursion P list → length (list_text text list) ≤ 2 + 32 * length list
  list-short [] all = lit≤ tt
  list-short (a ∷ list) all = simp length-append (omega (arith, short a all.0, rest-short list all.1))

-- ## words

flag-short : (b : Bool) → length (flag_text b) ≤ 5
flag-short b = grind arith

request_state-short : (s : RequestState) → length (request_state_word s) ≤ 9
request_state-short s = grind arith

node_state-short : (s : NodeState) → length (node_state_word s) ≤ 9
node_state-short s = grind arith

phase-short : (p : Phase) → length (phase_word p) ≤ 9
phase-short p = grind arith

ending-short : (e : Ending) → length (ending_word e) ≤ 9
ending-short e = grind arith

reason-short : (r : Reason) → IsReason r → length (reason_text_of r) ≤ 17
reason-short r is = grind (arith, length-append, length-two, length-four)

-- ## roles and sessions

-- a role's text fits a node
pub role-short : (r : RoleRecord) → IsRole r → length (role_text r) ≤ 65_536
role-short r is = simp length-append (omega (arith, length-four r.acts is.acts, length-four r.starts is.starts, length-four r.strikes is.strikes))

role_name-short : (r : Role) → IsSessionRole r → length (role_name r) ≤ 20
role_name-short r is = grind (arith, length-append, length-two)

-- so does a session's
pub session-short : (mute : Bool) (role : Role) → IsSessionRole role → length (session_text (record { mute = mute; role = role })) ≤ 65_536
session-short mute role is = simp length-append (omega (arith, flag-short mute, role_name-short role is))

-- ## nodes

node_front-short : (o : Option RequestId) → IfSome o HasText → length (node_front o) ≤ 60
node_front-short o is = grind (arith, length-append, length-request)

node_server-short : (o : Option ℕ) → IfSome o (λ server. server < 2 ^ 64) → length (node_server o) ≤ 60
node_server-short o is = grind (arith, length-append, decimal-short)

node_tenant-short : (o : Option TenantId) → IfSome o (λ t. t.0 < 2 ^ 16) → length (node_tenant o) ≤ 60
node_tenant-short o is = grind (arith, length-append, length-two)

-- so does a node's
pub node-short : (n : NodeRecord) → IsNode n → length (node_text n) ≤ 65_536
node-short n is =
    let attempts = length-four n.attempts (omega (arith, is.attempts)) in
    let since = length-four n.since is.since in
    let start = length-four n.start is.start in
    let label = length-two n.label.0 is.label in
    let pool = length-two n.pool.0 is.pool in
    simp length-append (omega (arith, node_front-short n.allocated_to is.allocated_to, flag-short n.in_flight, node_server-short n.server is.server, node_state-short n.state, node_tenant-short n.tenant is.tenant))

-- ## jobs

job_front-short : (o : Option Ending) → length (job_front o) ≤ 60
job_front-short o = grind (arith, length-append, ending-short)

job_end-short : (pool : Option PoolId) (request : Option RequestId) → IfSome pool (λ p. p.0 < 2 ^ 16) → IfSome request HasText → length (job_end pool request) ≤ 60
job_end-short pool request is_pool is_request = grind (arith, length-append, length-two, length-request)

-- so does a job's
pub job-short : (j : JobRecord) → IsJob j → length (job_text j) ≤ 65_536
job-short j is =
    let nodes = list-short IsMarked marked_text (λ m low. simp length-append (omega (arith, length-four m.node.0 low, flag-short m.ended))) j.nodes is.nodes in
    simp length-append (omega (arith, is.few, job_front-short j.ending, nodes, phase-short j.phase, job_end-short j.pool j.request is.pool is.request))

-- ## requests

asked-short : (job : Option JobId) (pinned : Option PoolId) → IsAsked job pinned → length (request_job job) + length (request_pinned pinned) ≤ 60
asked-short job pinned is = grind (arith, length-append, length-two, length-four)

served-short : (s : RequestState) (pool : Option PoolId) → IsServed s pool → length (request_pool pool) ≤ 60
served-short s pool is = grind (arith, length-append, length-two)

-- so does a request's
pub request-short : (r : RequestRecord) → IsRequest r → length (request_record_text r) ≤ 65_536
request-short r is =
    let declined = list-short IsDeclined declined_text (λ d has. simp length-append (omega (arith, length-two d.pool.0 has.pool, reason-short d.reason has.reason))) r.declined is.declined in
    let labels = list-short IsLabel label_text (λ l low. let two = length-two l.0 low in omega arith) r.labels is.labels in
    let nodes = list-short IsNodeId node_id_text (λ n low. let four = length-four n.0 low in omega arith) r.nodes is.nodes in
    simp length-append (omega (arith, is.few_declined, is.few_labels, is.few_nodes, asked-short r.job r.pinned is.asked, served-short r.state r.pool is.served, length-four r.relative_priority is.relative_priority, request_state-short r.state))

-- # the parts for what may not fail, one table after another

-- ## what grows beside a change of requests or nodes

-- the way of growing leaves the requests as they are
abbrev pub leaves_requests : Growth → Bool
leaves_requests Growth.Nothing = true
leaves_requests (Growth.Node kept) = true
leaves_requests (Growth.Allocate n r tenant) = true
leaves_requests other = false

pub same-requests : (c : Configuration) (maker : Option Maker) (growth : Growth) (s : State) → leaves_requests growth ≡ true → (grown c maker growth s).requests ≡ s.requests
same-requests c maker growth s leaves = grind arith

pub edit-leaves : (c : Configuration) (s : State) (ch : Changes) (r : RequestId) (change : RequestEdit) → EditPremise c s ch r change → leaves_requests ch.grows ≡ true
edit-leaves c s ch r (RequestEdit.AddNode n) premise = by premise.0.from where
  by : IsTaken c s ch premise.0.pool r premise.0.request premise.0.label n ⊎ IsMade c s ch premise.0.pool r premise.0.request premise.0.label n → leaves_requests ch.grows ≡ true
  by (inl taken) = ap leaves_requests taken.grows
  by (inr made) = ap leaves_requests made.grows
edit-leaves c s ch r RequestEdit.Fulfil premise = ap leaves_requests premise.0.same_size
edit-leaves c s ch r change premise = ap leaves_requests premise.same_size

-- nothing grows when a request's nodes are freed
pub freeing-grows : (c : Configuration) (s : State) (ch : Changes) (r : RequestId) (change : RequestsChange) → RequestsPremise c s ch change → EmptiesRequest r change → ch.grows ≡ Growth.Nothing
freeing-grows c s ch r change premise (inl removes) = remove-alone c s ch r (subst (RequestsPremise c s ch) removes premise)
freeing-grows c s ch r change premise (inr (inl gives)) = (subst (RequestsPremise c s ch) gives premise).same_size
freeing-grows c s ch r change premise (inr (inr declines)) = (subst (RequestsPremise c s ch) declines.3 premise).same_size

-- the change is none
abbrev pub is_same : NodesChange → Bool
is_same NodesChange.Same = true
is_same other = false

-- nothing grows when a node changes
nodes-grow : (c : Configuration) (s : State) (ch : Changes) (change : NodesChange) → is_same change ≡ false → RequestsPremise c s ch ch.requests → NodesPremise c s ch change → ch.grows ≡ Growth.Nothing
nodes-grow c s ch NodesChange.Same other request premise = absurd cc
nodes-grow c s ch (NodesChange.FreeAll r) other request premise = freeing-grows c s ch r ch.requests request premise
nodes-grow c s ch (NodesChange.TakeOver numbers) other request premise = premise.1.same_size
nodes-grow c s ch change other request premise = premise.same_size

-- ## the tree that the parts are read from

-- the parts for the change are read from the tree
abbrev pub reads : RequestsChange → Bool
reads RequestsChange.Same = false
reads (RequestsChange.Edit r change) = false
reads (RequestsChange.Remove r) = true
reads (RequestsChange.Leave r) = true

abbrev pub reads_node : NodesChange → Bool
reads_node (NodesChange.Remove n) = true
reads_node (NodesChange.Leave n) = true
reads_node other = false

requests-read : (maker : Option Maker) (change : RequestsChange) (rows : List RequestEntry) (t u : TreeState) → (reads change ≡ true → t ≡ u) → requests_parts maker change rows u ≡ requests_parts maker change rows t
requests-read maker change rows t u same = grind arith

nodes-read : (maker : Option Maker) (tick : ℕ) (old : List RequestEntry) (change : NodesChange) (rows : List NodeEntry) (t u : TreeState) → (reads_node change ≡ true → t ≡ u) → nodes_parts maker tick old change rows u ≡ nodes_parts maker tick old change rows t
nodes-read maker tick old change rows t u same = grind arith

request-reads : (c : Configuration) (s : State) (ch : Changes) (change : RequestsChange) → RequestsPremise c s ch change → reads change ≡ true → ch.grows ≡ Growth.Nothing
request-reads c s ch (RequestsChange.Remove r) premise is = remove-alone c s ch r premise
request-reads c s ch (RequestsChange.Leave r) premise is = premise.same_size
request-reads c s ch _ premise is = absurd cc

node-reads : (c : Configuration) (s : State) (ch : Changes) (change : NodesChange) → NodesPremise c s ch change → reads_node change ≡ true → (ch.grows ≡ Growth.Nothing) × (ch.requests ≡ RequestsChange.Same)
node-reads c s ch (NodesChange.Remove n) premise is = (premise.same_size, premise.same_requests)
node-reads c s ch (NodesChange.Leave n) premise is = (premise.same_size, premise.same_requests)
node-reads c s ch _ premise is = absurd cc

-- where nothing grows, the tree is as it was
pub grown-tree : (c : Configuration) (maker : Option Maker) (growth : Growth) (s : State) (t : TreeState) → growth ≡ Growth.Nothing → t ≡ after_parts (with_begin growth t) (writer maker) (grown_parts c maker growth s)
grown-tree c maker growth s t is = ap (λ (g : Growth). after_parts (with_begin g t) (writer maker) (grown_parts c maker g s)) (sym is)

-- ## the records of roles

deed-same : (maker : Option Maker) (what : Option Deed) (s g : State) → s.launchers ≡ g.launchers → s.janitors ≡ g.janitors → s.requesters ≡ g.requesters → deed_parts maker what s ≡ deed_parts maker what g
deed-same maker what s g launchers janitors requesters = grind arith

-- ## what stays when anything grows

-- the tick stays
pub same-tick : (c : Configuration) (maker : Option Maker) (growth : Growth) (s : State) → (grown c maker growth s).tick ≡ s.tick
same-tick c maker growth s = grind arith

-- the records of roles stay
pub same-roles : (c : Configuration) (maker : Option Maker) (growth : Growth) (s : State) → ((grown c maker growth s).launchers ≡ s.launchers) × (((grown c maker growth s).janitors ≡ s.janitors) × ((grown c maker growth s).requesters ≡ s.requesters))
same-roles c maker growth s = grind arith

-- ## one table after another

-- what the laws of the tables say
pub record TablesEnact : Type 0 where
  pub requests : RequestsEnact
  pub nodes : NodesEnact
  pub jobs : JobsEnact
  pub handles : HandlesEnact
  pub deeds : DeedsEnact
  pub sessions : SessionsEnact
  pub ticks : TicksEnact

-- the change is none
abbrev pub is_none_of_requests : RequestsChange → Bool
is_none_of_requests RequestsChange.Same = true
is_none_of_requests other = false

-- what grows leaves the requests as they are where these change
request-leaves : (c : Configuration) (s : State) (ch : Changes) (change : RequestsChange) → RequestsPremise c s ch change → is_none_of_requests change ≡ false → leaves_requests ch.grows ≡ true
request-leaves c s ch RequestsChange.Same premise other = absurd cc
request-leaves c s ch (RequestsChange.Edit r change) premise other = edit-leaves c s ch r change premise
request-leaves c s ch (RequestsChange.Remove r) premise other = ap leaves_requests (remove-alone c s ch r premise)
request-leaves c s ch (RequestsChange.Leave r) premise other = ap leaves_requests premise.same_size

-- the requests, where they change
requests-by : RequestsEnact → (c : Configuration) (ch : Changes) (s g : State) (u t : TreeState) (more : ℕ) (change : RequestsChange) → RequestsPremise c s ch change → (leaves_requests ch.grows ≡ true → g.requests ≡ s.requests) →
    (ch.grows ≡ Growth.Nothing → t ≡ u) → WaitOnce s.requests → Stands g u (writer ch.maker) (more + 1) → AllByRecursion (λ e. IsRequest e.kept) (requests_changed ch.maker change g.requests) →
    Enacts u (writer ch.maker) (requests_parts ch.maker change g.requests t) (record g { requests = requests_changed ch.maker change g.requests }) more
requests-by law c ch s g u t more RequestsChange.Same premise kept same waits stands spelled = enacts-none g u (writer ch.maker) more (stands-less g u (writer ch.maker) (more + 1) more (omega arith) stands)
requests-by law c ch s g u t more change premise kept same waits stands spelled =
    subst (λ (parts : List Op). Enacts u (writer ch.maker) parts (record g { requests = requests_changed ch.maker change g.requests }) more)
    (requests-read ch.maker change g.requests t u (λ read. same (request-reads c s ch change premise read)))
    (law ch.maker change g u more stands (subst WaitOnce (sym (kept (request-leaves c s ch change premise refl))) waits) spelled)

-- the nodes, where they change: then nothing has grown
nodes-by : NodesEnact → (c : Configuration) (ch : Changes) (s g : State) (u t : TreeState) (old : List RequestEntry) (more : ℕ) (change : NodesChange) → RequestsPremise c s ch ch.requests → NodesPremise c s ch change →
    (ch.grows ≡ Growth.Nothing → (g.nodes ≡ s.nodes) × ((g.tick ≡ s.tick) × (old ≡ s.requests))) → (ch.grows ≡ Growth.Nothing → ch.requests ≡ RequestsChange.Same → t ≡ u) →
    AllByRecursion (λ e. AreDistinct e.queue) s.nodes → AllByRecursion (λ e. IsNode e.kept) s.nodes → NodesReady change s.tick s.requests s.nodes → Stands g u (writer ch.maker) (more + 32) → AllByRecursion (λ e. IsNode e.kept) (nodes_changed ch.maker g.tick change g.nodes) →
    Enacts u (writer ch.maker) (nodes_parts ch.maker g.tick old change g.nodes t) (record g { nodes = nodes_changed ch.maker g.tick change g.nodes }) more
nodes-by law c ch s g u t old more NodesChange.Same request premise kept same waits spelled_old ready stands spelled =
    enacts-none g u (writer ch.maker) more (stands-less g u (writer ch.maker) (more + 32) more (omega arith) stands)
nodes-by law c ch s g u t old more change request premise kept same waits spelled_old ready stands spelled =
    let grows = nodes-grow c s ch change refl request premise in
    let rows = kept grows in
    subst (λ (parts : List Op). Enacts u (writer ch.maker) parts (record g { nodes = nodes_changed ch.maker g.tick change g.nodes }) more)
    (nodes-read ch.maker g.tick old change g.nodes t u (λ read. let both = node-reads c s ch change premise read in same both.0 both.1))
    (law ch.maker old change g u more stands
    (subst (AllByRecursion (λ e. AreDistinct e.queue)) (sym rows.0) waits)
    (subst (AllByRecursion (λ e. IsNode e.kept)) (sym rows.0) spelled_old)
    spelled
    (subst (λ (r : List RequestEntry). NodesReady change g.tick r g.nodes) (sym rows.1.1)
    (subst (λ (tick : ℕ). NodesReady change tick s.requests g.nodes) (sym rows.1.0)
    (subst (λ (n : List NodeEntry). NodesReady change s.tick s.requests n) (sym rows.0) ready))))

-- the states between the tables
abbrev pub with_requests : Changes → State → State
with_requests ch g = record g { requests = requests_changed ch.maker ch.requests g.requests }

abbrev pub with_nodes : Changes → State → State
with_nodes ch g = record (with_requests ch g) { nodes = nodes_changed ch.maker g.tick ch.nodes g.nodes }

abbrev pub with_jobs : Changes → State → State
with_jobs ch g = record (with_nodes ch g) { jobs = jobs_changed ch.jobs g.jobs }

abbrev pub with_handles : Configuration → Changes → State → State
with_handles c ch g = record (with_jobs ch g) { handles = handles_changed c ch.handles g.handles }

abbrev pub with_sessions : Configuration → Changes → State → State
with_sessions c ch g = record (with_deeds ch.maker ch.deed (with_handles c ch g)) { sessions = sessions_changed (in_call ch.sessions) g.sessions }

-- the state after the call
abbrev pub with_all : Configuration → Changes → State → State
with_all c ch g = record (with_sessions c ch g) { tick = cond ch.ticks (g.tick + 1) g.tick }

-- a session that ends has no part in the call, and the part of one that is muted is read from the sessions
session-parts : (change : SessionsChange) (s g : State) → s.sessions ≡ g.sessions → session_parts (in_call change) s ≡ session_parts change g
session-parts change s g same = grind arith

session-ready : (change : SessionsChange) (s g : State) → s.sessions ≡ g.sessions → SessionReady (in_call change) g → SessionReady (in_call change) s
session-ready (SessionsChange.Mute session) s g same ready = subst (λ (rows : List SessionFacts). SessionReady (SessionsChange.Mute session) (record g { sessions = rows })) (sym same) ready
session-ready _ s g same ready = ready

module _ (laws : TablesEnact) (c : Configuration) (ch : Changes) (s : State) (t : TreeState) (more : ℕ) (ready : IsReady c ch s) (spelled_grown : HasSpellings (grown c ch.maker ch.grows s)) (spelled_later : HasSpellings (with_all c ch (grown c ch.maker ch.grows s))) where
  abbrev w : ℕ
  w = writer ch.maker

  -- the state with what grows, and its tree
  abbrev g : State
  g = grown c ch.maker ch.grows s

  abbrev u : TreeState
  u = after_parts (with_begin ch.grows t) w (grown_parts c ch.maker ch.grows s)

  abbrev first_parts : List Op
  first_parts = requests_parts ch.maker ch.requests g.requests t

  abbrev second_parts : List Op
  second_parts = nodes_parts ch.maker g.tick g.requests ch.nodes g.nodes t

  requests-enact : Stands g u w (more + 40) → Enacts u w first_parts (with_requests ch g) (more + 39)
  requests-enact stands =
      requests-by laws.requests c ch s g u t (more + 39) ch.requests ready.premises.requests (same-requests c ch.maker ch.grows s) (grown-tree c ch.maker ch.grows s t) ready.request_waits
      (stands-less g u w (more + 40) (more + 39 + 1) (omega arith) stands) spelled_later.requests

  nodes-enact : Stands (with_requests ch g) (after_parts u w first_parts) w (more + 39) → Enacts (after_parts u w first_parts) w second_parts (with_nodes ch g) (more + 7)
  nodes-enact stands =
      nodes-by laws.nodes c ch s (with_requests ch g) (after_parts u w first_parts) t g.requests (more + 7) ch.nodes ready.premises.requests ready.premises.nodes
      (λ is. (ap (λ (growth : Growth). (grown c ch.maker growth s).nodes) is, (same-tick c ch.maker ch.grows s, ap (λ (growth : Growth). (grown c ch.maker growth s).requests) is)))
      (λ grows same. grown-tree c ch.maker ch.grows s t grows ∙ ap (λ (change : RequestsChange). after_parts u w (requests_parts ch.maker change g.requests t)) (sym same))
      ready.node_waits ready.spelled.nodes ready.nodes
      (stands-less (with_requests ch g) (after_parts u w first_parts) w (more + 39) (more + 7 + 32) (omega arith) stands) spelled_later.nodes

  deeds-enact : (v : TreeState) → Stands (with_handles c ch g) v w (more + 5) → Enacts v w (deed_parts ch.maker ch.deed g) (with_deeds ch.maker ch.deed (with_handles c ch g)) (more + 4)
  deeds-enact v stands =
      subst (λ (parts : List Op). Enacts v w parts (with_deeds ch.maker ch.deed (with_handles c ch g)) (more + 4)) (deed-same ch.maker ch.deed (with_handles c ch g) g refl refl refl)
      (laws.deeds w ch.maker ch.deed (with_handles c ch g) v (more + 4) (stands-less (with_handles c ch g) v w (more + 5) (more + 4 + 1) (omega arith) stands) (assumption (spelled_later, spelled_grown)))

  sessions-enact : (v : TreeState) → Stands (with_deeds ch.maker ch.deed (with_handles c ch g)) v w (more + 4) → Enacts v w (session_parts ch.sessions g) (with_sessions c ch g) (more + 3)
  sessions-enact v stands =
      subst (λ (parts : List Op). Enacts v w parts (with_sessions c ch g) (more + 3)) (session-parts ch.sessions (with_deeds ch.maker ch.deed (with_handles c ch g)) g refl)
      (laws.sessions w (in_call ch.sessions) (with_deeds ch.maker ch.deed (with_handles c ch g)) v (more + 3)
      (stands-less (with_deeds ch.maker ch.deed (with_handles c ch g)) v w (more + 4) (more + 3 + 1) (omega arith) stands) spelled_grown.sessions
      (session-ready ch.sessions (with_deeds ch.maker ch.deed (with_handles c ch g)) g refl ready.sessions))

  -- the parts for what may not fail are accepted, and leave a tree of the state after the call
  pub settled-enact : Stands g u w (more + 40) → Enacts u w (settled_parts c ch g t) (with_all c ch g) more
  settled-enact stands =
      let requests = requests-enact stands in
      let nodes = enacts-joined _ _ _ _ _ _ _ _ requests (nodes-enact requests.leaves) in
      let jobs = enacts-joined _ _ _ _ _ _ _ _ nodes (laws.jobs w ch.jobs (with_nodes ch g) _ (more + 6) (stands-less (with_nodes ch g) _ w (more + 7) (more + 6 + 1) (omega arith) nodes.leaves) spelled_later.jobs) in
      let handles = enacts-joined _ _ _ _ _ _ _ _ jobs (laws.handles c w ch.handles (with_jobs ch g) _ (more + 5) (stands-less (with_jobs ch g) _ w (more + 6) (more + 5 + 1) (omega arith) jobs.leaves)) in
      let deeds = enacts-joined _ _ _ _ _ _ _ _ handles (deeds-enact _ handles.leaves) in
      let sessions = enacts-joined _ _ _ _ _ _ _ _ deeds (sessions-enact _ deeds.leaves) in
      enacts-joined _ _ _ _ _ _ _ _ sessions
      (laws.ticks w ch.ticks (with_sessions c ch g) _ more (stands-less (with_sessions c ch g) _ w (more + 3) (more + 1) (omega arith) sessions.leaves) (omega (arith, ready.tick, same-tick c ch.maker ch.grows s)))

-- ## read from the state before what grows

module _ (c : Configuration) (ch : Changes) (s : State) (t : TreeState) (premises : Premises c s ch) (apart : IsApart ch) where
  abbrev after_growth : State
  after_growth = grown c ch.maker ch.grows s

  nothing-grown : ch.grows ≡ Growth.Nothing → after_growth ≡ s
  nothing-grown is = ap (λ (growth : Growth). grown c ch.maker growth s) is

  requests-current : (change : RequestsChange) → RequestsPremise c s ch change → requests_parts ch.maker change after_growth.requests t ≡ requests_parts ch.maker change s.requests t
  requests-current RequestsChange.Same premise = refl
  requests-current change premise = ap (λ (rows : List RequestEntry). requests_parts ch.maker change rows t) (same-requests c ch.maker ch.grows s (request-leaves c s ch change premise refl))

  nodes-current : (change : NodesChange) → NodesPremise c s ch change → nodes_parts ch.maker after_growth.tick after_growth.requests change after_growth.nodes t ≡ nodes_parts ch.maker s.tick s.requests change s.nodes t
  nodes-current NodesChange.Same premise = refl
  nodes-current change premise = ap (λ (g : State). nodes_parts ch.maker g.tick g.requests change g.nodes t) (nothing-grown (nodes-grow c s ch change refl premises.requests premise))

  handles-current : (change : HandlesChange) → ch.handles ≡ change → handles_parts c change after_growth.handles ≡ handles_parts c change s.handles
  handles-current HandlesChange.Same is = refl
  handles-current (HandlesChange.Release j) is = ap (λ (g : State). handles_parts c (HandlesChange.Release j) g.handles) (nothing-grown (apart.handles j is))

  sessions-current : (change : SessionsChange) → ch.sessions ≡ change → session_parts change after_growth ≡ session_parts change s
  sessions-current (SessionsChange.Mute session) is = ap (session_parts (SessionsChange.Mute session)) (nothing-grown (apart.sessions session is))
  sessions-current _ is = refl

  -- the parts for what may not fail, read from the state before what grows
  pub settled-current : settled_parts c ch after_growth t ≡ settled_parts c ch s t
  settled-current =
      let roles = same-roles c ch.maker ch.grows s in
      let two = ap₂ append (requests-current ch.requests premises.requests) (nodes-current ch.nodes premises.nodes) in
      let three = ap₂ append two (ap (jobs_parts ch.jobs) (jobs-grown c ch.maker ch.grows s)) in
      let four = ap₂ append three (handles-current ch.handles refl) in
      let five = ap₂ append four (deed-same ch.maker ch.deed after_growth s roles.0 roles.1.0 roles.1.1) in
      let six = ap₂ append five (sessions-current ch.sessions refl) in
      ap₂ append six (ap (tick_parts ch.ticks) (same-tick c ch.maker ch.grows s)) where
        append : List Op → List Op → List Op
        append a b = a ++ b

-- # a call of several parts, the begin of a session after it, and the end of one

-- ## a session that begins after the parts

-- a session more
pub in-more : (live : List ℕ) (w k : ℕ) → is_in live w ≡ true → is_in (live ++ k ∷ []) w ≡ true
in-more live w k is = list_any-append (λ (s : ℕ). s == w) live (k ∷ []) ∙ ap (λ (b : Bool). b || is_in (k ∷ []) w) is

under-begun : (t : TreeState) (w : ℕ) (above name bytes : List ℕ) (mode : Mode) (o : Option Node) →
    where_found o (after_begin t) (λ parent. record (after_begin t) { nodes = with_new_child (next_change t) w above name bytes mode parent t.nodes }) ≡ after_begin (where_found o t (λ parent. record t { nodes = with_new_child (next_change t) w above name bytes mode parent t.nodes }))
under-begun t w above name bytes mode o = grind arith

create-begun : (t : TreeState) (w : ℕ) (name bytes : List ℕ) (mode : Mode) (o : Option (List ℕ)) →
    where_found o (after_begin t) (λ above. after_create_under (after_begin t) w above name bytes mode) ≡ after_begin (where_found o t (λ above. after_create_under t w above name bytes mode))
create-begun t w name bytes mode o = grind (arith, under-begun)

-- the begin of a session and a part change different things
part-begun : (t : TreeState) (w : ℕ) (part : Op) → after_part (after_begin t) w part ≡ after_begin (after_part t w part)
part-begun t w part = grind (arith, create-begun, under-begun)

pub parts-begun : (t : TreeState) (w : ℕ) (parts : List Op) → after_parts (after_begin t) w parts ≡ after_begin (after_parts t w parts)
parts-begun t w [] = refl
parts-begun t w (part ∷ parts) = ap (λ (u : TreeState). after_parts u w parts) (part-begun t w part) ∙ parts-begun (after_part t w part) w parts

-- the answer to a part of a live session does not depend on who else is live
answer-begun : (t : TreeState) (w : ℕ) (part : Op) → is_in t.live w ≡ true → part_answer (after_begin t) w part ≡ part_answer t w part
answer-begun t w (Op.Check path expect) live = rw (in-more t.live w (t.begun + 1) live, live) refl
answer-begun t w part live = rw (in-more t.live w (t.begun + 1) live, live) refl

-- parts that go after the begin go before it
pub goes-begun : (t : TreeState) (w : ℕ) (parts : List Op) → is_in t.live w ≡ true → Goes (after_begin t) w parts (after_parts (after_begin t) w parts) → Goes t w parts (after_parts t w parts)
goes-begun t w [] live goes = refl
goes-begun t w (part ∷ parts) live goes = (
  subst (λ (r : Result OpDone TreeRefusal). IsOk r) (answer-begun t w part live) goes.0,
  goes-begun (after_part t w part) w parts (ap (λ (u : TreeState). is_in u.live w) (parts-change_nodes_alone t w part) ∙ live)
      (subst (λ (u : TreeState). Goes u w parts (after_parts u w parts)) (part-begun t w part) goes.1),
)

-- ## the number of a call

pub changes-after : (t : TreeState) (w : ℕ) (parts : List Op) → (after_parts t w parts).changes ≡ t.changes
changes-after t w [] = refl
changes-after t w (part ∷ parts) = changes-after (after_part t w part) w parts ∙ ap (λ (u : TreeState). u.changes) (parts-change_nodes_alone t w part)

-- a tree under another number
abbrev pub numbered : ℕ → TreeState → TreeState
numbered number t = record t { changes = number }

-- a call leaves what its parts leave, under a number that is at most the next one
pub record HasNumber (t : TreeState) (w : ℕ) (parts : List Op) : Type 0 where
  pub number : ℕ
  pub is : after_multi t w parts ≡ numbered number (after_parts t w parts)
  pub low : number ≤ t.changes + 1

number-by : (t : TreeState) (w : ℕ) (parts : List Op) (b : Bool) → list_any (λ part. not (is_check part)) parts ≡ b → Goes t w parts (after_parts t w parts) → HasNumber t w parts
number-by t w parts true is goes =
    let number = goes-under-one-number t (after_parts t w parts) w parts goes is in
    record { number = next_change (after_parts t w parts); is = number; low = omega (arith, changes-after t w parts, low-min ((after_parts t w parts).changes + 1) 18_446_744_073_709_551_615) }
number-by t w parts false is goes =
    let both = checks-leave-the-tree t (after_parts t w parts) w parts goes is in
    record { number = t.changes; is = both.0 ∙ ap (numbered t.changes) (sym both.1); low = omega arith }

pub number-of : (t : TreeState) (w : ℕ) (parts : List Op) → Goes t w parts (after_parts t w parts) → HasNumber t w parts
number-of t w parts goes = number-by t w parts (list_any (λ part. not (is_check part)) parts) refl goes

-- ## what the layout does not see

-- a tree under another number lays out the same state
pub stands-numbered : (s : State) (t : TreeState) (w more number : ℕ) → number < 18_446_744_073_709_551_615 → Stands s t w more → Stands s (numbered number t) w more
stands-numbered s t w more number low stands =
    let lays = same-lays s t (numbered number t) stands.good refl refl (record { rows = λ other good apart. refl; leaves = λ other good has apart leaves. leaves; counters = λ other next good has apart is. is }) stands.lays in
    assumption (stands, stands.good, stands.room)

-- ## the end of a session

-- what is true of nodes without a session's, whose parents change with them
all-lost : (P : Node → Type 0) (nodes others : List Node) (z session : ℕ) → ((n : Node) → P n → P (after_loss others z session n)) → AllByRecursion P nodes → AllByRecursion P (map (after_loss others z session) (filter (λ n. not (is_owned session n)) nodes))
all-lost P nodes others z session keeps all =
    all-mapped P P (after_loss others z session) (filter (λ n. not (is_owned session n)) nodes) keeps (all-filter P (λ n. not (is_owned session n)) nodes all)

pub room-ended : (t : TreeState) (session more : ℕ) → IsWhole t.nodes → next_change t < 18_446_744_073_709_551_615 → HasRoomFor more t → HasRoomFor more (after_end t session)
room-ended t session more whole low room = record {
  change = low;
  versions = all-lost (λ (n : Node). n.facts.version + more ≤ 18_446_744_073_709_551_615) t.nodes t.nodes (next_change t) session (λ n small. small) room.versions;
  counters = all-lost (λ (n : Node). n.facts.counter + more ≤ 2_147_483_648) t.nodes t.nodes (next_change t) session (λ n small. small) room.counters;
  rows = λ dir. omega (arith, ap (λ (rows : List Row). length rows) ((ends-show t session whole).rows dir), length-filter_at_most (is_kept session) (rows_at t dir), room.rows dir);
  few = room.few;
}

-- a session that has ended has good ids, as all that stays
pub good-ended : (s : State) (session : SessionId) → HasGoodIds s → HasGoodIds (without_session session s)
good-ended s session good =
    let same = length-change_at (session.0 - 1) ended s.sessions in
    let sessions : length (change_session session ended s.sessions) < 2 ^ 32 = omega (arith, good.sessions) in
    let requests = all-mapped (λ (e : RequestEntry). IsGood (Request e.id)) (λ (e : RequestEntry). IsGood (Request e.id)) (request_left session) s.requests (λ e is. is) good.requests in
    let nodes = all-mapped (λ (e : NodeEntry). IsGood (NodePlace e.id)) (λ (e : NodeEntry). IsGood (NodePlace e.id)) (node_left session) s.nodes (λ e is. is) good.nodes in
    let registrations = all-filter (λ (g : Registration). IsGood (Launcher g.pool)) (λ g. not (is_session g.session session)) s.registrations good.registrations in
    assumption good
