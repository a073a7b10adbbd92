-- every accepted event is ready for the tree and is enacted in it
use Rattle.np_layout.proofs.Prelude.{AllByRecursion, AllocationsListed, AreDistinct, Bool, Changes, Configuration, DistinctSessions, EmptiesRequest, Enacts, Event, EventsAreEnacted, EventsAreReady, EventsEnact, Fits, Goes, GoesFulfilled, GoesWithdrawn, Growth, GrowthPremise, GrowthReady, GrowthsEnact, HandlesChange, HasGoodIds, HasRoomFor, HasSpellings, Invariant, IsApart, IsCarried, IsEnacted, IsJob, IsLiveQueue, IsNode, IsNumbered, IsReady, IsRequest, IsRole, IsSessionRole, IsTypedGrowth, IsWhole, IsWhole-after_end, JobId, LaysOut, List, Locked, Maker, Node, NodeEntry, NodeId, NodesChange, NodesPremise, NodesReady, None, Op, Option, RecordsAreSpelled, Registration, Request, RequestEntry, RequestId, RequestRecord, RequestsChange, RequestsPremise, Rises, SemId, Session, SessionFacts, SessionId, SessionReady, SessionsChange, SessionsPremise, Some, Stands, State, StepsAreCarried, Swept, TakesOver, TreeState, [], after_multi, after_parts, all-change_first, all-find, all-insert_before, all-push, all-weaker, allocated, ap, arith, called, changed, enacted, equal-itself, false, find-none, grown, grown_parts, in_call, inl, inr, is_id_before, is_in, is_ok, is_request, is_some, jobs-grown, judge, length, list_any, low-min, maker, nat_lt, nat_tests, new_record, next, next_change, next_id, node_entry, node_in, nodes_of, option_map, option_map_or, parts_of, plan, plan-found, refl, request-equal, request_entry, request_in, row-of, same, same_request, semaphores_of, session_of, settled, settled_parts, slice_get_within, subst, sym, tree_session, true, with_begin, with_end, without_session, writer, ℕ, ◌+◌, ◌<◌, ◌==◌, ◌^◌, ◌∙◌, ◌∷◌, ◌≡◌, ◌≤◌, ◌⊎◌}
use Rattle.np_changes.specs.Premises.{HasRoom}
use Rattle.np_layout.proofs.Sessions.{session_ends-lay-out}
use Rattle.np_changes.specs.Prelude.{Job}
use Rattle.np_layout.proofs.Carried.{new-text}
use Rattle.np_layout.proofs.Spelled.{IsKnown, allocated-tenant, granted-is, known-accepted, launcher-low, new-node, new-request, queue-keeps, request-row}
use Rattle.np_layout.proofs.SoundRows.{job-low, job-row, pool-low, role-low}
use Rattle.np_layout.proofs.Stands.{TablesEnact, enacts-joined, goes-begun, good-ended, number-of, numbered, parts-begun, room-ended, same-roles, settled-current, settled-enact, stands-less, stands-numbered, with_all}

-- # what is true of each plan: a session begins with no maker, a session that is muted was begun, and nothing grows beside it or beside handles that are given back

-- ## what is true of each plan

-- a session begins with no maker
abbrev pub IsUnmade : Option Maker → Growth → Type 0
IsUnmade maker (Growth.Session role) = maker ≡ None
IsUnmade maker other = Unit {0}

-- a session begins with no maker, one that is muted was begun, and what grows is apart
record IsPlain (c : Configuration) (s : State) (ch : Changes) : Type 0 where
  unmade : IsUnmade ch.maker ch.grows
  sessions : SessionReady (in_call ch.sessions) (grown c ch.maker ch.grows s)
  apart : IsApart ch

-- ## what is true of most plans, whoever makes them

-- a session begins
abbrev begins : Growth → Bool
begins (Growth.Session role) = true
begins other = false

-- one is muted
abbrev mutes : SessionsChange → Bool
mutes (SessionsChange.Mute session) = true
mutes other = false

-- nothing grows if handles are given back
abbrev gives_alone : HandlesChange → Growth → Bool
gives_alone HandlesChange.Same growth = true
gives_alone (HandlesChange.Release j) Growth.Nothing = true
gives_alone (HandlesChange.Release j) other = false

abbrev IsCalm : Changes → Type 0
IsCalm ch = (begins ch.grows ≡ false) × ((mutes ch.sessions ≡ false) × (gives_alone ch.handles ch.grows ≡ true))

-- the plans of most events are calm
abbrev is_usual : Event → Bool
is_usual (Event.OpenSession role) = false
is_usual (Event.Crash session) = false
is_usual other = true

calm : (c : Configuration) (s : State) (e : Event) → is_usual e ≡ true → IsCalm (plan c s e)
calm c s (Event.OpenSession role) usual = absurd cc
calm c s (Event.Crash session) usual = absurd cc
calm c s e usual = grind arith

calm-unmade : (by : Option Maker) (growth : Growth) → begins growth ≡ false → IsUnmade by growth
calm-unmade by growth none = grind arith

calm-sessions : (change : SessionsChange) (s : State) → mutes change ≡ false → SessionReady (in_call change) s
calm-sessions (SessionsChange.Mute session) s none = absurd cc
calm-sessions _ s none = tt

given-alone : (change : HandlesChange) (growth : Growth) (j : JobId) → gives_alone change growth ≡ true → change ≡ HandlesChange.Release j → growth ≡ Growth.Nothing
given-alone change growth j alone is = grind arith

module _ (c : Configuration) (s : State) where
  -- each plan is plain
  plain : (e : Event) → IsPlain c s (plan c s e)
  plain (Event.OpenSession role) = record { unmade = refl; sessions = tt; apart = record { handles = λ j is. absurd cc; sessions = λ session is. absurd cc } }
  plain (Event.Crash session) =
      plan-found (IsPlain c s) (record { unmade = tt; sessions = tt; apart = record { handles = λ j is. refl; sessions = λ by is. refl } }) (session_of session s) _ (λ facts begun. record { unmade = tt; sessions = (facts, begun); apart = record { handles = λ j is. refl; sessions = λ by is. refl } })
  plain e =
      let ch = plan c s e in
      let is = calm c s e refl in record {
        unmade = calm-unmade ch.maker ch.grows is.0;
        sessions = calm-sessions ch.sessions (grown c ch.maker ch.grows s) is.1.0;
        apart = record { handles = λ j gives. given-alone ch.handles ch.grows j is.1.1 gives; sessions = λ session by. absurd (let both = sym (ap mutes by) ∙ is.1.0 in cc) };
      }

-- # what grows by an accepted event is ready for the tree

module _ (c : Configuration) (s : State) (ch : Changes) (known : IsKnown c s ch) where
  -- what grows is ready for the tree
  pub growth-ready : (growth : Growth) → ch.grows ≡ growth → IsUnmade ch.maker growth → IsTypedGrowth growth → GrowthPremise c s ch growth → GrowthReady c ch.maker growth s
  growth-ready Growth.Nothing is unmade typed premise = tt
  growth-ready (Growth.Session role) is unmade typed premise = let few = known.fits.sessions in (unmade, (omega arith, role-low c role known.sound premise))
  growth-ready (Growth.Registration p) is unmade typed premise = (pool-low c p known.sound (launcher-low c s ch.maker premise.session p known.fits known.premises.maker premise.made_by), premise.free)
  growth-ready (Growth.Request priority asked) is unmade typed premise = (
    new-text c s ch known priority asked premise,
    (
      new-request c s ch known priority asked premise,
      find-none (λ (e : RequestEntry). same_request e.id (next_id priority s)) s.requests
          (all-weaker (λ (e : RequestEntry). e.id.seq < s.next_request) (λ (e : RequestEntry). same_request e.id (next_id priority s) ≡ false) (λ e below. grind (arith, nat_tests)) s.requests known.invariant.numbered.requests_below),
    ),
  )
  growth-ready (Growth.Node kept) is unmade typed premise =
      let few = known.fits.next_node in
      (ap (λ (m : Option Maker). is_some m) premise.gains.worked_on.made_by, (new-node c s ch known kept is premise.request _ premise.gains premise.gains.from, (omega arith, known.invariant.numbered.nodes_below)))
  growth-ready (Growth.JoinRequest r) is unmade typed premise = row-of (λ (e : RequestEntry). e.kept) (request_entry r s.requests) premise.request premise.stands
  growth-ready (Growth.JoinNode n) is unmade typed premise = row-of (λ (e : NodeEntry). e.kept) (node_entry n s.nodes) premise.node premise.stands
  growth-ready (Growth.Allocate n r tenant) is unmade typed premise =
      (allocated-tenant c s ch known n r tenant is premise premise.from, ((request-row c s known.fits known.carried r premise.request premise.worked_on.stands).text, known.carried.spelled.nodes))
  growth-ready (Growth.Handles j) is unmade typed room =
      let row = job-row c known.sound j room.job room.row in
      let same : room.job.semaphores ≡ semaphores_of c j = ap (λ (o : Option Job). option_map_or (λ job. job.semaphores) o []) (sym room.row) in
      let few = subst (λ xs. length xs ≤ 8) same row.few_taken in
      let taken = subst (λ xs. AllByRecursion (λ (x : SemId). x.0 < length s.handles) xs) same (subst (λ (n : ℕ). AllByRecursion (λ (x : SemId). x.0 < n) room.job.semaphores) (sym known.carried.semaphores) row.taken) in
      (job-low c j known.sound (slice_get_within c.jobs j.0 room.job room.row), (few, taken))
  growth-ready (Growth.Swept n x) is unmade typed premise = typed

-- # what happens to the nodes by an accepted event is ready for the tree

-- ## the request whose nodes are free

-- the record is in the state
abbrev IsInRows : State → RequestId → Type 0
IsInRows s r = (request : RequestRecord) × (request_in r s.requests ≡ Some request)

module _ (c : Configuration) (s : State) (ch : Changes) (r : RequestId) (frees : ch.nodes ≡ NodesChange.FreeAll r) where
  -- a request that goes while its nodes are free is fulfilled
  goes-stands : GoesFulfilled s ch r ⊎ (TakesOver c s ch r ⊎ GoesWithdrawn s ch r) → IsInRows s r
  goes-stands (inl goes) = (goes.fulfils.request, goes.fulfils.worked_on.stands)
  goes-stands (inr (inl takes)) = absurd (let e : NodesChange.FreeAll r ≡ NodesChange.TakeOver takes.request.nodes = sym frees ∙ takes.takes in cc)
  goes-stands (inr (inr goes)) = absurd (let e : NodesChange.FreeAll r ≡ NodesChange.Same = sym frees ∙ goes.withdraws.same_nodes in cc)

  -- a request whose nodes are free was there
  emptied-stands : RequestsPremise c s ch ch.requests → EmptiesRequest r ch.requests → IsInRows s r
  emptied-stands premise (inl is) = goes-stands (subst (λ (change : RequestsChange). RequestsPremise c s ch change) is premise)
  emptied-stands premise (inr (inl is)) = let gives = subst (λ (change : RequestsChange). RequestsPremise c s ch change) is premise in (gives.request, gives.stands)
  emptied-stands premise (inr (inr declines)) = let may = subst (λ (change : RequestsChange). RequestsPremise c s ch change) declines.3 premise in (may.request, may.worked_on.stands)

-- ## its nodes

-- each node is the one that is found by its number
each-found : (P : NodeEntry → Type 0) (rows : List NodeEntry) → Rises (λ a b. nat_lt a.id.0 b.id.0) rows → ((e : NodeEntry) → node_entry e.id rows ≡ Some e → P e) → AllByRecursion P rows
each-found P [] rises says = tt
each-found P (x ∷ rows) rises says = (says x (let here = equal-itself x.id.0 in rw here refl), each-found P rows rises.1 later) where
  later : (e : NodeEntry) → node_entry e.id rows ≡ Some e → P e
  later e found =
      let before : nat_lt x.id.0 e.id.0 ≡ true = all-find (λ (y : NodeEntry). nat_lt x.id.0 y.id.0 ≡ true) (λ (y : NodeEntry). y.id.0 == e.id.0) rows e rises.0 found in
      let other : (x.id.0 == e.id.0) ≡ false = grind (arith, nat_tests) in
      says e (rw other found)

-- a request that an option names
named : (r : RequestId) (o : Option RequestId) → is_request r o ≡ true → o ≡ Some r
named r None is = absurd cc
named r (Some other) is = ap (λ (x : RequestId). Some x) (request-equal other r is)

-- the node has a place in the list if it is allocated to the request
abbrev IsAmong : RequestId → List NodeId → NodeEntry → Type 0
IsAmong r numbers e = is_request r e.kept.allocated_to ≡ true → list_any (λ n. n.0 == e.id.0) numbers ≡ true

module _ (c : Configuration) (s : State) (fits : Fits c s) (invariant : Invariant c s) (carried : IsCarried c s) where
  -- what happens to the nodes is ready for the tree
  pub nodes-ready : (ch : Changes) (change : NodesChange) → ch.nodes ≡ change → RequestsPremise c s ch ch.requests → NodesPremise c s ch change → NodesReady change s.tick s.requests s.nodes
  nodes-ready ch (NodesChange.FreeAll r) is premise of_nodes =
      let stands = emptied-stands c s ch r is premise of_nodes in
      let request = stands.0 in
      let same : request.nodes ≡ nodes_of r s.requests = ap (λ (o : Option RequestRecord). option_map_or (λ k. k.nodes) o []) (sym stands.1) in
      let rises = invariant.numbered.nodes_rise in
      let few = (request-row c s fits carried r request stands.1).is.few_nodes in
      let listed : AllByRecursion (IsAmong r request.nodes) s.nodes = each-found (IsAmong r request.nodes) s.nodes rises
      (λ e found it. (invariant.owned.allocations e.id e.kept r (ap (λ (o : Option NodeEntry). option_map (λ x. x.kept) o) found) (named r e.kept.allocated_to it)).listed request stands.1) in
      (subst (λ (numbers : List NodeId). length numbers ≤ 32) same few, (rises, subst (λ (numbers : List NodeId). AllByRecursion (IsAmong r numbers) s.nodes) same listed))
  nodes-ready ch (NodesChange.TakeOver numbers) is premise of_nodes =
      let takes = of_nodes.1 in
      let few = (request-row c s fits carried of_nodes.0 takes.request takes.request_stands).is.few_nodes in
      let tick = fits.tick in
      (subst (λ (list : List NodeId). length list ≤ 32) (sym of_nodes.2.1) few, omega arith)
  nodes-ready ch _ is premise of_nodes = tt

-- # every accepted event is ready for the tree

-- no session is twice in a queue, in the words of the layout
distinct : (queue : List SessionId) → DistinctSessions queue → AreDistinct queue
distinct [] once = tt
distinct (session ∷ queue) once = (once.0, distinct queue once.1)

-- no session waits twice for one request, nor for one node
waits-once : {I K : Type 0} (s : State) (rows : List (Locked I K)) → AllByRecursion (λ e. IsLiveQueue s e.queue) rows → AllByRecursion (λ e. AreDistinct e.queue) rows
waits-once s rows queued = all-weaker (λ (e : Locked _ _). IsLiveQueue s e.queue) (λ (e : Locked _ _). AreDistinct e.queue) (λ e queue. distinct e.queue queue.once) rows queued

-- every accepted event is ready for the tree, if each record has a spelling after the call
pub events-are-ready : RecordsAreSpelled → EventsAreReady
events-are-ready spelled c s e accepted =
    let ch = plan c s e in
    let known = known-accepted c s e accepted in
    let grows = growth-ready c s ch known ch.grows refl (plain c s e).unmade known.typed.grows known.premises.grows in
    let nodes = nodes-ready c s accepted.fits accepted.invariant accepted.carried ch ch.nodes refl known.premises.requests known.premises.nodes in
    let request_waits = waits-once s s.requests accepted.invariant.queued.at_requests in
    let node_waits = waits-once s s.nodes accepted.invariant.queued.at_nodes in
    let tick : s.tick + 1 < 2 ^ 32 = omega (arith, accepted.fits.tick) in
    assumption (known.premises, (plain c s e).apart, (plain c s e).sessions, accepted.carried.spelled, spelled c s e accepted)

-- # the changes of a whole event

-- ## what grows

-- the requests of the grown state have a spelling
requests-grown : (c : Configuration) (maker : Option Maker) (growth : Growth) (s : State) → GrowthReady c maker growth s → AllByRecursion (λ e. IsRequest e.kept) s.requests → AllByRecursion (λ e. IsRequest e.kept) (grown c maker growth s).requests
requests-grown c maker (Growth.Request priority asked) s ready all =
    all-insert_before (λ (e : RequestEntry). IsRequest e.kept) (λ (e : RequestEntry). is_id_before (next_id priority s) e.id) (record { id = next_id priority s; kept = new_record asked; queue = [] }) s.requests ready.1.0 all
requests-grown c (Some maker) (Growth.JoinRequest r) s ready all = queue-keeps IsRequest (λ e. same_request e.id r) _ s.requests all
requests-grown c None _ s ready all = all
requests-grown c (Some maker) _ s ready all = all

-- so have the nodes
nodes-grown : (c : Configuration) (maker : Option Maker) (growth : Growth) (s : State) → GrowthReady c maker growth s → AllByRecursion (λ e. IsNode e.kept) s.nodes → AllByRecursion (λ e. IsNode e.kept) (grown c maker growth s).nodes
nodes-grown c maker (Growth.Node kept) s ready all = all-push (λ (e : NodeEntry). IsNode e.kept) s.nodes _ all ready.1.0
nodes-grown c (Some maker) (Growth.JoinNode n) s ready all = queue-keeps IsNode (λ e. e.id.0 == n.0) _ s.nodes all
nodes-grown c (Some maker) (Growth.Allocate n r tenant) s ready all =
    all-change_first (λ (e : NodeEntry). IsNode e.kept) (λ (e : NodeEntry). e.id.0 == n.0) (allocated r tenant maker.session) s.nodes (λ e is. granted-is e.kept (Some r) tenant is ready.1.0 ready.0) all
nodes-grown c None _ s ready all = all
nodes-grown c (Some maker) _ s ready all = all

-- and the sessions
sessions-grown : (c : Configuration) (maker : Option Maker) (growth : Growth) (s : State) → GrowthReady c maker growth s → AllByRecursion (λ f. IsSessionRole f.role) s.sessions → AllByRecursion (λ f. IsSessionRole f.role) (grown c maker growth s).sessions
sessions-grown c maker (Growth.Session role) s ready all = all-push (λ (f : SessionFacts). IsSessionRole f.role) s.sessions _ all ready.1.1
sessions-grown c None _ s ready all = all
sessions-grown c (Some maker) _ s ready all = all

-- each record of the grown state has one
spelled-grown : (c : Configuration) (maker : Option Maker) (growth : Growth) (s : State) → GrowthReady c maker growth s → HasSpellings s → HasSpellings (grown c maker growth s)
spelled-grown c maker growth s ready spelled = record {
  requests = requests-grown c maker growth s ready spelled.requests;
  nodes = nodes-grown c maker growth s ready spelled.nodes;
  jobs = subst (AllByRecursion IsJob) (sym (jobs-grown c maker growth s)) spelled.jobs;
  launchers = subst (AllByRecursion IsRole) (sym (same-roles c maker growth s).0) spelled.launchers;
  janitors = subst (AllByRecursion IsRole) (sym (same-roles c maker growth s).1.0) spelled.janitors;
  requesters = subst (AllByRecursion IsRole) (sym (same-roles c maker growth s).1.1) spelled.requesters;
  sessions = sessions-grown c maker growth s ready spelled.sessions;
}

-- ## the state after the call, and after a session's end

-- table after table leaves the state after the call
called-is : (c : Configuration) (ch : Changes) (g : State) (change : SessionsChange) → with_all c (record ch { sessions = change }) g ≡ settled c (record ch { sessions = in_call change }) g
called-is c ch g change = grind arith

-- the end of a session leaves the changed state
abbrev pub state_with_end : SessionsChange → State → State
state_with_end (SessionsChange.End session) s = without_session session s
state_with_end other s = s

changed-is : (c : Configuration) (ch : Changes) (g : State) (change : SessionsChange) → state_with_end change (settled c (record ch { sessions = in_call change }) g) ≡ settled c (record ch { sessions = change }) g
changed-is c ch g change = grind arith

-- sessions count from one
first-session : (session : SessionId) (s : State) (facts : SessionFacts) → session_of session s ≡ Some facts → 1 ≤ session.0
first-session session s facts there = grind (arith, nat_tests)

-- ## the whole

-- what is left when a session has ended, or none has
record IsLeft (later : State) (t : TreeState) (number more : ℕ) : Type 0 where
  whole : IsWhole t.nodes
  good : HasGoodIds later
  lays : LaysOut later t
  numbers : t.changes ≤ number + 1
  room : HasRoomFor more t

left-by : (s : State) (ch : Changes) (change : SessionsChange) → SessionsPremise s ch change → (later : State) (u : TreeState) (w more : ℕ) → u.changes + 1 < 18_446_744_073_709_551_615 → Stands later u w more → IsLeft (state_with_end change later) (with_end change u) u.changes more
left-by s ch (SessionsChange.End session) premise later u w more low stands =
    let next = low-min (u.changes + 1) 18_446_744_073_709_551_615 in
    record {
      whole = IsWhole-after_end (next_change u) (tree_session session) u.nodes stands.whole;
      good = good-ended later session stands.good;
      lays = session_ends-lay-out later u session stands.whole stands.good stands.lays (first-session session s premise.facts premise.begun);
      numbers = next;
      room = room-ended u (tree_session session) more stands.whole (omega arith) stands.room;
    }
left-by s ch _ premise later u w more low stands = record { whole = stands.whole; good = stands.good; lays = stands.lays; numbers = omega arith; room = stands.room }

-- a session that begins after the parts, or none
record BeginsLast (growth : Growth) (t : TreeState) (w : ℕ) (parts : List Op) : Type 0 where
  goes : Goes t w parts (after_parts t w parts)
  is : after_parts (with_begin growth t) w parts ≡ with_begin growth (after_parts t w parts)

begin-last : (growth : Growth) (t : TreeState) (w : ℕ) (parts : List Op) → is_in t.live w ≡ true → Goes (with_begin growth t) w parts (after_parts (with_begin growth t) w parts) → BeginsLast growth t w parts
begin-last (Growth.Session role) t w parts live goes = record { goes = goes-begun t w parts live goes; is = parts-begun t w parts }
begin-last _ t w parts live goes = record { goes = goes; is = refl }

-- the begin of a session does not see the number
begin-numbered : (growth : Growth) (t : TreeState) (number : ℕ) → with_begin growth (numbered number t) ≡ numbered number (with_begin growth t)
begin-numbered growth t number = grind arith

module _ (growths : GrowthsEnact) (tables : TablesEnact) (c : Configuration) (ch : Changes) (s : State) (t : TreeState) (more : ℕ) (ready : IsReady c ch s) (stands : Stands s t (writer ch.maker) (more + 64)) (low : t.changes + 2 < 18_446_744_073_709_551_615) where
  abbrev w : ℕ
  w = writer ch.maker

  abbrev g : State
  g = grown c ch.maker ch.grows s

  abbrev u : TreeState
  u = after_parts (with_begin ch.grows t) w (grown_parts c ch.maker ch.grows s)

  abbrev parts : List Op
  parts = parts_of c ch s t

  grown-enacts : Enacts (with_begin ch.grows t) w (grown_parts c ch.maker ch.grows s) g (more + 56)
  grown-enacts = growths c ch.maker ch.grows s t (more + 56) (stands-less s t w (more + 64) (more + 56 + 8) (omega arith) stands) ready.grows

  all-enacts : Enacts (with_begin ch.grows t) w parts (called c ch s) (more + 16)
  all-enacts =
      subst (λ (later : State). Enacts (with_begin ch.grows t) w parts later (more + 16)) (called-is c ch g ch.sessions)
      (enacts-joined g (with_all c ch g) (with_begin ch.grows t) w (grown_parts c ch.maker ch.grows s) (settled_parts c ch s t) (more + 56) (more + 16) grown-enacts
      (subst (λ (rest : List Op). Enacts u w rest (with_all c ch g) (more + 16)) (settled-current c ch s t ready.premises ready.apart)
      (settled-enact tables c ch s t (more + 16) ready (spelled-grown c ch.maker ch.grows s ready.grows ready.spelled) (subst HasSpellings (sym (called-is c ch g ch.sessions)) ready.spelled_later) (stands-less g u w (more + 56) (more + 16 + 40) (omega arith) grown-enacts.leaves))))

  -- the changes of an accepted event are enacted
  pub events-enact : IsEnacted c ch s t more
  events-enact =
      let begins = begin-last ch.grows t w parts stands.live all-enacts.goes in
      let number = number-of t w parts begins.goes in
      let v : TreeState = numbered number.number (after_parts (with_begin ch.grows t) w parts) in
      let called_tree : with_begin ch.grows (after_multi t w parts) ≡ v =
      ap (with_begin ch.grows) number.is ∙ begin-numbered ch.grows (after_parts t w parts) number.number ∙ ap (numbered number.number) (sym begins.is) in
      let small = number.low in
      let stands_called : Stands (called c ch s) v w more =
      stands-numbered (called c ch s) (after_parts (with_begin ch.grows t) w parts) w more number.number (omega arith) (stands-less (called c ch s) (after_parts (with_begin ch.grows t) w parts) w (more + 16) more (omega arith) all-enacts.leaves) in
      let left : IsLeft (changed c ch s) (enacted c ch s t) v.changes more =
      subst (λ (x : TreeState). IsLeft (changed c ch s) x v.changes more) (ap (with_end ch.sessions) (sym called_tree))
      (subst (λ (later : State). IsLeft later (with_end ch.sessions v) v.changes more) (changed-is c ch g ch.sessions) (left-by s ch ch.sessions ready.premises.sessions (called c ch s) v w more (omega arith) stands_called)) in
      record { goes = begins.goes; whole = left.whole; good = left.good; lays = left.lays; numbers = omega (arith, left.numbers); room = left.room }

-- # every accepted event is enacted

-- the law on whole events, of an accepted one
pub events-are-enacted : EventsEnact → EventsAreReady → StepsAreCarried → ((c : Configuration) (s : State) (e : Event) → is_ok (judge c s e) ≡ true → changed c (plan c s e) s ≡ next c s e) → EventsAreEnacted
events-are-enacted enact ready carried lead c s e t more accepted stands low =
    let done : IsEnacted c (plan c s e) s t more = enact c (plan c s e) s t more (ready c s e accepted) stands low in
    let lays = subst (λ (later : State). LaysOut later (enacted c (plan c s e) s t)) (lead c s e accepted.accepted) done.lays in
    (done, record { whole = done.whole; lays = lays; carried = carried c s e accepted })
