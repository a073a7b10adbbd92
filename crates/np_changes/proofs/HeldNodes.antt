-- who is first in a queue, what takes a hold away, and who is first at a node stays first
use Rattle.np_changes.proofs.Prelude.{Bool, List, None, Option, SessionId, Some, [], ahead_of, ap, arith, eq-eqb, false, holder, is_held, is_session, is_session_of, joined, left, nat_tests, place_reply, refl, sym, true, ℕ, ◌==◌, ◌∙◌, ◌∷◌, ◌≡◌, Changes, Configuration, Event, Growth, Maker, NodeId, NodesChange, RequestId, RequestsChange, SessionsChange, State, is_ending, is_unlocking, maker, plan, same_request, ◌&&◌, NodeEntry, NodeRecord, TenantId, allocated, and-apart, change_first, changed, grown, node_holder, node_in, node_queue, nodes_changed, nodes_left, put_node_queue, some-unless, subst, ◌++◌}
use Rattle.np_changes.proofs.Lookups.{same_node-is, node_queue-put, node_queue-freed, node_queue-in_use, node_queue-allocated, node_queue-queue, node_queue-nowhere, node_queue-left, node_queue-push, node_queue-remove}

-- # who is first in a queue

-- ## sessions with one number

-- at most one session is named
pub one-named : (a b : SessionId) (o : Option SessionId) → is_session_of a o ≡ true → is_session_of b o ≡ true → a.0 ≡ b.0
one-named a b o first second = grind (arith, nat_tests)

-- ## the first of a queue

abbrev pub is_first : SessionId → List SessionId → Bool
is_first session queue = is_session_of session (holder queue)

pub first-in : {a b : List SessionId} (session : SessionId) → a ≡ b → is_first session b ≡ true → is_first session a ≡ true
first-in session same first = ap (λ (queue : List SessionId). is_first session queue) same ∙ first

-- a session that joins goes behind the others
pub first-joined : (session by : SessionId) (queue : List SessionId) → is_first session queue ≡ true → is_first session (joined by queue) ≡ true
first-joined session by [] first = absurd cc
first-joined session by (other ∷ queue) first = grind (arith, nat_tests)

apart : (a b k : ℕ) → (a == k) ≡ true → (b == k) ≡ false → (a == b) ≡ false
apart a b k is not_so = grind (arith, nat_tests)

-- another session leaves
pub first-left : (session by : SessionId) (queue : List SessionId) → is_session by session ≡ false → is_first session queue ≡ true → is_first session (left by queue) ≡ true
first-left session by [] other_one first = absurd cc
first-left session by (other ∷ queue) other_one first = rw (apart other.0 by.0 session.0 first other_one) first

pub first-alone : (session : SessionId) (queue : List SessionId) → holder queue ≡ None → is_first session (joined session queue) ≡ true
first-alone session [] none = eq-eqb session.0 session.0 refl
first-alone session (other ∷ queue) none = absurd cc

-- a session with nobody before it is first after joining, or was already
pub first-held : (session : SessionId) (queue : List SessionId) → is_held (place_reply (ahead_of session queue)) ≡ true → is_first session (joined session queue) ≡ true
first-held session [] held = eq-eqb session.0 session.0 refl
first-held session (other ∷ queue) held = grind (arith, nat_tests)

-- # what the changes of an event take away: a hold on a node or a request, only from the session that the event says

-- ## what the session keeps

-- another session leaves, or the session leaves another node
abbrev pub LeavesOther : SessionId → NodeId → Option Maker → NodeId → Type 0
LeavesOther session n None m = Unit {0}
LeavesOther session n (Some by) m = (is_session by.session session && (m.0 == n.0)) ≡ false

abbrev pub NodeStays : SessionId → NodeId → Option Maker → NodesChange → Type 0
NodeStays session n maker (NodesChange.Remove m) = (m.0 == n.0) ≡ false
NodeStays session n maker (NodesChange.Leave m) = LeavesOther session n maker m
NodeStays session n maker _ = Unit {0}

-- another session leaves, or the session leaves another request
abbrev pub UnlocksOther : SessionId → RequestId → Option Maker → RequestId → Type 0
UnlocksOther session r None q = Unit {0}
UnlocksOther session r (Some by) q = (is_session by.session session && same_request q r) ≡ false

-- a request may be removed if nothing grows at the same time
abbrev pub RequestStays : SessionId → RequestId → Option Maker → Growth → RequestsChange → Type 0
RequestStays session r maker grows (RequestsChange.Remove q) = grows ≡ Growth.Nothing
RequestStays session r maker grows (RequestsChange.Leave q) = UnlocksOther session r maker q
RequestStays session r maker grows _ = Unit {0}

-- another session ends, or none does
abbrev pub SessionStays : SessionId → SessionsChange → Type 0
SessionStays session (SessionsChange.End other) = is_session other session ≡ false
SessionStays session _ = Unit {0}

pub record KeepsNode (session : SessionId) (n : NodeId) (ch : Changes) : Type 0 where
  pub place : NodeStays session n ch.maker ch.nodes
  pub lives : SessionStays session ch.sessions

pub record KeepsRequest (session : SessionId) (r : RequestId) (ch : Changes) : Type 0 where
  pub place : RequestStays session r ch.maker ch.grows ch.requests
  pub lives : SessionStays session ch.sessions

-- a session keeps everything that the event does not say it loses
pub record TakesAsSaid (e : Event) (ch : Changes) : Type 0 where
  pub of_node : (session : SessionId) (n : NodeId) → is_ending session n e ≡ false → KeepsNode session n ch
  pub of_request : (session : SessionId) (r : RequestId) → is_unlocking session r e ≡ false → KeepsRequest session r ch

-- ## changes that take nothing from anybody

abbrev is_quiet_node : NodesChange → Bool
is_quiet_node (NodesChange.Remove m) = false
is_quiet_node (NodesChange.Leave m) = false
is_quiet_node _ = true

abbrev is_quiet_request : RequestsChange → Bool
is_quiet_request (RequestsChange.Remove q) = false
is_quiet_request (RequestsChange.Leave q) = false
is_quiet_request _ = true

abbrev is_quiet_session : SessionsChange → Bool
is_quiet_session (SessionsChange.End other) = false
is_quiet_session _ = true

abbrev is_quiet : Changes → Bool
is_quiet ch = is_quiet_node ch.nodes && is_quiet_request ch.requests && is_quiet_session ch.sessions

quiet : (e : Event) (ch : Changes) → is_quiet ch ≡ true → TakesAsSaid e ch
quiet e ch is = grind (arith, nat_tests)

-- ## all events

pub takes-as_said : (c : Configuration) (s : State) (e : Event) → TakesAsSaid e (plan c s e)
takes-as_said c s (Event.Expire other) = grind (arith, nat_tests)
takes-as_said c s (Event.UnlockRequest by q) = grind (arith, nat_tests)
takes-as_said c s (Event.Fulfil by r) = grind (arith, nat_tests)
takes-as_said c s (Event.UnlockNode by m) = grind (arith, nat_tests)
takes-as_said c s (Event.Take by j) = grind (arith, nat_tests)
takes-as_said c s (Event.Withdraw by j) = grind (arith, nat_tests)
takes-as_said c s (Event.Gone by m) = grind (arith, nat_tests)
takes-as_said c s e = quiet e _ (grind (arith, nat_tests))

-- # who is first at a node stays first, if the changes do not take that away

module _ (session : SessionId) (n : NodeId) where
  pub record IsFirstAt (rows : List NodeEntry) : Type 0 where
    pub first : is_session_of session (node_holder n rows) ≡ true

  -- if somebody is first, the node exists
  stands : (rows : List NodeEntry) → IsFirstAt rows → (k : NodeRecord) × (node_in n rows ≡ Some k)
  stands rows held = some-unless (node_in n rows) (λ none. let nobody : is_first session [] ≡ true = first-in session (sym (node_queue-nowhere n rows none)) held.first in cc)

  pub same-queue : (rows later : List NodeEntry) → node_queue n later ≡ node_queue n rows → IsFirstAt rows → IsFirstAt later
  same-queue rows later same held = record { first = first-in session same held.first }

  -- another queue of a node
  queue-put : (m : NodeId) (queue : List SessionId) (rows : List NodeEntry) → ((m.0 == n.0) ≡ true → is_first session queue ≡ true) → IsFirstAt rows → IsFirstAt (put_node_queue m queue rows)
  queue-put m queue rows new held =
      let found : (k : NodeRecord) × (node_in n rows ≡ Some k) = stands rows held in
      record { first = first-in session (node_queue-queue m n queue found.0 rows found.1) (grind (arith, nat_tests, held.first)) }

  -- the same for the queue that is found
  at-node : (m : NodeId) (rows : List NodeEntry) → IsFirstAt rows → (m.0 == n.0) ≡ true → is_first session (node_queue m rows) ≡ true
  at-node m rows held is = subst (λ (x : NodeId). is_first session (node_queue x rows) ≡ true) (sym (same_node-is m n is)) held.first

  allocated-first : (m : NodeId) (r : RequestId) (tenant : Option TenantId) (by : SessionId) (rows : List NodeEntry) → IsFirstAt rows → IsFirstAt (change_first (λ e. e.id.0 == m.0) (allocated r tenant by) rows)
  allocated-first m r tenant by rows held =
      let found : (k : NodeRecord) × (node_in n rows ≡ Some k) = stands rows held in
      let joins : is_first session (joined by (node_queue n rows)) ≡ true = first-joined session by (node_queue n rows) held.first in
      record { first = first-in session (node_queue-allocated m n r tenant by found.0 rows found.1) (grind (arith, nat_tests, joins, held.first)) }

  -- ## by the kind of change

  grown-first : (c : Configuration) (s : State) (maker : Option Maker) (growth : Growth) → IsFirstAt s.nodes → IsFirstAt (grown c maker growth s).nodes
  grown-first c s maker (Growth.Registration p) held = grind (arith, nat_tests)
  grown-first c s maker (Growth.Node kept) held = let found = stands s.nodes held in same-queue s.nodes _ (node_queue-push _ n found.0 s.nodes found.1) held
  grown-first c s (Some by) (Growth.JoinNode m) held =
      queue-put m (joined by.session (node_queue m s.nodes)) s.nodes (λ is. first-joined session by.session (node_queue m s.nodes) (at-node m s.nodes held is)) held
  grown-first c s (Some by) (Growth.Allocate m r tenant) held = allocated-first m r tenant by.session s.nodes held
  grown-first c s maker _ held = held

  nodes-first : (maker : Option Maker) (tick : ℕ) (change : NodesChange) (rows : List NodeEntry) → NodeStays session n maker change → IsFirstAt rows → IsFirstAt (nodes_changed maker tick change rows)
  nodes-first maker tick (NodesChange.Put m kept) rows stays held = same-queue rows _ (node_queue-put m n kept rows) held
  nodes-first maker tick (NodesChange.Remove m) rows stays held = same-queue rows _ (node_queue-remove m n rows stays) held
  nodes-first (Some by) tick (NodesChange.Leave m) rows stays held =
      queue-put m (left by.session (node_queue m rows)) rows
      (λ is. first-left session by.session (node_queue m rows) (and-apart (is_session by.session session) (m.0 == n.0) stays is) (at-node m rows held is)) held
  nodes-first maker tick (NodesChange.FreeAll r) rows stays held = same-queue rows _ (node_queue-freed r n rows) held
  nodes-first maker tick (NodesChange.TakeOver numbers) rows stays held = same-queue rows _ (node_queue-in_use tick numbers n rows) held
  nodes-first maker tick _ rows stays held = held

  left-first : (change : SessionsChange) (rows : List NodeEntry) → SessionStays session change → IsFirstAt rows → IsFirstAt (nodes_left change rows)
  left-first (SessionsChange.End other) rows lives held = record { first = first-in session (node_queue-left other n rows) (first-left session other (node_queue n rows) lives held.first) }
  left-first _ rows lives held = held

  -- ## all of it

  pub changed-first : (c : Configuration) (s : State) (ch : Changes) → KeepsNode session n ch → IsFirstAt s.nodes → IsFirstAt (changed c ch s).nodes
  changed-first c s ch keeps held =
      let t : State = grown c ch.maker ch.grows s in
      left-first ch.sessions (nodes_changed ch.maker t.tick ch.nodes t.nodes) keeps.lives
      (nodes-first ch.maker t.tick ch.nodes t.nodes keeps.place (grown-first c s ch.maker ch.grows held))
