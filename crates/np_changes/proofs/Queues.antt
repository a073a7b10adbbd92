-- live sessions alone are registered and wait in the queues, and who waits after an event
use Rattle.np_changes.proofs.Prelude.{insert_request, remove_request, from-map_some, kept-change_at, list_any-append, Bool, Changes, Configuration, Growth, IsLive, List, Maker, None, Option, SessionFacts, SessionId, SessionsChange, SessionsPremise, Some, State, [], ap, arith, change_session, changed, cond, ended, false, grown, is_session, muted, nat_tests, option_map, refl, session_of, sessions_changed, slice_get, slice_get-change_at_other, subst, suc, sym, true, zero, ℕ, ◌++◌, ◌-◌, ◌==◌, ◌∙◌, ◌∷◌, ◌≡◌, ◌≢◌, AllByRecursion, GrowthPremise, IsLauncher, IsRegistered, MakerPremise, PoolId, Premises, Registration, Rises, Rises-filter, all-filter_to, all-insert_before, all-weaker, nat_lt, not, registered, registrations_left, DistinctSessions, IsLiveQueue, IsQueued, Locked, NodeEntry, NodeId, NodesChange, RequestEntry, RequestId, RequestsChange, all-change_first, all-filter, all-mapped, all-push, all-remove_first, allocated, edited, freed_from, holder, is_queued, joined, left, length, length-filter_at_most, node_left, node_queue, nodes_changed, nodes_left, option_map_or, request_left, request_queue, requests_changed, requests_left, same_request, ◌≤◌, IsNumbered, is_id_before, new_record, next_id, put_request_queue, request-equal, ◌<◌}
use Rattle.np_lists.proofs.Plain.{by_bool}
use Rattle.np_changes.proofs.Shapes.{all-in_use, found-meets}
use Rattle.np_changes.proofs.Lookups.{freed-queue, grown-numbered, request_in-later, request_in-queue, request_queue-edit, request_queue-insert, request_queue-left, request_queue-new, request_queue-nowhere, request_queue-queue, request_queue-remove, request_queue-removed, rises-insert_before, same-seq}

-- # which sessions stay live

-- the session is found with these facts among the sessions
abbrev pub facts_in : SessionId → List SessionFacts → Option SessionFacts
facts_in session rows = cond (session.0 == 0) None (slice_get rows (session.0 - 1))

-- found, with the role and live
pub record StaysLive (session : SessionId) (facts : SessionFacts) (rows : List SessionFacts) : Type 0 where
  pub later : SessionFacts
  pub begun : facts_in session rows ≡ Some later
  pub role : later.role ≡ facts.role
  pub live : later.live ≡ facts.live

get-push : {X : Type 0} (xs : List X) (new : X) (i : ℕ) (x : X) → slice_get xs i ≡ Some x → slice_get (xs ++ new ∷ []) i ≡ Some x
get-push [] new i x is = absurd cc
get-push (y ∷ xs) new zero x is = is
get-push (y ∷ xs) new (suc i) x is = get-push xs new i x is

facts-push : (session : SessionId) (rows : List SessionFacts) (new facts : SessionFacts) → facts_in session rows ≡ Some facts → facts_in session (rows ++ new ∷ []) ≡ Some facts
facts-push session rows new facts is = grind (arith, nat_tests, get-push rows new (session.0 - 1) facts)

-- whatever grows
pub facts-grown : (c : Configuration) (maker : Option Maker) (growth : Growth) (s : State) (session : SessionId) (facts : SessionFacts) → facts_in session s.sessions ≡ Some facts → facts_in session (grown c maker growth s).sessions ≡ Some facts
facts-grown c maker (Growth.Session role) s session facts is = facts-push session s.sessions _ facts is
facts-grown c None (Growth.Registration p) s session facts is = is
facts-grown c (Some maker) (Growth.Registration p) s session facts is = is
facts-grown c maker _ s session facts is = is

-- a session is as before when one becomes mute
kept-session : (quiet session : SessionId) (facts : SessionFacts) (rows : List SessionFacts) → facts_in session rows ≡ Some facts → StaysLive session facts (change_session quiet muted rows)
kept-session quiet session facts rows is =
    let same : option_map muted (facts_in session (change_session quiet muted rows)) ≡ option_map muted (facts_in session rows) =
    by_bool (λ (b : Bool). option_map muted (cond b None (slice_get (change_session quiet muted rows) (session.0 - 1))) ≡ option_map muted (cond b None (slice_get rows (session.0 - 1)))) (session.0 == 0)
    (λ _. refl) (λ _. kept-change_at (λ (o : Option SessionFacts). option_map muted o) (quiet.0 - 1) (session.0 - 1) muted rows (λ x. refl)) in
    let found = from-map_some muted (facts_in session (change_session quiet muted rows)) (muted facts) (same ∙ ap (λ (o : Option SessionFacts). option_map muted o) is) in
    record { later = found.0; begun = found.1; role = ap (λ (x : SessionFacts). x.role) found.2; live = ap (λ (x : SessionFacts). x.live) found.2 }

-- a session other than the one that ends
other-session : (over session : SessionId) (facts last : SessionFacts) (rows : List SessionFacts) → facts_in over rows ≡ Some last → is_session session over ≡ false → facts_in session rows ≡ Some facts → StaysLive session facts (change_session over ended rows)
other-session over session facts last rows begun other is =
    let apart : session.0 - 1 ≢ over.0 - 1 = λ e. absurd (grind (arith, nat_tests)) in
    record { later = facts; begun = rw (slice_get-change_at_other (over.0 - 1) (session.0 - 1) ended rows apart) is; role = refl; live = refl }

-- the session is not the one that ends
abbrev pub IsNotOver : SessionsChange → SessionId → Type 0
IsNotOver SessionsChange.Same session = Unit {0}
IsNotOver (SessionsChange.Mute other) session = Unit {0}
IsNotOver (SessionsChange.End over) session = is_session session over ≡ false

facts-settled : (s : State) (ch : Changes) (change : SessionsChange) → SessionsPremise s ch change → (session : SessionId) (facts : SessionFacts) (rows : List SessionFacts)
    → ((over : SessionId) (last : SessionFacts) → session_of over s ≡ Some last → facts_in over rows ≡ Some last) → IsNotOver change session → facts_in session rows ≡ Some facts → StaysLive session facts (sessions_changed change rows)
facts-settled s ch SessionsChange.Same premise session facts rows grew other is = record { later = facts; begun = is; role = refl; live = refl }
facts-settled s ch (SessionsChange.Mute quiet) premise session facts rows grew other is = kept-session quiet session facts rows is
facts-settled s ch (SessionsChange.End over) premise session facts rows grew other is = other-session over session facts premise.facts rows (grew over premise.facts premise.begun) other is

-- a session that was there is there, and live if it was, unless it is the one that ends
pub facts-stay : (c : Configuration) (s : State) (ch : Changes) → SessionsPremise s ch ch.sessions → (session : SessionId) (facts : SessionFacts) → session_of session s ≡ Some facts → IsNotOver ch.sessions session → StaysLive session facts (changed c ch s).sessions
facts-stay c s ch premise session facts is other =
    facts-settled s ch ch.sessions premise session facts (grown c ch.maker ch.grows s).sessions (λ over last begun. facts-grown c ch.maker ch.grows s over last begun) other (facts-grown c ch.maker ch.grows s session facts is)

pub live-stays : (c : Configuration) (s : State) (ch : Changes) → SessionsPremise s ch ch.sessions → (session : SessionId) → IsLive s session → IsNotOver ch.sessions session → IsLive (changed c ch s) session
live-stays c s ch premise session is other =
    let stays = facts-stay c s ch premise session is.facts is.begun other in
    record { facts = stays.later; begun = stays.begun; live = stays.live ∙ is.live }

-- # each registration is of a live launcher of its pool, at most one per pool

abbrev by_pool : Registration → Registration → Bool
by_pool a b = nat_lt a.pool.0 b.pool.0

-- of live launchers, in the order of their pools
record AreRegistrations (s : State) (rows : List Registration) : Type 0 where
  each : AllByRecursion (λ g. IsLauncher s g.pool g.session) rows
  rise : Rises by_pool rows

through_pools : (a b k : Registration) → by_pool a b ≡ true → by_pool b k ≡ true → by_pool a k ≡ true
through_pools a b k first second = grind (arith, nat_tests)

-- a pool that is not registered differs from each that is
apart-all : (new : Registration) (rows : List Registration) → registered new.pool rows ≡ None → AllByRecursion (λ g. by_pool new g ≡ false → by_pool g new ≡ true) rows
apart-all new [] none = tt
apart-all new (g ∷ rows) none = (λ out. grind (arith, nat_tests), apart-all new rows (grind (arith, nat_tests)))

registrations-grown : (c : Configuration) (s : State) (ch : Changes) (maker : Option Maker) (growth : Growth) → ch.maker ≡ maker → MakerPremise s maker → GrowthPremise c s ch growth → AreRegistrations s s.registrations → AreRegistrations s (grown c maker growth s).registrations
registrations-grown c s ch None (Growth.Registration p) is heard premise old = old
registrations-grown c s ch (Some maker) (Growth.Registration p) is heard premise old =
    let new : IsLauncher s p maker.session = grind (arith, nat_tests, is, premise.made_by, heard) in
    record {
      each = all-insert_before (λ (g : Registration). IsLauncher s g.pool g.session) (λ g. nat_lt p.0 g.pool.0) (record { pool = p; session = maker.session }) s.registrations new old.each;
      rise = rises-insert_before by_pool through_pools (record { pool = p; session = maker.session }) s.registrations (apart-all (record { pool = p; session = maker.session }) s.registrations premise.free) old.rise;
    }
registrations-grown c s ch maker _ is heard premise old = old

module _ (c : Configuration) (s : State) (ch : Changes) (premise : SessionsPremise s ch ch.sessions) where
  launcher-stays : (p : PoolId) (session : SessionId) → IsNotOver ch.sessions session → IsLauncher s p session → IsLauncher (changed c ch s) p session
  launcher-stays p session other is =
      let stays = facts-stay c s ch premise session is.facts is.begun other in
      record { facts = stays.later; begun = stays.begun; live = stays.live ∙ is.live; role = stays.role ∙ is.role }

  registrations-after_end : (change : SessionsChange) → ch.sessions ≡ change → (rows : List Registration) → AreRegistrations s rows → AreRegistrations (changed c ch s) (registrations_left change rows)
  registrations-after_end (SessionsChange.End over) is rows old = record {
    each = all-filter_to (λ (g : Registration). IsLauncher s g.pool g.session) (λ (g : Registration). IsLauncher (changed c ch s) g.pool g.session) (λ g. not (is_session g.session over)) rows
        (λ g keeps launcher. launcher-stays g.pool g.session (rw is (let other : is_session g.session over ≡ false = grind (arith, nat_tests) in other)) launcher) old.each;
    rise = Rises-filter by_pool (λ g. not (is_session g.session over)) rows old.rise;
  }
  registrations-after_end _ is rows old = record {
    each = all-weaker (λ (g : Registration). IsLauncher s g.pool g.session) (λ (g : Registration). IsLauncher (changed c ch s) g.pool g.session) (λ g launcher. launcher-stays g.pool g.session (rw is tt) launcher) rows old.each;
    rise = old.rise;
  }

pub registered-still : (c : Configuration) (s : State) (ch : Changes) → IsRegistered s → Premises c s ch → IsRegistered (changed c ch s)
registered-still c s ch old premises =
    let later : AreRegistrations (changed c ch s) (changed c ch s).registrations =
    registrations-after_end c s ch premises.sessions ch.sessions refl (grown c ch.maker ch.grows s).registrations
    (registrations-grown c s ch ch.maker ch.grows refl premises.maker premises.grows (record { each = old.of_launcher; rise = old.one_a_pool })) in
    record { of_launcher = later.each; one_a_pool = later.rise }

-- # live sessions wait in the queues, none twice in one, and at most one at a request

-- ## one queue

sessions-push : (new : SessionId) (queue : List SessionId) → DistinctSessions queue → is_queued new queue ≡ false → DistinctSessions (queue ++ new ∷ [])
sessions-push new [] once out = (refl, tt)
sessions-push new (first ∷ queue) once out =
    (grind (arith, nat_tests, once.0, list_any-append (λ (other : SessionId). is_session other first) queue (new ∷ [])), sessions-push new queue once.1 (grind (arith, nat_tests)))

not_queued-left : (session gone : SessionId) (queue : List SessionId) → is_queued session queue ≡ false → is_queued session (left gone queue) ≡ false
not_queued-left session gone [] out = refl
not_queued-left session gone (first ∷ queue) out = grind (arith, nat_tests, not_queued-left session gone queue)

distinct-left : (gone : SessionId) (queue : List SessionId) → DistinctSessions queue → DistinctSessions (left gone queue)
distinct-left gone [] once = tt
distinct-left gone (first ∷ queue) once =
    let later = distinct-left gone queue once.1 in
    by_bool (λ (b : Bool). DistinctSessions (cond (not b) (first ∷ left gone queue) (left gone queue))) (is_session first gone) (λ _. later) (λ _. (not_queued-left first gone queue once.0, later))

distinct-joined : (new : SessionId) (queue : List SessionId) → DistinctSessions queue → DistinctSessions (joined new queue)
distinct-joined new queue once = by_bool (λ (b : Bool). DistinctSessions (cond b queue (queue ++ new ∷ []))) (is_queued new queue) (λ _. once) (λ out. sessions-push new queue once out)

-- each member still meets the condition after one more or less
pub all-joined : (P : SessionId → Type 0) (session : SessionId) (queue : List SessionId) → AllByRecursion P queue → P session → AllByRecursion P (joined session queue)
all-joined P session queue all is = by_bool (λ (b : Bool). AllByRecursion P (cond b queue (queue ++ session ∷ []))) (is_queued session queue) (λ _. all) (λ _. all-push P queue session all is)

pub all-left : (P : SessionId → Type 0) (session : SessionId) (queue : List SessionId) → AllByRecursion P queue → AllByRecursion P (left session queue)
all-left P session queue all = all-filter P (λ other. not (is_session other session)) queue all

-- a queue of live sessions, none twice, stays one
live-joined : (s : State) (new : SessionId) (queue : List SessionId) → IsLive s new → IsLiveQueue s queue → IsLiveQueue s (joined new queue)
live-joined s new queue live old = record { live = all-joined (IsLive s) new queue old.live live; once = distinct-joined new queue old.once }

live-left : (s : State) (gone : SessionId) (queue : List SessionId) → IsLiveQueue s queue → IsLiveQueue s (left gone queue)
live-left s gone queue old = record { live = all-left (IsLive s) gone queue old.live; once = distinct-left gone queue old.once }

-- ## the queues of all rows

abbrev Queues : {I K : Type 0} → (List SessionId → Type 0) → List (Locked I K) → Type 0
Queues Q rows = AllByRecursion (λ e. Q e.queue) rows

-- what holds of an empty queue, and continues to hold if a session joins or leaves
module _ (Q : List SessionId → Type 0) (empty : Q []) where
  request-line : (r : RequestId) (rows : List RequestEntry) → Queues Q rows → Q (request_queue r rows)
  request-line r rows all = found-meets (λ (e : RequestEntry). Q e.queue) (λ (o : Option RequestEntry). Q (option_map_or (λ e. e.queue) o [])) _ rows all empty (λ e is. is)

  node-line : (n : NodeId) (rows : List NodeEntry) → Queues Q rows → Q (node_queue n rows)
  node-line n rows all = found-meets (λ (e : NodeEntry). Q e.queue) (λ (o : Option NodeEntry). Q (option_map_or (λ e. e.queue) o [])) _ rows all empty (λ e is. is)

  requests-grown : (c : Configuration) (maker : Option Maker) (growth : Growth) (s : State)
      → ((m : Maker) (r : RequestId) → maker ≡ Some m → growth ≡ Growth.JoinRequest r → Q (request_queue r s.requests) → Q (joined m.session (request_queue r s.requests))) → Queues Q s.requests → Queues Q (grown c maker growth s).requests
  requests-grown c None (Growth.Registration p) s joins old = old
  requests-grown c (Some maker) (Growth.Registration p) s joins old = old
  requests-grown c maker (Growth.Request priority asked) s joins old = all-insert_before (λ (e : RequestEntry). Q e.queue) _ _ s.requests empty old
  requests-grown c (Some maker) (Growth.JoinRequest r) s joins old = all-change_first (λ (e : RequestEntry). Q e.queue) _ _ s.requests (λ e is. joins maker r refl refl (request-line r s.requests old)) old
  requests-grown c maker _ s joins old = old

  nodes-grown : (c : Configuration) (maker : Option Maker) (growth : Growth) (s : State) → ((m : Maker) (queue : List SessionId) → maker ≡ Some m → Q queue → Q (joined m.session queue)) → Queues Q s.nodes → Queues Q (grown c maker growth s).nodes
  nodes-grown c None (Growth.Registration p) s joins old = old
  nodes-grown c (Some maker) (Growth.Registration p) s joins old = old
  nodes-grown c None (Growth.Node kept) s joins old = all-push (λ (e : NodeEntry). Q e.queue) s.nodes _ old empty
  nodes-grown c (Some maker) (Growth.Node kept) s joins old = all-push (λ (e : NodeEntry). Q e.queue) s.nodes _ old (joins maker [] refl empty)
  nodes-grown c (Some maker) (Growth.JoinNode n) s joins old = all-change_first (λ (e : NodeEntry). Q e.queue) _ _ s.nodes (λ e is. joins maker (node_queue n s.nodes) refl (node-line n s.nodes old)) old
  nodes-grown c (Some maker) (Growth.Allocate n r tenant) s joins old = all-change_first (λ (e : NodeEntry). Q e.queue) _ (allocated r tenant maker.session) s.nodes (λ e is. joins maker e.queue refl is) old
  nodes-grown c maker _ s joins old = old

  module _ (leaves : (session : SessionId) (queue : List SessionId) → Q queue → Q (left session queue)) where
    requests-settled : (maker : Option Maker) (change : RequestsChange) (rows : List RequestEntry) → Queues Q rows → Queues Q (requests_changed maker change rows)
    requests-settled maker (RequestsChange.Edit r edit) rows old = all-change_first (λ (e : RequestEntry). Q e.queue) _ _ rows (λ e is. is) old
    requests-settled maker (RequestsChange.Remove r) rows old = all-remove_first (λ (e : RequestEntry). Q e.queue) _ rows old
    requests-settled (Some maker) (RequestsChange.Leave r) rows old = all-change_first (λ (e : RequestEntry). Q e.queue) _ _ rows (λ e is. leaves maker.session (request_queue r rows) (request-line r rows old)) old
    requests-settled maker _ rows old = old

    nodes-settled : (maker : Option Maker) (tick : ℕ) (change : NodesChange) (rows : List NodeEntry) → Queues Q rows → Queues Q (nodes_changed maker tick change rows)
    nodes-settled maker tick (NodesChange.Put n kept) rows old = all-change_first (λ (e : NodeEntry). Q e.queue) _ _ rows (λ e is. is) old
    nodes-settled maker tick (NodesChange.Remove n) rows old = all-remove_first (λ (e : NodeEntry). Q e.queue) _ rows old
    nodes-settled (Some maker) tick (NodesChange.Leave n) rows old = all-change_first (λ (e : NodeEntry). Q e.queue) _ _ rows (λ e is. leaves maker.session (node_queue n rows) (node-line n rows old)) old
    nodes-settled maker tick (NodesChange.FreeAll r) rows old = all-mapped (λ (e : NodeEntry). Q e.queue) (λ (e : NodeEntry). Q e.queue) (freed_from r) rows (λ e is. subst Q (sym (freed-queue r e)) is) old
    nodes-settled maker tick (NodesChange.TakeOver numbers) rows old = all-in_use (λ (e : NodeEntry). Q e.queue) tick (λ e is. is) numbers rows old
    nodes-settled maker tick _ rows old = old

-- ## and a session that ends

-- a queue after it
abbrev queue_left : SessionsChange → List SessionId → List SessionId
queue_left (SessionsChange.End over) queue = left over queue
queue_left _ queue = queue

module _ (Q R : List SessionId → Type 0) where
  requests-after_end : (change : SessionsChange) → ((queue : List SessionId) → Q queue → R (queue_left change queue)) → (rows : List RequestEntry) → Queues Q rows → Queues R (requests_left change rows)
  requests-after_end (SessionsChange.End over) keeps rows old = all-mapped (λ (e : RequestEntry). Q e.queue) (λ (e : RequestEntry). R e.queue) (request_left over) rows (λ e is. keeps e.queue is) old
  requests-after_end _ keeps rows old = all-weaker (λ (e : RequestEntry). Q e.queue) (λ (e : RequestEntry). R e.queue) (λ e is. keeps e.queue is) rows old

  nodes-after_end : (change : SessionsChange) → ((queue : List SessionId) → Q queue → R (queue_left change queue)) → (rows : List NodeEntry) → Queues Q rows → Queues R (nodes_left change rows)
  nodes-after_end (SessionsChange.End over) keeps rows old = all-mapped (λ (e : NodeEntry). Q e.queue) (λ (e : NodeEntry). R e.queue) (node_left over) rows (λ e is. keeps e.queue is) old
  nodes-after_end _ keeps rows old = all-weaker (λ (e : NodeEntry). Q e.queue) (λ (e : NodeEntry). R e.queue) (λ e is. keeps e.queue is) rows old

live-after_end : (c : Configuration) (s : State) (ch : Changes) → SessionsPremise s ch ch.sessions → (change : SessionsChange) → ch.sessions ≡ change → (queue : List SessionId) → IsLiveQueue s queue → IsLiveQueue (changed c ch s) (queue_left change queue)
live-after_end c s ch premise (SessionsChange.End over) ends queue old = record {
  live = all-filter_to (IsLive s) (IsLive (changed c ch s)) (λ other. not (is_session other over)) queue (λ session keeps live. live-stays c s ch premise session live (rw ends (let other : is_session session over ≡ false = grind (arith, nat_tests) in other))) old.live;
  once = distinct-left over queue old.once;
}
live-after_end c s ch premise _ is queue old = record { live = all-weaker (IsLive s) (IsLive (changed c ch s)) (λ session live. live-stays c s ch premise session live (rw is tt)) queue old.live; once = old.once }

-- ## at most one at a request

abbrev IsShort : List SessionId → Type 0
IsShort queue = length queue ≤ 1

short-left : (gone : SessionId) (queue : List SessionId) → IsShort queue → IsShort (left gone queue)
short-left gone queue few = omega (arith, length-filter_at_most (λ other. not (is_session other gone)) queue)

short-joined : (new : SessionId) (queue : List SessionId) → holder queue ≡ None → IsShort (joined new queue)
short-joined new [] none = omega arith
short-joined new (first ∷ queue) none = absurd cc

short-after_end : (change : SessionsChange) (queue : List SessionId) → IsShort queue → IsShort (queue_left change queue)
short-after_end (SessionsChange.End over) queue few = short-left over queue few
short-after_end _ queue few = few

-- ## all of it

maker-live : (s : State) (maker : Option Maker) (m : Maker) → MakerPremise s maker → maker ≡ Some m → IsLive s m.session
maker-live s maker m heard is = grind (arith, nat_tests)

pub queued : (c : Configuration) (s : State) (ch : Changes) → IsQueued s → Premises c s ch → IsQueued (changed c ch s)
queued c s ch old premises =
    let t : State = grown c ch.maker ch.grows s in
    let live : (m : Maker) → ch.maker ≡ Some m → IsLive s m.session = λ m is. maker-live s ch.maker m premises.maker is in
    let none : IsLiveQueue s [] = record { live = tt; once = tt } in
    let short : IsShort [] = omega arith in
    record {
      at_requests =
          requests-after_end (IsLiveQueue s) (IsLiveQueue (changed c ch s)) ch.sessions (live-after_end c s ch premises.sessions ch.sessions refl) (requests_changed ch.maker ch.requests t.requests)
          (requests-settled (IsLiveQueue s) none (live-left s) ch.maker ch.requests t.requests (requests-grown (IsLiveQueue s) none c ch.maker ch.grows s (λ m r is _ line. live-joined s m.session (request_queue r s.requests) (live m is) line) old.at_requests));
      one_a_request =
          requests-after_end IsShort IsShort ch.sessions (short-after_end ch.sessions) (requests_changed ch.maker ch.requests t.requests)
          (requests-settled IsShort short short-left ch.maker ch.requests t.requests
          (requests-grown IsShort short c ch.maker ch.grows s (λ m r _ joins _. short-joined m.session (request_queue r s.requests) (subst (λ (growth : Growth). GrowthPremise c s ch growth) joins premises.grows).unlocked) old.one_a_request));
      at_nodes =
          nodes-after_end (IsLiveQueue s) (IsLiveQueue (changed c ch s)) ch.sessions (live-after_end c s ch premises.sessions ch.sessions refl) (nodes_changed ch.maker t.tick ch.nodes t.nodes)
          (nodes-settled (IsLiveQueue s) none (live-left s) ch.maker t.tick ch.nodes t.nodes (nodes-grown (IsLiveQueue s) none c ch.maker ch.grows s (λ m queue is line. live-joined s m.session queue (live m is) line) old.at_nodes));
    }

-- # who waits at a request after an event: those who did before, and the maker if it joins

module _ (P : SessionId → Type 0) where
  -- the members of the queue that is found, if they meet the condition
  same-queue : (queue later : List SessionId) → later ≡ queue → AllByRecursion P queue → AllByRecursion P later
  same-queue queue later same all = subst (λ (xs : List SessionId). AllByRecursion P xs) (sym same) all

  queue-put : (x r : RequestId) (queue : List SessionId) (rows : List RequestEntry) → AllByRecursion P (request_queue r rows) → (x ≡ r → AllByRecursion P queue) → AllByRecursion P (request_queue r (put_request_queue x queue rows))
  queue-put x r queue rows all new = grind (arith, nat_tests, request-equal, same-queue, request_queue-nowhere, request_in-queue, request_queue-queue)

  -- the queue of the request, under another id that may name it
  queue-of : (x r : RequestId) (rows : List RequestEntry) → x ≡ r → AllByRecursion P (request_queue r rows) → AllByRecursion P (request_queue x rows)
  queue-of x r rows same all = subst (λ (y : RequestId). AllByRecursion P (request_queue y rows)) (sym same) all

  queue-grown : (c : Configuration) (s : State) (maker : Option Maker) (growth : Growth) (r : RequestId) → AllByRecursion (λ e. e.id.seq < s.next_request) s.requests → AllByRecursion P (request_queue r s.requests)
      → ((m : Maker) → maker ≡ Some m → growth ≡ Growth.JoinRequest r → P m.session) → AllByRecursion P (request_queue r (grown c maker growth s).requests)
  queue-grown c s None (Growth.Registration p) r below all joins = all
  queue-grown c s (Some maker) (Growth.Registration p) r below all joins = all
  queue-grown c s maker (Growth.Request priority asked) r below all joins =
      let new : RequestEntry = record { id = next_id priority s; kept = new_record asked; queue = [] } in
      by_bool (λ _. AllByRecursion P (request_queue r (insert_request new s.requests))) (same_request (next_id priority s) r)
      (λ same. same-queue [] _ (request_queue-new new r s.requests same (request_in-later r s.next_request s.requests below (same-seq (next_id priority s) r same))) tt)
      (λ other. same-queue (request_queue r s.requests) _ (request_queue-insert new r s.requests other) all)
  queue-grown c s (Some maker) (Growth.JoinRequest x) r below all joins =
      queue-put x r (joined maker.session (request_queue x s.requests)) s.requests all (λ same.
      all-joined P maker.session (request_queue x s.requests) (queue-of x r s.requests same all) (joins maker refl (ap (λ (y : RequestId). Growth.JoinRequest y) same)))
  queue-grown c s maker _ r below all joins = all

  queue-settled : (maker : Option Maker) (change : RequestsChange) (rows : List RequestEntry) (r : RequestId) → Rises (λ a b. is_id_before a.id b.id) rows → AllByRecursion P (request_queue r rows) → AllByRecursion P (request_queue r (requests_changed maker change rows))
  queue-settled maker (RequestsChange.Edit x how) rows r rises all = same-queue (request_queue r rows) _ (request_queue-edit x r (edited how) rows) all
  queue-settled maker (RequestsChange.Remove x) rows r rises all =
      by_bool (λ _. AllByRecursion P (request_queue r (remove_request x rows))) (same_request x r) (λ same. same-queue [] _ (request_queue-removed x r rows rises same) tt) (λ other. same-queue (request_queue r rows) _ (request_queue-remove x r rows other) all)
  queue-settled (Some maker) (RequestsChange.Leave x) rows r rises all =
      queue-put x r (left maker.session (request_queue x rows)) rows all (λ same. all-left P maker.session (request_queue x rows) (queue-of x r rows same all))
  queue-settled maker _ rows r rises all = all

  queue-after_end : (change : SessionsChange) (rows : List RequestEntry) (r : RequestId) → AllByRecursion P (request_queue r rows) → AllByRecursion P (request_queue r (requests_left change rows))
  queue-after_end (SessionsChange.End over) rows r all = same-queue (left over (request_queue r rows)) _ (request_queue-left over r rows) (all-left P over (request_queue r rows) all)
  queue-after_end _ rows r all = all

  pub queue-after : (c : Configuration) (s : State) (ch : Changes) → IsNumbered s → (r : RequestId) → AllByRecursion P (request_queue r s.requests) → ((m : Maker) → ch.maker ≡ Some m → ch.grows ≡ Growth.JoinRequest r → P m.session) → AllByRecursion P (request_queue r (changed c ch s).requests)
  queue-after c s ch numbered r all joins =
      queue-after_end ch.sessions (requests_changed ch.maker ch.requests (grown c ch.maker ch.grows s).requests) r
      (queue-settled ch.maker ch.requests (grown c ch.maker ch.grows s).requests r (grown-numbered c s ch.maker ch.grows numbered).requests_rise
      (queue-grown c s ch.maker ch.grows r numbered.requests_below all joins))
