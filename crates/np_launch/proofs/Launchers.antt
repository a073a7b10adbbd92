-- the useful events of a launcher: how they are computed, planned and ordered, and which request it locks
use Rattle.np_launch.proofs.Prelude.{AllByRecursion, Asked, Bool, Chooses, ChoosesComputed, ChoosesLaunched, ChoosesOf, ChoosesOfAnyKind, ChoosesOpening, ChoosesPlanned, ChoosesPlannedOf, ChoosesPlannedOfAny, ComputedKind, Configuration, Done, Event, IsFirst, IsFirstThatPasses, IsReached, IsUseful, Label, LabelId, LaunchKind, Launcher, List, Lock, Node, NodeEntry, NodeId, NodeKind, NodeRecord, None, NoneComputed, NoneLaunched, NoneOf, NoneOpens, NonePlanned, Ok, Option, Outcome, Plain, PlannedKind, PoolId, Reason, Refusal, Request, RequestEntry, RequestId, RequestKind, RequestRecord, Result, Role, SessionId, Some, State, [], and_parts, ap, arith, as_launcher, asked_of, blocking, computed_at, computed_places, current-has, current-opens, current-speaks, decline_at, earlier, equal-numbers, false, false-apart, filter, find, find-passes, find-place, first-chooses, first_of, first_reason, first_takable, first_unoffered, fold, has_current, holder, holder-queued, if◌then◌else◌, is_as_planned, is_by_registrant, is_candidate, is_current, is_declined_by, is_first_reason, is_maker_of, is_node, is_none, is_ok, is_pending_by, is_pinned_away, is_planned, is_reason, is_requested, is_session_of, is_some, is_spent, is_takable, judge, launcher, launcher_order, least, lock_request_as, made-by, maker, maker_of, map, map-some, named-place, nat_tests, never_fits, new_record, node_entry, node_holder, node_in, node_is, node_queue, not, not-zero, ok-is, on-found, on-need, on-not, on-vacant, option_and_then, option_and_then_some, option_map, option_map_or, other_than, outcome_of, passes, passes-useful, passing, passing-is, passing-none, planned_at, planned_order, planned_places, queued-node, queued-request, queued_nodes, queued_requests, reason_of, refl, registered, request-equal, request_entry, request_holder, request_in, request_is, request_queue, same-role, same_node-is, same_outcome, same_reason, same_request, same_role, slice_get, slice_get_within, some-unless, subst, sym, take_ready_at, tenant_never_fits, true, true_from_ne_false, useful-passes, wrong_request, ℕ, ◌&&◌, ◌<◌, ◌==◌, ◌>>=◌, ◌∙◌, ◌∷◌, ◌≡◌}
use Rattle.np_useful.proofs.Useful.{StandsIn}
use Rattle.np_launch.proofs.Finds.{find-some, first-is, such-one}

-- # the first reason is the one that is computed

-- by what is found for each reason
abbrev first-by : Option LabelId → Bool → Bool → Option NodeId → Reason → Bool
first-by label never tenant spent (Reason.NoLabel l) = option_map_or (λ first. first.0 == l.0) label false
first-by label never tenant spent Reason.NeverFits = is_none label && never
first-by label never tenant spent Reason.TenantNeverFits = is_none label && not never && tenant
first-by label never tenant spent (Reason.Spent n) = (is_none label && not never && not tenant) && option_map_or (is_node n) spent false

by-reason : (label : Option LabelId) (never tenant : Bool) (spent : Option NodeId) (why : Reason) → first-by label never tenant spent why ≡ is_reason why (reason_of label never tenant spent)
by-reason label never tenant spent why = grind (arith, nat_tests)

module _ (c : Configuration) (s : State) (p : PoolId) (k : RequestRecord) where
  as-it-is : (why : Reason) → is_first_reason c s p k why ≡ first-by (first_unoffered c p k) (never_fits c p k) (tenant_never_fits c p k) (find (λ m. is_spent m s) k.nodes) why
  as-it-is Reason.NeverFits = refl
  as-it-is _ = refl

  pub reason-is : (why : Reason) → is_first_reason c s p k why ≡ is_reason why (first_reason c s p k)
  reason-is why = as-it-is why ∙ by-reason (first_unoffered c p k) (never_fits c p k) (tenant_never_fits c p k) (find (λ m. is_spent m s) k.nodes) why

-- ## reasons that are the same are equal-numbers

pub same-reason : (one other : Reason) → same_reason one other ≡ true → other ≡ one
same-reason one other is = grind (arith, nat_tests)

pub reason-found : (why : Reason) (o : Option Reason) → is_reason why o ≡ true → o ≡ Some why
reason-found why None is = absurd cc
reason-found why (Some other) is = ap Some (same-reason why other is)

module _ (c : Configuration) (s : State) (p : PoolId) (why : Reason) where
  pub found-reason : (o : Option RequestRecord) (asked : Asked) (first : Option Reason) → option_map asked_of o ≡ Some asked → first ≡ first_reason c s p (new_record asked) → is_reason why first ≡ option_map_or (λ k. is_first_reason c s p k why) o false
  found-reason None asked first there is = absurd cc
  found-reason (Some k) asked first there is =
      let same : asked_of k ≡ asked = cc in
      ap (is_reason why) (is ∙ ap (λ (a : Asked). first_reason c s p (new_record a)) (sym same)) ∙ sym (reason-is c s p k why)

-- # the events of a launcher that are computed: what passes is useful, and each useful event is among them

-- ## parts

same-result : (one other : Outcome) → same_outcome one other ≡ true → one ≡ other
same-result one other is = grind (arith, nat_tests)

-- ## the current launcher

module _ (s : State) (p : PoolId) (session : SessionId) where
  pub maker-is : is_current (Launcher p) session s ≡ true → maker s session ≡ Ok (Launcher p)
  maker-is current =
      let who = current-speaks (Launcher p) s session current in
      let parts = and_parts (same_role who.facts.role (Launcher p) && who.facts.live) (not who.facts.mute) who.speaks in
      let firsts = and_parts (same_role who.facts.role (Launcher p)) who.facts.live parts.0 in
      rw (not-zero session.0 who.begun, who.there, firsts.1, parts.1) (ap (λ (role : Role). Ok role) (same-role who.facts.role (Launcher p) firsts.0))

  launcher-is : is_current (Launcher p) session s ≡ true → launcher s session ≡ Ok p
  launcher-is current = ap (λ (x : Result Role Refusal). x >>= as_launcher) (maker-is current)

-- ## a candidate is an event of its kind

-- what is true of each event that the search can name is true of the candidate
module _ (P : Event → Type 0) where
  mapped : {X : Type 0} (make : X → Event) → ((x : X) → P (make x)) → (o : Option X) (e : Event) → option_map make o ≡ Some e → P e
  mapped make all None e is = absurd cc
  mapped make all (Some x) e is = let same : make x ≡ e = cc in subst P same (all x)

  if-so : (b : Bool) (o : Option Event) (e : Event) → (if b then o else None) ≡ Some e → (o ≡ Some e → P e) → P e
  if-so true o e is all = all is
  if-so false o e is all = absurd cc

  module _ (c : Configuration) (s : State) (p : PoolId) (session : SessionId) where
    take-is : ((r : RequestId) (n : NodeId) → P (Event.TakeReady session r n)) → (at : ℕ) (e : Event) → take_ready_at c s p session at ≡ Some e → P e
    take-is all at e is =
        option_and_then_some _ (slice_get (queued_requests session s) at) e is (λ r _ of_request.
        option_and_then_some _ (request_in r s.requests) e of_request (λ k _ of_record.
        if-so (is_pending_by p k) _ e of_record (λ of_node. mapped (λ (n : NodeId). Event.TakeReady session r n) (all r) (first_takable c s session r) e of_node)))

    decline-is : ((r : RequestId) (why : Reason) → P (Event.Decline session r why)) → (at : ℕ) (e : Event) → decline_at c s p session at ≡ Some e → P e
    decline-is all at e is =
        option_and_then_some _ (slice_get (queued_requests session s) at) e is (λ r _ of_request.
        option_and_then_some _ (request_in r s.requests) e of_request (λ k _ of_reason. mapped (λ (why : Reason). Event.Decline session r why) (all r) (first_reason c s p k) e of_reason))

module _ (c : Configuration) (s : State) (p : PoolId) (session : SessionId) where
  abbrev IsMade : Event → Type 0
  IsMade e = maker_of e ≡ Some session

  -- a candidate's maker is the session
  computed-maker : (kind : ComputedKind) (at : ℕ) (e : Event) → computed_at c s p session kind at ≡ Some e → IsMade e
  computed-maker ComputedKind.Register at e is = let same : Event.Register session ≡ e = cc in ap maker_of (sym same)
  computed-maker ComputedKind.Done at e is =
      option_and_then_some _ (slice_get (queued_nodes session s) at) e is (λ n _ of_node. mapped IsMade (λ (k : NodeRecord). Event.Done session n k.attempts (outcome_of c p k.start)) (λ k. refl) (node_in n s.nodes) e of_node)
  computed-maker ComputedKind.TakeReady at e is = take-is IsMade c s p session (λ r n. refl) at e is
  computed-maker ComputedKind.Decline at e is = decline-is IsMade c s p session (λ r why. refl) at e is
  computed-maker ComputedKind.MinReady at e is = mapped IsMade (λ (l : Label). Event.MinReady session (record { 0 = at })) (λ l. refl) (slice_get c.labels at) e is

-- ## a useful event is a candidate, or another of its kind is

module _ (c : Configuration) (s : State) (p : PoolId) (session : SessionId) where
  -- some useful event is at a place of the kind
  record Stands (kind : ComputedKind) : Type 0 where
    pub at : ℕ
    pub low : at < computed_places c s session kind
    pub event : Event
    pub there : computed_at c s p session kind at ≡ Some event
    pub useful : IsUseful c s (Launcher p) event

  -- a row of a registered launcher is true
  row-of : (e : Event) (u : Bool) → (is_by_registrant s p e && u) ≡ true → u ≡ true
  row-of e u is = (and_parts (is_by_registrant s p e) u is).1

  register-stands : IsUseful c s (Launcher p) (Event.Register session) → Stands ComputedKind.Register
  register-stands useful = record { at = 0; low = omega arith; event = Event.Register session; there = refl; useful = useful }

  -- what the session holds is at a place of what it queues for
  request-place : (r : RequestId) → (is_session_of session (request_holder r s.requests) ≡ false → ⊥) → StandsIn r (queued_requests session s)
  request-place r held = queued-request s session r (holder-queued session (request_queue r s.requests) (true_from_ne_false (is_session_of session (request_holder r s.requests)) held))

  node-place : (n : NodeId) → (is_session_of session (node_holder n s.nodes) ≡ false → ⊥) → StandsIn n (queued_nodes session s)
  node-place n held = queued-node s session n (holder-queued session (node_queue n s.nodes) (true_from_ne_false (is_session_of session (node_holder n s.nodes)) held))

  done-stands : (n : NodeId) (attempt : ℕ) (o : Outcome) → IsUseful c s (Launcher p) (Event.Done session n attempt o) → Stands ComputedKind.Done
  done-stands n attempt o useful =
      let known = such-one (is_as_planned c p attempt o) (node_in n s.nodes) (row-of (Event.Done session n attempt o) (node_is n s (is_as_planned c p attempt o)) useful.row) in
      let parts = and_parts (known.0.attempts == attempt) (same_outcome (outcome_of c p known.0.start) o) known.1.1 in
      let place = node-place n (λ other. grind (arith, nat_tests, other, useful.accepted)) in
      record {
        at = place.at;
        low = place.within;
        event = Event.Done session n attempt o;
        there = rw (place.there, known.1.0, equal-numbers known.0.attempts attempt parts.0, same-result (outcome_of c p known.0.start) o parts.1) refl;
        useful = useful;
      }

  take-there : (r : RequestId) (k : RequestRecord) (n : NodeId) (at : ℕ) → slice_get (queued_requests session s) at ≡ Some r → request_in r s.requests ≡ Some k → is_pending_by p k ≡ true → first_takable c s session r ≡ Some n → take_ready_at c s p session at ≡ Some (Event.TakeReady session r n)
  take-there r k n at there kept pending first =
      ap (λ (x : Option RequestId). option_and_then (λ q. option_and_then (λ v. if is_pending_by p v then option_map (λ m. Event.TakeReady session q m) (first_takable c s session q) else None) (request_in q s.requests)) x) there
      ∙ ap (λ (x : Option RequestRecord). option_and_then (λ v. if is_pending_by p v then option_map (λ m. Event.TakeReady session r m) (first_takable c s session r) else None) x) kept
      ∙ ap (λ (b : Bool). if b then option_map (λ m. Event.TakeReady session r m) (first_takable c s session r) else None) pending
      ∙ ap (λ (x : Option NodeId). option_map (λ m. Event.TakeReady session r m) x) first

  take-stands : IsReached c s → launcher s session ≡ Ok p → (r : RequestId) (n : NodeId) → IsUseful c s (Launcher p) (Event.TakeReady session r n) → Stands ComputedKind.TakeReady
  take-stands reached by r n useful =
      let request = some-unless (request_in r s.requests) (λ none. grind (arith, nat_tests, by, none, useful.accepted)) in
      let node = some-unless (node_entry n s.nodes) (λ none. grind (arith, nat_tests, by, none, useful.accepted)) in
      let pending : is_pending_by p request.0 ≡ true = true_from_ne_false (is_pending_by p request.0) (λ other. grind (arith, nat_tests, by, request.1, other, useful.accepted)) in
      let among = find-place (λ (e : NodeEntry). e.id.0 == n.0) s.nodes node.0 node.1 in
      let same : node.0.id ≡ n = same_node-is node.0.id n (find-passes (λ (e : NodeEntry). e.id.0 == n.0) s.nodes node.0 node.1) in
      let takable : is_takable c s session r node.0.id ≡ true = ap (is_takable c s session r) same ∙ useful.accepted in
      let first = find-some (λ (e : NodeEntry). is_takable c s session r e.id) s.nodes among.at node.0 among.there takable in
      let place = request-place r (λ other. grind (arith, nat_tests, other, useful.accepted)) in
      record {
        at = place.at;
        low = place.within;
        event = Event.TakeReady session r first.0.id;
        there = take-there r request.0 first.0.id place.at place.there request.1 pending (sym (first-is c s session r reached) ∙ ap (option_map (λ (x : NodeEntry). x.id)) first.1);
        useful = record {
          accepted = find-passes (λ (e : NodeEntry). is_takable c s session r e.id) s.nodes first.0 first.1;
          maker = useful.maker;
          row = useful.row;
        };
      }

  decline-stands : (r : RequestId) (why : Reason) → IsUseful c s (Launcher p) (Event.Decline session r why) → Stands ComputedKind.Decline
  decline-stands r why useful =
      let row : request_is r s (λ k. is_first_reason c s p k why) ≡ true = row-of (Event.Decline session r why) (request_is r s (λ k. is_first_reason c s p k why)) useful.row in
      let known = such-one (λ (k : RequestRecord). is_first_reason c s p k why) (request_in r s.requests) row in
      let place = request-place r (λ other. grind (arith, nat_tests, other, useful.accepted)) in
      let first : first_reason c s p known.0 ≡ Some why = reason-found why (first_reason c s p known.0) (sym (reason-is c s p known.0 why) ∙ known.1.1) in
      record {
        at = place.at;
        low = place.within;
        event = Event.Decline session r why;
        there = rw (place.there, known.1.0, first) refl;
        useful = useful;
      }

  min-ready-stands : (l : LabelId) → IsUseful c s (Launcher p) (Event.MinReady session l) → Stands ComputedKind.MinReady
  min-ready-stands l useful =
      let label = some-unless (slice_get c.labels l.0) (λ none. grind (arith, nat_tests, none, useful.accepted)) in
      record {
        at = l.0;
        low = slice_get_within c.labels l.0 label.0 label.1;
        event = Event.MinReady session l;
        there = rw label.1 refl;
        useful = useful;
      }

-- ## the search

module _ (c : Configuration) (s : State) (reached : IsReached c s) (p : PoolId) (session : SessionId) (current : is_current (Launcher p) session s ≡ true) where
  first-useful : (kind : ComputedKind) (e : Event) → IsFirst c s (Launcher p) (computed_places c s session kind) (computed_at c s p session kind) e → IsUseful c s (Launcher p) e
  first-useful kind e first =
      let parts = passing-is c s (Launcher p) (computed_at c s p session kind first.at) e first.there in
      passes-useful c s (Launcher p) e parts.1 (ap (is_maker_of (Launcher p) s) (computed-maker c s p session kind first.at e parts.0) ∙ current)

  -- if none passes at a place, no event of the kind is useful, whoever makes it
  none-by : (kind : ComputedKind) → ((at : ℕ) → at < computed_places c s session kind → passing c s (Launcher p) (computed_at c s p session kind at) ≡ None) → (event : SessionId → Event) → ((by : SessionId) → maker_of (event by) ≡ Some by) → (IsUseful c s (Launcher p) (event session) → Stands c s p session kind) → (other : SessionId) → IsUseful c s (Launcher p) (event other) → ⊥
  none-by kind none event makes place other useful =
      let same : other ≡ session = made-by c s (Launcher p) session current other (event other) (makes other) useful in
      let stands = place (subst (λ (x : SessionId). IsUseful c s (Launcher p) (event x)) same useful) in
      passing-none c s (Launcher p) (computed_at c s p session kind stands.at) stands.event stands.there (useful-passes c s (Launcher p) stands.event stands.useful) (none stands.at stands.low)

  none-computed : (kind : ComputedKind) → ((at : ℕ) → at < computed_places c s session kind → passing c s (Launcher p) (computed_at c s p session kind at) ≡ None) → NoneComputed c s p kind
  none-computed ComputedKind.Register none = none-by _ none (λ by. Event.Register by) (λ by. refl) (register-stands c s p session)
  none-computed ComputedKind.Done none = λ other n attempt o. none-by _ none (λ by. Event.Done by n attempt o) (λ by. refl) (done-stands c s p session n attempt o) other
  none-computed ComputedKind.TakeReady none = λ other r n. none-by _ none (λ by. Event.TakeReady by r n) (λ by. refl) (take-stands c s p session reached (launcher-is s p session current) r n) other
  none-computed ComputedKind.Decline none = λ other r why. none-by _ none (λ by. Event.Decline by r why) (λ by. refl) (decline-stands c s p session r why) other
  none-computed ComputedKind.MinReady none = λ other l. none-by _ none (λ by. Event.MinReady by l) (λ by. refl) (min-ready-stands c s p session l) other

  pub computed-chooses : (kind : ComputedKind) (o : Option Event) → IsFirstThatPasses c s (Launcher p) (computed_places c s session kind) (computed_at c s p session kind) o → ChoosesComputed c s p kind o
  computed-chooses kind None none = none-computed kind none
  computed-chooses kind (Some e) first = first-useful kind e first

-- # a launcher's useful events that can be planned are of the kinds that are searched

-- ## a candidate can be planned, and the session makes it

abbrev IsPlannedBy : SessionId → Event → Type 0
IsPlannedBy session e = (maker_of e ≡ Some session) × (is_planned e ≡ true)

candidate-planned : (c : Configuration) (s : State) (p : PoolId) (session : SessionId) (kind : PlannedKind) (at : ℕ) (e : Event) → planned_at c s p session kind at ≡ Some e → IsPlannedBy session e
candidate-planned c s p session PlannedKind.Fulfil at e is = mapped (IsPlannedBy session) (λ (r : RequestId). Event.Fulfil session r) (λ r. (refl, refl)) (slice_get (queued_requests session s) at) e is
candidate-planned c s p session PlannedKind.UnlockNode at e is = mapped (IsPlannedBy session) (λ (n : NodeId). Event.UnlockNode session n) (λ n. (refl, refl)) (slice_get (queued_nodes session s) at) e is
candidate-planned c s p session PlannedKind.UnlockRequest at e is = mapped (IsPlannedBy session) (λ (r : RequestId). Event.UnlockRequest session r) (λ r. (refl, refl)) (slice_get (queued_requests session s) at) e is
candidate-planned c s p session PlannedKind.Start at e is = mapped (IsPlannedBy session) (λ (n : NodeId). Event.Start session n) (λ n. (refl, refl)) (slice_get (queued_nodes session s) at) e is
candidate-planned c s p session PlannedKind.TakeReady at e is = take-is (IsPlannedBy session) c s p session (λ r n. (refl, refl)) at e is
candidate-planned c s p session PlannedKind.Decline at e is = decline-is (IsPlannedBy session) c s p session (λ r why. (refl, refl)) at e is

-- ## the search

module _ (c : Configuration) (s : State) (reached : IsReached c s) (p : PoolId) (session : SessionId) (current : is_current (Launcher p) session s ≡ true) where
  -- what its search returns is useful, or no event of the kind is
  none-of : (kind : PlannedKind) → IsFirstThatPasses c s (Launcher p) (planned_places c s session kind) (planned_at c s p session kind) None → NonePlanned c s p kind
  none-of PlannedKind.Fulfil none = first-chooses c s (Launcher p) session current (Request RequestKind.Fulfil) None none
  none-of PlannedKind.UnlockNode none = first-chooses c s (Launcher p) session current (Node NodeKind.Unlock) None none
  none-of PlannedKind.UnlockRequest none = first-chooses c s (Launcher p) session current (Request RequestKind.Unlock) None none
  none-of PlannedKind.Start none = first-chooses c s (Launcher p) session current (Node NodeKind.Start) None none
  none-of PlannedKind.TakeReady none = computed-chooses c s reached p session current ComputedKind.TakeReady None none
  none-of PlannedKind.Decline none = computed-chooses c s reached p session current ComputedKind.Decline None none

  pub planned-chooses : (kind : PlannedKind) (o : Option Event) → IsFirstThatPasses c s (Launcher p) (planned_places c s session kind) (planned_at c s p session kind) o → ChoosesPlannedOf c s p kind o
  planned-chooses kind None none = none-of kind none
  planned-chooses kind (Some e) first =
      let there = passing-is c s (Launcher p) (planned_at c s p session kind first.at) e first.there in
      let by = candidate-planned c s p session kind first.at e there.0 in
      (passes-useful c s (Launcher p) e there.1 (ap (is_maker_of (Launcher p) s) by.0 ∙ current), by.1)

-- ## the choice

module _ (c : Configuration) (s : State) (p : PoolId) where
  -- a launcher without a session makes no event
  unmade : has_current (Launcher p) s ≡ false → (o : Option SessionId) → is_some o ≡ true → is_maker_of (Launcher p) s o ≡ true → ⊥
  unmade none None some is = absurd cc
  unmade none (Some session) some is = let has : has_current (Launcher p) s ≡ true = current-has (Launcher p) s session is in cc

  -- the kinds are the whole choice
  pub plans-choose : (o : Option Event) → ChoosesPlannedOfAny c s p planned_order o → ChoosesPlanned c s p o
  plans-choose (Some e) useful = useful
  plans-choose None all = useless where
    useless : (e : Event) → is_planned e ≡ true → IsUseful c s (Launcher p) e → ⊥
    useless (Event.Fulfil session r) planned useful = all.0 session r useful
    useless (Event.UnlockNode session n) planned useful = all.1.0 session n useful
    useless (Event.UnlockRequest session r) planned useful = all.1.1.0 session r useful
    useless (Event.Start session n) planned useful = all.1.1.1.0 session n useful
    useless (Event.TakeReady session r n) planned useful = all.1.1.1.1.0 session r n useful
    useless (Event.Decline session r why) planned useful = all.1.1.1.1.1.0 session r why useful
    useless _ planned useful = absurd cc

  -- what can be planned is made by a session
  planned-made : (e : Event) → is_planned e ≡ true → is_some (maker_of e) ≡ true
  planned-made e planned = grind (arith, nat_tests)

  -- without a session there is none
  pub none-without : has_current (Launcher p) s ≡ false → ChoosesPlanned c s p None
  none-without none e planned useful = unmade none (maker_of e) (planned-made e planned) useful.maker

-- # a launcher locks only the first request that its pool may take up

-- ## of some candidates, one is the first

earlier-some : (o : Option RequestEntry) (e : RequestEntry) → is_some (earlier o e) ≡ true
earlier-some o e = grind arith

stays-some : (rows : List RequestEntry) (o : Option RequestEntry) → is_some o ≡ true → is_some (fold earlier o rows) ≡ true
stays-some [] o some = some
stays-some (e ∷ rows) o some = stays-some rows (earlier o e) (earlier-some o e)

some-least : (rows : List RequestEntry) (e : RequestEntry) → StandsIn e (map (λ x. x) rows) → is_some (least rows) ≡ true
some-least [] e place = absurd (omega (arith, place.within))
some-least (x ∷ rows) e place = stays-some rows (Some x) refl

-- ## the lock is of the first

module _ (c : Configuration) (s : State) (p : PoolId) (r : RequestId) where
  -- what is there and is not another than the request is the request
  first-other-is : (o : Option RequestId) → is_some o ≡ true → other_than r o ≡ None → o ≡ Some r
  first-other-is None some none = absurd cc
  first-other-is (Some first) some none = ap Some (request-equal first r (grind (arith, none)))

  candidate-by : (o : Option RequestEntry) (request : RequestRecord) → request_entry r s.requests ≡ o → option_map (λ (e : RequestEntry). e.kept) o ≡ Some request → is_requested request.state ≡ true → is_declined_by p request.declined ≡ false → is_pinned_away p request ≡ false → holder (option_map_or (λ (e : RequestEntry). e.queue) o []) ≡ None → blocking c s p request ≡ None → is_some (first_of c s p) ≡ true
  candidate-by None request there kept requested undeclined unpinned free unblocked = absurd cc
  candidate-by (Some e) request there kept requested undeclined unpinned free unblocked =
      let same : e.kept ≡ request = cc in
      map-some (λ (x : RequestEntry). x.id) (least (filter (is_candidate c s p) s.requests))
      ∙ some-least (filter (is_candidate c s p) s.requests) e
      (named-place (λ (x : RequestEntry). x) (λ (x : RequestEntry). same_request x.id r) (is_candidate c s p) s.requests e there (rw (same, requested, undeclined, unpinned, free, unblocked) refl))

  module _ (session : SessionId) (what : Done) where
    locked-first : lock_request_as c s session r (Launcher p) ≡ Ok what → first_of c s p ≡ Some r
    locked-first is =
        on-found (request_in r s.requests) Refusal.NoRequest _ what is (λ request there rest.
        on-need (is_session_of session (registered p s.registrations)) Refusal.NotRegistered _ what rest (λ _ rest.
        on-need (is_requested request.state) (wrong_request request) _ what rest (λ requested rest.
        on-not (is_declined_by p request.declined) Refusal.Declined _ what rest (λ undeclined rest.
        on-not (is_pinned_away p request) Refusal.NotOwner _ what rest (λ unpinned rest.
        on-vacant (request_holder r s.requests) Refusal.Busy _ what rest (λ free rest.
        on-vacant (blocking c s p request) _ _ what rest (λ unblocked rest.
        on-vacant (other_than r (first_of c s p)) Refusal.NotFirst _ what rest (λ none rest.
        first-other-is (first_of c s p) (candidate-by (request_entry r s.requests) request refl there requested undeclined unpinned free unblocked) none))))))))

-- ## the choice of a lock

module _ (c : Configuration) (s : State) (p : PoolId) (session : SessionId) (current : is_current (Launcher p) session s ≡ true) where
  accepted-first : (r : RequestId) → is_ok (judge c s (Event.LockRequest session r)) ≡ true → first_of c s p ≡ Some r
  accepted-first r is =
      let answer = ok-is (judge c s (Event.LockRequest session r)) is in
      locked-first c s p r session answer.0 (sym (ap (λ (o : Result Role Refusal). o >>= lock_request_as c s session r) (maker-is s p session current)) ∙ answer.1)

  -- a useful lock is the session's, and of the first request
  useful-first : (other : SessionId) (r : RequestId) → IsUseful c s (Launcher p) (Event.LockRequest other r) → (IsUseful c s (Launcher p) (Event.LockRequest session r)) × (first_of c s p ≡ Some r)
  useful-first other r useful =
      let same : other ≡ session = made-by c s (Launcher p) session current other (Event.LockRequest other r) refl useful in
      let mine : IsUseful c s (Launcher p) (Event.LockRequest session r) = subst (λ (x : SessionId). IsUseful c s (Launcher p) (Event.LockRequest x r)) same useful in
      (mine, accepted-first r mine.accepted)

  -- without a first request, or if its lock is not useful, no lock is
  pub first-useless : (o : Option RequestId) → first_of c s p ≡ o → option_map_or (λ r. passes c s (Launcher p) (Event.LockRequest session r)) o false ≡ false → NoneOf c s (Launcher p) (Request Lock)
  first-useless o first fails other q useful =
      let mine = useful-first other q useful in
      let holds : passes c s (Launcher p) (Event.LockRequest session q) ≡ true = useful-passes c s (Launcher p) (Event.LockRequest session q) mine.0 in
      let no : passes c s (Launcher p) (Event.LockRequest session q) ≡ false = rw (sym first ∙ mine.1) at fails in
      cc

module _ (c : Configuration) (s : State) (p : PoolId) where
  pub lock-launched : (kind : LaunchKind) (o : Option Event) → kind ≡ Plain (Request Lock) → ChoosesOf c s (Launcher p) (Request Lock) o → ChoosesLaunched c s p kind o
  lock-launched kind None is none = rw is none
  lock-launched kind (Some e) is useful = useful

-- # a launcher's useful events are of the kinds in the order

module _ (c : Configuration) (s : State) (p : PoolId) where
  module _ (opens : NoneOpens c s (Launcher p)) (all : AllByRecursion (NoneLaunched c s p) launcher_order) where
    useless : (e : Event) → IsUseful c s (Launcher p) e → ⊥
    useless Event.Tick useful = false-apart useful.row
    useless (Event.OpenSession role) useful = opens role useful
    useless (Event.Crash session) useful = false-apart useful.row
    useless (Event.Expire session) useful = false-apart useful.row
    useless (Event.Register session) useful = all.0 session useful
    useless (Event.Done session n attempt o) useful = all.1.0 session n attempt o useful
    useless (Event.Fulfil session r) useful = all.1.1.0 session r useful
    useless (Event.UnlockNode session n) useful = all.1.1.1.0 session n useful
    useless (Event.UnlockRequest session r) useful = all.1.1.1.1.0 session r useful
    useless (Event.Start session n) useful = all.1.1.1.1.1.0 session n useful
    useless (Event.TakeReady session r n) useful = all.1.1.1.1.1.1.0 session r n useful
    useless (Event.Create session r) useful = all.1.1.1.1.1.1.1.0 session r useful
    useless (Event.Decline session r why) useful = all.1.1.1.1.1.1.1.1.0 session r why useful
    useless (Event.Accept session r) useful = all.1.1.1.1.1.1.1.1.1.0 session r useful
    useless (Event.LockRequest session r) useful = all.1.1.1.1.1.1.1.1.1.1.0 session r useful
    useless (Event.MinReady session l) useful = all.1.1.1.1.1.1.1.1.1.1.1.0 session l useful
    useless e useful = false-apart (and_parts (is_by_registrant s p e) false useful.row).1

  -- without a session, the opening is the whole choice
  pub opening-launches : has_current (Launcher p) s ≡ false → (o : Option Event) → ChoosesOpening c s (Launcher p) o → Chooses c s (Launcher p) o
  opening-launches without (Some e) useful = useful
  opening-launches without None opens = absent where
    absent : (e : Event) → IsUseful c s (Launcher p) e → ⊥
    absent Event.Tick useful = false-apart useful.row
    absent (Event.OpenSession role) useful = opens role useful
    absent (Event.Crash session) useful = false-apart useful.row
    absent (Event.Expire session) useful = false-apart useful.row
    absent e useful = unmade c s p without (maker_of e) refl useful.maker

  -- with a session, the kinds are the whole choice
  pub launches-choose : (session : SessionId) → is_current (Launcher p) session s ≡ true → (o : Option Event) → ChoosesOfAnyKind c s p launcher_order o → Chooses c s (Launcher p) o
  launches-choose session current None all = useless (current-opens c s (Launcher p) session current) all
  launches-choose session current (Some e) useful = useful
