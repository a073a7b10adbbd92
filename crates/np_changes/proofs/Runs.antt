-- what holds in every run and over its journal
use Rattle.np_changes.proofs.Prelude.{Configuration, Entry, List, Runs, State, [], arith, judge, length, length-append, nat_tests, next, refl, replayed-push, reply_of, start, state_after-push, ◌++◌, ◌<◌, ◌∷◌, ◌≡◌, Invariant, Job, Some, map, new_job, subst, sym, AfterEveryStep, Changes, Event, FulfilledOwn, IsLiveHolder, IsLiveRequestHolder, NodeId, Premises, RequestId, RequestsStand, Runs-prefix, Safe, SessionId, after, ap, changed, false, is_ok, is_session_of, is_some, node_holder, plan, request_holder, request_in, state_after, true, ◌∙◌, Answer, Caused, CausedFrom, Done, Err, FailsNow, HasCause, IsTrueDecline, Ok, RequestRecord, Turn, and_right, both_ways, false≢true, has_failed, is_done, is_report_on, replayed, turns_from, ByHolder, EachTurn, EmptiesRequest, Fenced, Gains, GoesFulfilled, GoesWithdrawn, Growth, GrowthPremise, IsFenced, IsHeldNode, IsMade, IsRightful, IsServed, IsTaken, LabelId, Launcher, Maker, NodeEntry, NodeRecord, NodesChange, NodesPremise, None, Option, PoolId, PutsNode, RequestEdit, RequestsChange, RequestsPremise, StandsIn, TakenBack, TakesOver, TenantId, and_parts, cond, freed, given_back_by, grown, holder, inl, inr, is_filled, is_pending, is_pending_by, is_pool, is_request, is_request_end, joined, list_any, member-there, node_entry, node_in, node_queue, nodes_changed, nodes_left, none-some, option_map, request-equal, same_Some, slice_get_within, unended, unfilled, ◌==◌, ◌⊎◌}
use Rattle.np_lists.proofs.Plain.{by_bool, get-map}
use Rattle.np_changes.proofs.Limits.{attempts-few, within-quota, within-quota_first, within-tenant_quota, within-tenant_quota_first}
use Rattle.np_changes.proofs.Jobs.{jobs-stand, jobs_or_pinned, within-max, within-max_first}
use Rattle.np_changes.proofs.Accepted.{Goes, done-accepted, head-reply, plan-goes, plan-maker, plan-next, tail-replies}
use Rattle.np_changes.proofs.Premises.{premises}
use Rattle.np_changes.proofs.Lookups.{Added, Altered, IsAllocated, IsFreed, IsPut, IsUsed, NodeChange, NodeStep, Removed, Stays, left-node, node-step, node_in-freed, node_queue-allocated, numbered}
use Rattle.np_changes.proofs.Queues.{queued, registered-still}
use Rattle.np_changes.proofs.RequestStates.{allocations-listed, filled-at, node-place, requests-stand, runs_while_building, served-if}
use Rattle.np_changes.proofs.Holding.{holders-hold, one-held, one-holder}
use Rattle.np_changes.proofs.Turns.{IsDue, Tells, cause, declines-made, due-start, failed-then, other-counted, pinned-stand, plan-tells, report-told, reports, reports-counted, reports-other, some-before}
use Rattle.np_changes.specs.Premises.{RemovesNode}

-- # runs: of no events, and one step more

-- a run of no events
pub Runs-start : (c : Configuration) → Runs c [] (start c)
Runs-start c = record { replies = refl; ends = refl; short = omega arith }

-- a run continues with an event and the machine's reply
pub Runs-next : (c : Configuration) (journal : List Entry) (s : State) (entry : Entry) → Runs c journal s → length journal < 262144 → entry.reply ≡ reply_of (judge c s entry.event) → Runs c (journal ++ entry ∷ []) (next c s entry.event)
Runs-next c journal s entry runs room replied = grind (arith, nat_tests, replayed-push, state_after-push, length-append)

-- # the parts hold of the first state

pub invariant-start : (c : Configuration) → Invariant c (start c)
invariant-start c = grind (arith, nat_tests, within-quota_first c, within-max_first c, within-tenant_quota_first c, get-map (λ (_ : Job). new_job) c.jobs)

-- # the parts hold of every state that a run leads to, and every run is safe

-- the changes of an accepted event keep every part
pub invariant-changed : (c : Configuration) (s : State) (ch : Changes) → Invariant c s → Premises c s ch → Invariant c (changed c ch s)
invariant-changed c s ch old given = record {
  numbered = numbered c s ch old.numbered;
  queued = queued c s ch old.queued given;
  registered = registered-still c s ch old.registered given;
  within = record { quota = within-quota c s ch old given; max = within-max c s ch old given; tenant_quota = within-tenant_quota c s ch old given };
  owned = record {
    requests = requests-stand c s ch old given;
    whose = jobs_or_pinned c s ch old given;
    allocations = allocations-listed c s ch old.numbered old.owned.allocations given;
    launches = runs_while_building c s ch old given;
  };
  attempted = attempts-few c s ch old.attempted given;
  jobs = jobs-stand c s ch old.numbered old.owned.whose old.jobs given old.owned.requests;
}

pub invariant-next : (c : Configuration) (s : State) (e : Event) → Invariant c s → Invariant c (next c s e)
invariant-next c s e old = by_bool (λ _. Invariant c (next c s e)) (is_ok (judge c s e))
    (λ ok. subst (Invariant c) (plan-next c s e ok) (invariant-changed c s (plan c s e) old (premises c s e ok))) (λ refused. rw refused old)

-- the parts hold for every state that events lead to
pub invariant-after : (c : Configuration) (s : State) (journal : List Entry) → Invariant c s → Invariant c (state_after c s journal)
invariant-after c s [] old = old
invariant-after c s (entry ∷ journal) old = invariant-after c (next c s entry.event) journal (invariant-next c s entry.event old)

pub invariant-Runs : (c : Configuration) (journal : List Entry) (s : State) → Runs c journal s → Invariant c s
invariant-Runs c journal s runs = subst (Invariant c) runs.ends (invariant-after c (start c) journal (invariant-start c))

-- ## live holders

pub node-holder : (c : Configuration) (journal : List Entry) (s : State) (session : SessionId) (n : NodeId) → Runs c journal s → IsLiveHolder c journal session n → is_session_of session (node_holder n s.nodes) ≡ true
node-holder c journal s session n runs live = (holders-hold c (invariant-Runs c) journal s runs).of_node session n live

pub request-holder : (c : Configuration) (journal : List Entry) (s : State) (session : SessionId) (r : RequestId) → Runs c journal s → IsLiveRequestHolder c journal session r → is_session_of session (request_holder r s.requests) ≡ true
request-holder c journal s session r runs live =
    let stands : is_some (request_in r s.requests) ≡ true = ap (λ (t : State). is_some (request_in r t.requests)) (sym runs.ends) ∙ live.0 in
    ((holders-hold c (invariant-Runs c) journal s runs).of_request session r live.1).1 stands

-- ## safe

owned-labels : (s : State) → RequestsStand s → FulfilledOwn s
owned-labels s stand r request is fulfilled = grind (arith, nat_tests)

pub safe-Runs : (c : Configuration) (journal : List Entry) (s : State) → Runs c journal s → Safe c journal
safe-Runs c journal s runs =
    let holds : Invariant c (after c journal) = invariant-after c (start c) journal (invariant-start c) in
    record {
      one_holder = one-holder c (invariant-Runs c) journal s runs;
      within_quota = holds.within.quota;
      within_max = holds.within.max;
      fulfilled_own = owned-labels (after c journal) holds.owned.requests;
      within_tenant_quota = holds.within.tenant_quota;
    }

pub safe-every_step : (c : Configuration) (journal : List Entry) (s : State) → Runs c journal s → AfterEveryStep (Safe c) journal
safe-every_step c journal s runs before rest splits = safe-Runs c before (after c before) (Runs-prefix c before rest s (subst (λ (j : List Entry). Runs c j s) splits runs))

pub fulfilled-Runs : (c : Configuration) (journal : List Entry) (s : State) → Runs c journal s → FulfilledOwn s
fulfilled-Runs c journal s runs = owned-labels s (invariant-Runs c journal s runs).owned.requests

-- # over a journal: what is due stays due with each turn, and each turn that makes a request fail has its cause

-- ## one turn

-- the turn of an entry in the state
abbrev turn : Configuration → State → Entry → Turn
turn c s entry = record { before = s; entry = entry; later = next c s entry.event }

-- what is due after the turn, and the causes of what fails by it
record IsPaid (c : Configuration) (past : List Turn) (t : Turn) : Type 0 where
  due : IsDue c (past ++ t ∷ []) t.later
  causes : (r : RequestId) (q : RequestRecord) → FailsNow t r q → HasCause c (past ++ t ∷ []) t r q

pub ok-what : (a : Answer) → is_ok a ≡ true → (what : Done) × (a ≡ Ok what)
ok-what (Ok what) is = (what, refl)
ok-what (Err why) is = absurd (false≢true is)

accepted-turn : (c : Configuration) (past : List Turn) (s : State) (entry : Entry) → Invariant c s → IsDue c past s → is_ok (judge c s entry.event) ≡ true → is_done entry.reply ≡ true → IsPaid c past (turn c s entry)
accepted-turn c past s entry old due ok accepted =
    let what : (d : Done) × (judge c s entry.event ≡ Ok d) = ok-what (judge c s entry.event) ok in
    let given : Premises c s (plan c s entry.event) = premises c s entry.event ok in
    let tells : Tells c s entry.event (plan c s entry.event) = plan-tells c s entry.event what.0 what.1 in
    let leads : changed c (plan c s entry.event) s ≡ next c s entry.event = plan-next c s entry.event ok in
    let after_changes : IsDue c (past ++ turn c s entry ∷ []) (changed c (plan c s entry.event) s) = record {
      declines = declines-made c past (turn c s entry) (plan c s entry.event) old.numbered given tells accepted due.declines;
      pinned = pinned-stand c s entry.event (plan c s entry.event) old.numbered given tells due.pinned;
      reports = reports-counted c past (turn c s entry) (plan c s entry.event) old.numbered old.owned.launches given tells (report-told c s entry.event what.0 what.1) accepted due.reports;
    } in
    let later : IsDue c (past ++ turn c s entry ∷ []) (next c s entry.event) = subst (λ (x : State). IsDue c (past ++ turn c s entry ∷ []) x) leads after_changes in
    record { due = later; causes = cause c past (turn c s entry) (plan c s entry.event) old due given tells leads later.declines }

refused-due : (c : Configuration) (past : List Turn) (t : Turn) (s : State) → is_done t.entry.reply ≡ false → IsDue c past s → IsDue c (past ++ t ∷ []) s
refused-due c past t s refused due =
    let quiet : (n : NodeId) → reports n t ≡ false = (λ n. and_right (is_report_on n t.entry.event) (is_done t.entry.reply) refused) in
    record {
      declines = λ r q is d among. some-before (IsTrueDecline c r d.pool d.reason) past t (due.declines r q is d among);
      pinned = due.pinned;
      reports = record {
        later = λ n late. reports-other n past t (quiet n) ∙ due.reports.later n late;
        each = λ n k is. other-counted c past t n k (quiet n) (due.reports.each n k is);
      };
    }

-- a refused entry changes nothing, and no request fails by it
refused-turn : (c : Configuration) (past : List Turn) (s : State) (entry : Entry) → IsDue c past s → is_ok (judge c s entry.event) ≡ false → is_done entry.reply ≡ false → IsPaid c past (turn c s entry)
refused-turn c past s entry due refused undone =
    let same : next c s entry.event ≡ s = rw refused refl in
    record {
      due = subst (λ (x : State). IsDue c (past ++ turn c s entry ∷ []) x) (sym same) (refused-due c past (turn c s entry) s undone due);
      causes = λ r q fails. absurd (both_ways (has_failed r s) fails.before (failed-then s r q (subst (λ (x : State). request_in r x.requests ≡ Some q) same fails.stands) ∙ fails.failed));
    }

one-turn : (c : Configuration) (past : List Turn) (s : State) (entry : Entry) → Invariant c s → IsDue c past s → reply_of (judge c s entry.event) ≡ entry.reply → IsPaid c past (turn c s entry)
one-turn c past s entry old due says =
    let done : is_done entry.reply ≡ is_ok (judge c s entry.event) = done-accepted c s entry says in
    by_bool (λ _. IsPaid c past (turn c s entry)) (is_ok (judge c s entry.event)) (λ ok. accepted-turn c past s entry old due ok (done ∙ ok)) (λ refused. refused-turn c past s entry due refused (done ∙ refused))

-- ## all turns

caused-from : (c : Configuration) (past : List Turn) (s : State) (journal : List Entry) → Invariant c s → IsDue c past s → replayed c s journal ≡ journal → CausedFrom c past (turns_from c s journal)
caused-from c past s [] old due replies = tt
caused-from c past s (entry ∷ journal) old due replies =
    let paid : IsPaid c past (turn c s entry) = one-turn c past s entry old due (head-reply c s entry journal replies) in
    (paid.causes, caused-from c (past ++ turn c s entry ∷ []) (next c s entry.event) journal (invariant-next c s entry.event old) paid.due (tail-replies c s entry journal replies))

pub caused-Runs : (c : Configuration) (journal : List Entry) (s : State) → Runs c journal s → Caused c journal
caused-Runs c journal s runs = caused-from c [] (start c) journal (invariant-start c) (due-start c) runs.replies

pub caused-every_step : (c : Configuration) (journal : List Entry) (s : State) → Runs c journal s → AfterEveryStep (Caused c) journal
caused-every_step c journal s runs before rest splits = caused-Runs c before (after c before) (Runs-prefix c before rest s (subst (λ (j : List Entry). Runs c j s) splits runs))

-- # each change of a node is its holder's

-- ## who holds a node of a complete request

filled-held : (p : PoolId) (session : SessionId) (r : RequestId) (l : LabelId) (n : NodeId) (rows : List NodeEntry) → is_filled p session r l (node_entry n rows) ≡ true → is_session_of session (node_holder n rows) ≡ true
filled-held p session r l n rows is = grind (arith, nat_tests)

complete-held : (s : State) (p : PoolId) (session : SessionId) (r : RequestId) (request : RequestRecord) (n : NodeId) → StandsIn s r request request.state → is_pending_by p request ≡ true → unfilled p session r s.nodes request.labels request.nodes ≡ 0
    → list_any (λ m. m.0 == n.0) request.nodes ≡ true → is_session_of session (node_holder n s.nodes) ≡ true
complete-held s p session r request n stands pending none listed =
    let served : IsServed s r request = served-if s r request request.state (and_parts (is_pending request.state) (is_pool p request.pool) pending).0 stands in
    let place = node-place n request.nodes listed in
    let within : place.0 < length request.labels = omega (arith, slice_get_within request.nodes place.0 n place.1, served.few) in
    let label = member-there request.labels place.0 within in
    filled-held p session r label.0 n s.nodes (filled-at p session r s.nodes request.labels request.nodes none place.0 n label.0 place.1 label.1)

-- a session that holds each of the nodes holds a given one of them
marks-of : (n : NodeId) (numbers : List NodeId) → list_any (λ m. m.0 == n.0) numbers ≡ true → list_any (λ m. m.node.0 == n.0) (map unended numbers) ≡ true
marks-of n [] listed = absurd cc
marks-of n (m ∷ numbers) listed = grind (arith, nat_tests, marks-of n numbers)

-- ## one step

-- an event that ends a request gives none back
ends-not_back : (e : Event) (r x : RequestId) (o : Option RequestRecord) → is_request_end r o e ≡ true → given_back_by e ≡ Some x → ⊥
ends-not_back x0 r x o ends gives = grind (arith, nat_tests)

request-of : (x : RequestId) (o : Option RequestId) → is_request x o ≡ true → o ≡ Some x
request-of x None is = absurd cc
request-of x (Some y) is = ap Some (request-equal y x is)

holder-alone : (session : SessionId) (queue : List SessionId) → holder queue ≡ None → is_session_of session (holder (joined session queue)) ≡ true
holder-alone session [] none = grind (arith, nat_tests)
holder-alone session (first ∷ queue) none = absurd cc

module _ (c : Configuration) (s : State) (entry : Entry) (old : Invariant c s) (ok : is_ok (judge c s entry.event) ≡ true) (n : NodeId) (node : NodeRecord) (stands : node_in n s.nodes ≡ Some node) where
  abbrev e : Event
  e = entry.event

  abbrev ch : Changes
  ch = plan c s e

  abbrev g : State
  g = grown c ch.maker ch.grows s

  abbrev t : Turn
  t = record { before = s; entry = entry; later = next c s e }

  given : Premises c s ch
  given = premises c s e ok

  goes : Goes s e ch
  goes = plan-goes c s e old.jobs ok

  -- as it is after the change of nodes
  later-is : node_in n (next c s e).nodes ≡ node_in n (nodes_changed ch.maker g.tick ch.nodes g.nodes)
  later-is = ap (λ (u : State). node_in n u.nodes) (sym (plan-next c s e ok)) ∙ left-node ch.sessions n (nodes_changed ch.maker g.tick ch.nodes g.nodes)

  by-before : (maker : Maker) → ch.maker ≡ Some maker → is_session_of maker.session (node_holder n s.nodes) ≡ true → ByHolder t n
  by-before maker makes holds = record { session = maker.session; makes = plan-maker c s e maker makes; holds = inl holds }

  -- as it was, or changed by its holder
  abbrev IsOwn : Type 0
  IsOwn = (node_in n (next c s e).nodes ≡ Some node) ⊎ ByHolder t n

  -- ### a node that is taken ready

  none-ends : (r : RequestId) (tenant : Option TenantId) → ch.grows ≡ Growth.Allocate n r tenant → (rows : List NodeEntry) → node_queue n (nodes_left ch.sessions rows) ≡ node_queue n rows
  none-ends r tenant grows rows = grind (arith, nat_tests)

  taken-held : (r : RequestId) (gains : Gains c s ch r n) → ch.nodes ≡ NodesChange.Same → IsTaken c s ch gains.pool r gains.request gains.label n → ByHolder t n
  taken-held r gains same taken =
      let session = gains.worked_on.session in
      let maker : Maker = record { session = session; role = Launcher gains.pool } in
      let self : (n.0 == n.0) ≡ true = grind (arith, nat_tests) in
      let now : node_queue n (next c s e).nodes ≡ joined session (node_queue n s.nodes) =
      ap (λ (u : State). node_queue n u.nodes) (sym (plan-next c s e ok))
      ∙ none-ends r _ taken.grows (nodes_changed ch.maker g.tick ch.nodes g.nodes)
      ∙ rw (same, gains.worked_on.made_by, taken.grows) (node_queue-allocated n n r _ session node s.nodes stands ∙ rw self refl) in
      record {
        session = session;
        makes = plan-maker c s e maker gains.worked_on.made_by;
        holds = inr (ap (λ (queue : List SessionId). is_session_of session (holder queue)) now ∙ holder-alone session (node_queue n s.nodes) taken.unlocked);
      }

  -- a node that is gained changes no other node
  gain-nodes : (r : RequestId) (m : NodeId) → Gains c s ch r m → ch.nodes ≡ NodesChange.Same
  gain-nodes r m gains = (subst (λ (change : RequestsChange). RequestsPremise c s ch change) gains.edits given.requests).1

  -- ### what happens to nodes

  held-node : (m : NodeId) (k : NodeRecord) → m ≡ n → IsHeldNode s ch.maker m k → ByHolder t n
  held-node m k same held = by-before (record { session = held.session; role = held.role }) held.made_by (subst (λ (x : NodeId). is_session_of held.session (node_holder x s.nodes) ≡ true) same held.holds)

  -- one of the nodes of a request that is fulfilled and removed
  freed-held : (x : RequestId) → EmptiesRequest x ch.requests → ch.nodes ≡ NodesChange.FreeAll x → given_back_by e ≡ None → is_request x node.allocated_to ≡ true → ByHolder t n
  freed-held x (inr (inl edits)) frees none mine = absurd (let gives : None ≡ Some x = sym none ∙ goes.edit x RequestEdit.GiveBack edits refl in cc)
  freed-held x (inr (inr (p, why, failed, edits))) frees none mine = absurd (let gives : None ≡ Some x = sym none ∙ goes.edit x (RequestEdit.Decline p why failed) edits refl in cc)
  freed-held x (inl removes) frees none mine = by (subst (λ (change : RequestsChange). RequestsPremise c s ch change) removes given.requests) where
    by : GoesFulfilled s ch x ⊎ (TakesOver c s ch x ⊎ GoesWithdrawn s ch x) → ByHolder t n
    by (inl fulfilled) =
        let f = fulfilled.fulfils in
        by-before (record { session = f.worked_on.session; role = Launcher f.pool }) f.worked_on.made_by
        (complete-held s f.pool f.worked_on.session x f.request n (old.owned.requests x f.request f.worked_on.stands) f.pending f.filled ((old.owned.allocations n node x stands (request-of x node.allocated_to mine)).listed f.request f.worked_on.stands))
    by (inr (inl takes)) = absurd (let both : NodesChange.FreeAll x ≡ NodesChange.TakeOver takes.request.nodes = sym frees ∙ takes.takes in cc)
    by (inr (inr gone)) = absurd (let both : NodesChange.FreeAll x ≡ NodesChange.Same = sym frees ∙ gone.withdraws.same_nodes in cc)

  -- ### what a decline or a reset gives back

  given-back : (r : RequestId) → given_back_by e ≡ Some r → (node_in n (next c s e).nodes ≡ Some node) ⊎ TakenBack t n node r
  given-back r gives = by (goes.back r gives) where
    back : ch.nodes ≡ NodesChange.FreeAll r → is_request r node.allocated_to ≡ true → node_in n (next c s e).nodes ≡ Some (freed node) → EmptiesRequest r ch.requests → TakenBack t n node r
    back frees mine is (inl removes) = absurd (goes-not (subst (λ (change : RequestsChange). RequestsPremise c s ch change) removes given.requests)) where
      goes-not : GoesFulfilled s ch r ⊎ (TakesOver c s ch r ⊎ GoesWithdrawn s ch r) → ⊥
      goes-not (inl fulfilled) = ends-not_back e r r (request_in r s.requests) (goes.request r removes (ap (λ (o : Option RequestRecord). is_some o) fulfilled.fulfils.worked_on.stands)) gives
      goes-not (inr (inl takes)) = let both : NodesChange.FreeAll r ≡ NodesChange.TakeOver takes.request.nodes = sym frees ∙ takes.takes in absurd cc
      goes-not (inr (inr gone)) = let both : NodesChange.FreeAll r ≡ NodesChange.Same = sym frees ∙ gone.withdraws.same_nodes in absurd cc
    back frees mine is (inr (inl edits)) =
        let premise = subst (λ (change : RequestsChange). RequestsPremise c s ch change) edits given.requests in
        record { session = premise.by.session; makes = plan-maker c s e premise.by premise.made_by; holds = premise.holds; allocated = mine; after = is }
    back frees mine is (inr (inr (p, why, failed, edits))) =
        let premise = subst (λ (change : RequestsChange). RequestsPremise c s ch change) edits given.requests in
        record { session = premise.worked_on.session; makes = plan-maker c s e (record { session = premise.worked_on.session; role = Launcher p }) premise.worked_on.made_by; holds = premise.worked_on.holds; allocated = mine; after = is }

    by : (ch.grows ≡ Growth.Nothing) × ((ch.nodes ≡ NodesChange.Same) ⊎ (ch.nodes ≡ NodesChange.FreeAll r)) → (node_in n (next c s e).nodes ≡ Some node) ⊎ TakenBack t n node r
    by (none, (inl same)) = inl (later-is ∙ rw (same, none) stands)
    by (none, (inr frees)) =
        let now : node_in n (next c s e).nodes ≡ Some (cond (is_request r node.allocated_to) (freed node) node) =
        later-is ∙ rw (frees, none) (node_in-freed r n s.nodes ∙ ap (λ (o : Option NodeRecord). option_map (λ k. cond (is_request r k.allocated_to) (freed k) k) o) stands) in
        by_bool (λ _. (node_in n (next c s e).nodes ≡ Some node) ⊎ TakenBack t n node r) (is_request r node.allocated_to)
        (λ mine. inr (back frees mine (now ∙ rw mine refl) (subst (λ (change : NodesChange). NodesPremise c s ch change) frees given.nodes))) (λ other. inl (now ∙ rw other refl))

  -- the turn is fenced: what a decline or a reset gives back, and otherwise by the holder
  own : given_back_by e ≡ None → IsOwn
  own none = by (node-step c s ch old.numbered n given) where
    gained : (r : RequestId) (tenant : Option TenantId) → ch.grows ≡ Growth.Allocate n r tenant → (gains : Gains c s ch r n) → IsTaken c s ch gains.pool r gains.request gains.label n ⊎ IsMade c s ch gains.pool r gains.request gains.label n → ByHolder t n
    gained r tenant at gains (inl taken) = taken-held r gains (gain-nodes r n gains) taken
    gained r tenant at gains (inr made) = absurd (let both : Growth.Allocate n r tenant ≡ Growth.Node _ = sym at ∙ made.grows in cc)

    how : (k : NodeRecord) → NodeChange s ch n node k → ByHolder t n
    how k (IsPut puts) =
        let premise : PutsNode c s ch n k = subst (λ (change : NodesChange). NodesPremise c s ch change) puts given.nodes in
        held-node n premise.node refl premise.held
    how k (IsFreed x at mine now) = freed-held x (subst (λ (change : NodesChange). NodesPremise c s ch change) at given.nodes) at none mine
    how k (IsUsed numbers at among now) =
        let premise = subst (λ (change : NodesChange). NodesPremise c s ch change) at given.nodes in
        let takes = premise.1 in
        let mine : list_any (λ m. m.0 == n.0) takes.request.nodes ≡ true = subst (λ (ns : List NodeId). list_any (λ m. m.0 == n.0) ns ≡ true) premise.2.1 among in
        by-before takes.by takes.made_by (one-held s takes.by.session n takes.request.nodes (marks-of n takes.request.nodes mine) takes.held)
    how k (IsAllocated r tenant at now) =
        let gains : Gains c s ch r n = subst (λ (growth : Growth). GrowthPremise c s ch growth) at given.grows in
        gained r tenant at gains gains.from

    by : NodeStep s ch n (node_in n s.nodes) (node_in n (changed c ch s).nodes) → IsOwn
    by (Stays same) = inl (ap (λ (u : State). node_in n u.nodes) (sym (plan-next c s e ok)) ∙ same ∙ stands)
    by (Altered was k stood now changes) = inr (how k (subst (λ (x : NodeRecord). NodeChange s ch n x k) (same_Some was node (sym stood ∙ stands)) changes))
    by (Added k before now grows number) = absurd (none-some node (sym before ∙ stands))
    by (Removed was stood gone removes) =
        let premise : RemovesNode s ch n = subst (λ (change : NodesChange). NodesPremise c s ch change) removes given.nodes in
        inr (held-node n premise.node refl premise.held)

  pub rightful : (o : Option RequestId) → given_back_by e ≡ o → (node_in n (next c s e).nodes ≡ Some node) ⊎ IsRightful t n node o
  rightful None is = own is
  rightful (Some r) is = given-back r is

fenced-turn : (c : Configuration) (s : State) (entry : Entry) → Invariant c s → IsFenced (record { before = s; entry = entry; later = next c s entry.event })
fenced-turn c s entry old n node stands = by_bool (λ _. (node_in n (next c s entry.event).nodes ≡ Some node) ⊎ IsRightful (turn c s entry) n node (given_back_by entry.event)) (is_ok (judge c s entry.event))
    (λ ok. rightful c s entry old ok n node stands (given_back_by entry.event) refl) (λ refused. inl (rw refused stands))

fenced-from : (c : Configuration) (s : State) (journal : List Entry) → Invariant c s → EachTurn IsFenced (turns_from c s journal)
fenced-from c s [] old = tt
fenced-from c s (entry ∷ journal) old = (fenced-turn c s entry old, fenced-from c (next c s entry.event) journal (invariant-next c s entry.event old))

pub fenced-Runs : (c : Configuration) (journal : List Entry) (s : State) → Runs c journal s → Fenced c journal
fenced-Runs c journal s runs = fenced-from c (start c) journal (invariant-start c)

pub fenced-every_step : (c : Configuration) (journal : List Entry) (s : State) → Runs c journal s → AfterEveryStep (Fenced c) journal
fenced-every_step c journal s runs before rest splits = fenced-Runs c before (after c before) (Runs-prefix c before rest s (subst (λ (j : List Entry). Runs c j s) splits runs))

-- the laws, for the functions that say them
pub ruleset holding = (node-holder, request-holder, fulfilled-Runs)

pub ruleset over_journals = (caused-Runs, caused-every_step, fenced-Runs, fenced-every_step)
