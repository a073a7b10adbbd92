-- what an event makes exists after it until its end, which is in the journal
use Rattle.np_changes.proofs.Prelude.{remove_request, AllByRecursion, ◌<◌, ◌≤◌, Bool, Changes, Configuration, EachTurn, Entry, Event, Invariant, List, LosesNothing, Maker, NodeId, NodeRecord, None, Option, RequestEntry, RequestId, RequestRecord, RequestsChange, Rises, SameRecords, SessionId, Some, State, [], ap, arith, changed, edited, grown, inl, inr, is_gone, is_id_before, is_loss, is_ok, is_request_end, is_some, judge, left, length-change_at, map-keys, map-some, nat_tests, next, node_in, plan, refl, request-equal, request_in, request_queue, requests_changed, same_request, sym, true, turns_from, ◌∙◌, ◌∷◌, ◌≡◌, ◌⊎◌, AfterEveryStep, Answer, Done, EndsRequest, JobId, Kept, LabelId, NodesKept, Ok, RemovesNode, Reply, RequestsKept, Runs, Runs-prefix, SomeTurn, Turn, after, effect_create, effect_min_ready, effect_submit, insert_request, is_node_made, is_request_made, judge_create, judge_min_ready, judge_submit, replayed, reply_of, some-of, start, state_after, subst}
use Rattle.np_lists.proofs.Plain.{by_bool}
use Rattle.np_changes.proofs.Accepted.{accepted-reply, accepted-state, head-reply, plan-goes, plan-next, tail-replies}
use Rattle.np_changes.proofs.Lookups.{found-grown, grown-numbered, left-request, node-step, node_in-later, node_in-new, request_in-below, request_in-edit, request_in-later, request_in-new, request_in-queue, request_in-remove, request_in-removed, same-seq}
use Rattle.np_changes.proofs.Premises.{premises}
use Rattle.np_changes.proofs.Runs.{invariant-next, invariant-start}

-- # a crash or an expiry changes no record, and what was made still exists or its end is in the journal

-- ## a crash or an expiry

same-records : (s : State) → SameRecords s s
same-records s = record { request_ids = refl; requests = refl; node_ids = refl; nodes = refl; jobs = refl; handles = refl; swept = refl; next_session = refl; next_request = refl; next_node = refl }

crash-loses : (c : Configuration) (s : State) (session : SessionId) → SameRecords s (next c s (Event.Crash session))
crash-loses c s session = grind (arith, nat_tests, same-records, length-change_at)

expire-loses : (c : Configuration) (s : State) (session : SessionId) → SameRecords s (next c s (Event.Expire session))
expire-loses c s session = grind (arith, nat_tests, same-records, map-keys, length-change_at)

loses-nothing : (c : Configuration) (s : State) (e : Event) → is_loss e ≡ true → SameRecords s (next c s e)
loses-nothing c s (Event.Crash session) is = crash-loses c s session
loses-nothing c s (Event.Expire session) is = expire-loses c s session
loses-nothing c s _ is = absurd cc

pub all-losses : (c : Configuration) (s : State) (journal : List Entry) → EachTurn LosesNothing (turns_from c s journal)
all-losses c s [] = tt
all-losses c s (e ∷ journal) = (λ is accepted. loses-nothing c s e.event is, all-losses c (next c s e.event) journal)

-- ## what one event removes

-- a request that exists is there after the event, or has its end by it
abbrev pub RequestGoesOn : Configuration → State → Event → RequestId → Type 0
RequestGoesOn c s e r =
    (is_some (request_in r (next c s e).requests) ≡ true)
    ⊎ ((is_request_end r (request_in r s.requests) e ≡ true) × ((is_ok (judge c s e) ≡ true) × (request_in r (next c s e).requests ≡ None)))

abbrev pub NodeGoesOn : Configuration → State → Event → NodeId → Type 0
NodeGoesOn c s e n =
    (is_some (node_in n (next c s e).nodes) ≡ true)
    ⊎ ((is_gone n e ≡ true) × ((is_ok (judge c s e) ≡ true) × (node_in n (next c s e).nodes ≡ None)))

there : {A : Type 0} (o : Option A) (a : A) → o ≡ Some a → is_some o ≡ true
there {A} o a is = ap (λ (x : Option A). is_some x) is

-- a change of requests keeps each that it does not remove
request-stays : (maker : Option Maker) (rows : List RequestEntry) → Rises (λ a b. is_id_before a.id b.id) rows → (change : RequestsChange) (r : RequestId) → is_some (request_in r rows) ≡ true
    → (is_some (request_in r (requests_changed maker change rows)) ≡ true) ⊎ ((change ≡ RequestsChange.Remove r) × (request_in r (requests_changed maker change rows) ≡ None))
request-stays maker rows rises (RequestsChange.Edit x e) r is = inl (ap (λ (o : Option RequestRecord). is_some o) (request_in-edit x r (edited e) rows) ∙ map-some _ (request_in r rows) ∙ is)
request-stays maker rows rises (RequestsChange.Remove x) r is =
    by_bool (λ _. (is_some (request_in r (remove_request x rows)) ≡ true) ⊎ ((RequestsChange.Remove x ≡ RequestsChange.Remove r) × (request_in r (remove_request x rows) ≡ None))) (same_request x r)
    (λ which. inr (ap (λ (y : RequestId). RequestsChange.Remove y) (request-equal x r which), request_in-removed x r rows rises which)) (λ which. inl (ap (λ (o : Option RequestRecord). is_some o) (request_in-remove x r rows which) ∙ is))
request-stays (Some maker) rows rises (RequestsChange.Leave x) r is = inl (ap (λ (o : Option RequestRecord). is_some o) (request_in-queue x r (left maker.session (request_queue x rows)) rows) ∙ is)
request-stays maker rows rises _ r is = inl is

pub request-goes : (c : Configuration) (s : State) (e : Event) → Invariant c s → (r : RequestId) (q : RequestRecord) → request_in r s.requests ≡ Some q → RequestGoesOn c s e r
request-goes c s e old r q is = by_bool (λ _. RequestGoesOn c s e r) (is_ok (judge c s e)) (λ ok.
    let ch : Changes = plan c s e in
    let g : State = grown c ch.maker ch.grows s in
    let grew : request_in r g.requests ≡ request_in r s.requests = found-grown c s ch.maker ch.grows r (request_in-below r s.next_request q s.requests old.numbered.requests_below is) in
    let found : request_in r (next c s e).requests ≡ request_in r (requests_changed ch.maker ch.requests g.requests) = ap (λ (t : State). request_in r t.requests) (sym (plan-next c s e ok)) ∙ left-request ch.sessions r (requests_changed ch.maker ch.requests g.requests) in
    let stays = request-stays ch.maker g.requests (grown-numbered c s ch.maker ch.grows old.numbered).requests_rise ch.requests r (there _ q (grew ∙ is)) in
    grind (arith, ok, found, stays, (plan-goes c s e old.jobs ok).request r, there (request_in r s.requests) q is))
    (λ refused. inl (rw refused (there (request_in r s.requests) q is)))

-- ## nodes

pub node-goes : (c : Configuration) (s : State) (e : Event) → Invariant c s → (n : NodeId) (k : NodeRecord) → node_in n s.nodes ≡ Some k → NodeGoesOn c s e n
node-goes c s e old n k is = by_bool (λ _. NodeGoesOn c s e n) (is_ok (judge c s e)) (λ ok.
    let found : node_in n (next c s e).nodes ≡ node_in n (changed c (plan c s e) s).nodes = ap (λ (t : State). node_in n t.nodes) (sym (plan-next c s e ok)) in
    grind (arith, ok, found, is, node-step c s (plan c s e) old.numbered n (premises c s e ok), (plan-goes c s e old.jobs ok).node n))
    (λ refused. inl (rw refused (there (node_in n s.nodes) k is)))

-- # what an event makes exists after it, and until its end

-- ## a new request

-- a new request with the next number is there
new-request : (s : State) → AllByRecursion (λ (e : RequestEntry). e.id.seq < s.next_request) s.requests → (new : RequestEntry) → new.id.seq ≡ s.next_request → (r : RequestId) → same_request new.id r ≡ true → is_some (request_in r (insert_request new s.requests)) ≡ true
new-request s below new number r same =
    let low : new.id.seq ≤ r.seq = same-seq new.id r same in
    there _ new.kept (request_in-new new r s.requests same (request_in-later r s.next_request s.requests below (omega arith)))

-- ## submit

submit-made : (c : Configuration) (s : State) (session : SessionId) (j : JobId) → Invariant c s → (r : RequestId) (what : Done) → judge_submit c s session j ≡ Ok what → is_request_made r (Event.Submit session j) (Reply.Done what) ≡ true → is_some (request_in r (effect_submit c s j).requests) ≡ true
submit-made c s session j old r what is named = grind (arith, nat_tests, new-request s old.numbered.requests_below)

-- ## min-ready

min_ready-made : (c : Configuration) (s : State) (session : SessionId) (l : LabelId) → Invariant c s → (r : RequestId) (what : Done) → judge_min_ready c s session l ≡ Ok what → is_request_made r (Event.MinReady session l) (Reply.Done what) ≡ true → is_some (request_in r (effect_min_ready s session l).requests) ≡ true
min_ready-made c s session l old r what is named = grind (arith, nat_tests, new-request s old.numbered.requests_below)

-- ## create

create-made : (c : Configuration) (s : State) (session : SessionId) (r : RequestId) → Invariant c s → (n : NodeId) (what : Done) → judge_create c s session r ≡ Ok what → is_node_made n (Event.Create session r) (Reply.Done what) ≡ true → is_some (node_in n (effect_create c s session r).nodes) ≡ true
create-made c s session r old n what is named = grind (arith, nat_tests, node_in-new, node_in-later n s.next_node s.nodes old.numbered.nodes_below)

-- ## whatever makes

request-made : (c : Configuration) (s : State) (e : Event) → Invariant c s → (r : RequestId) (a : Answer) → judge c s e ≡ a → is_request_made r e (reply_of a) ≡ true → is_some (request_in r (next c s e).requests) ≡ true
request-made c s (Event.Submit session j) old r (Ok what) is named =
    rw (accepted-state c s (Event.Submit session j) (ap (λ (a : Answer). is_ok a) is)) (submit-made c s session j old r what is named)
request-made c s (Event.MinReady session l) old r (Ok what) is named =
    rw (accepted-state c s (Event.MinReady session l) (ap (λ (a : Answer). is_ok a) is)) (min_ready-made c s session l old r what is named)
request-made c s _ old r a is named = absurd cc

node-made : (c : Configuration) (s : State) (e : Event) → Invariant c s → (n : NodeId) (a : Answer) → judge c s e ≡ a → is_node_made n e (reply_of a) ≡ true → is_some (node_in n (next c s e).nodes) ≡ true
node-made c s (Event.Create session r) old n (Ok what) is named =
    rw (accepted-state c s (Event.Create session r) (ap (λ (a : Answer). is_ok a) is)) (create-made c s session r old n what is named)
node-made c s _ old n a is named = absurd cc

-- ## over a journal

-- what exists continues to exist with each turn, or ends by one of them
module _ (c : Configuration) (stands : State → Bool) (Ends : Turn → Type 0)
    (goes : (s : State) (e : Entry) → Invariant c s → reply_of (judge c s e.event) ≡ e.reply → stands s ≡ true → (stands (next c s e.event) ≡ true) ⊎ Ends (record { before = s; entry = e; later = next c s e.event })) where
  goes_on : (s : State) (journal : List Entry) → Invariant c s → replayed c s journal ≡ journal → stands s ≡ true → (stands (state_after c s journal) ≡ true) ⊎ SomeTurn Ends (turns_from c s journal)
  goes_on s [] old replies is = inl is
  goes_on s (e ∷ journal) old replies is =
      grind (arith, goes s e old (head-reply c s e journal replies) is, goes_on (next c s e.event) journal (invariant-next c s e.event old) (tail-replies c s e journal replies))

request-turn : (c : Configuration) (r : RequestId) (s : State) (e : Entry) → Invariant c s → reply_of (judge c s e.event) ≡ e.reply → is_some (request_in r s.requests) ≡ true
    → (is_some (request_in r (next c s e.event).requests) ≡ true) ⊎ EndsRequest r (record { before = s; entry = e; later = next c s e.event })
request-turn c r s e old says is = let found = some-of (request_in r s.requests) is in grind (arith, request-goes c s e.event old r found.0 found.1, accepted-reply c s e says)

node-turn : (c : Configuration) (n : NodeId) (s : State) (e : Entry) → Invariant c s → reply_of (judge c s e.event) ≡ e.reply → is_some (node_in n s.nodes) ≡ true
    → (is_some (node_in n (next c s e.event).nodes) ≡ true) ⊎ RemovesNode n (record { before = s; entry = e; later = next c s e.event })
node-turn c n s e old says is = let found = some-of (node_in n s.nodes) is in grind (arith, node-goes c s e.event old n found.0 found.1, accepted-reply c s e says)

requests-kept : (c : Configuration) (s : State) (journal : List Entry) → Invariant c s → replayed c s journal ≡ journal → RequestsKept (state_after c s journal) (turns_from c s journal)
requests-kept c s [] old replies = tt
requests-kept c s (e ∷ journal) old replies =
    let later : Invariant c (next c s e.event) = invariant-next c s e.event old in
    let tail : replayed c (next c s e.event) journal ≡ journal = tail-replies c s e journal replies in (
      λ r made_it. goes_on c (λ t. is_some (request_in r t.requests)) (EndsRequest r) (request-turn c r) (next c s e.event) journal later tail
          (request-made c s e.event old r (judge c s e.event) refl (subst (λ (x : Reply). is_request_made r e.event x ≡ true) (sym (head-reply c s e journal replies)) made_it)),
      requests-kept c (next c s e.event) journal later tail,
    )

nodes-kept : (c : Configuration) (s : State) (journal : List Entry) → Invariant c s → replayed c s journal ≡ journal → NodesKept (state_after c s journal) (turns_from c s journal)
nodes-kept c s [] old replies = tt
nodes-kept c s (e ∷ journal) old replies =
    let later : Invariant c (next c s e.event) = invariant-next c s e.event old in
    let tail : replayed c (next c s e.event) journal ≡ journal = tail-replies c s e journal replies in (
      λ n made_it. goes_on c (λ t. is_some (node_in n t.nodes)) (RemovesNode n) (node-turn c n) (next c s e.event) journal later tail
          (node-made c s e.event old n (judge c s e.event) refl (subst (λ (x : Reply). is_node_made n e.event x ≡ true) (sym (head-reply c s e journal replies)) made_it)),
      nodes-kept c (next c s e.event) journal later tail,
    )

pub kept-Runs : (c : Configuration) (journal : List Entry) (s : State) → Runs c journal s → Kept c journal
kept-Runs c journal s runs = record {
  losses = all-losses c (start c) journal;
  requests = requests-kept c (start c) journal (invariant-start c) runs.replies;
  nodes = nodes-kept c (start c) journal (invariant-start c) runs.replies;
}

pub kept-every_step : (c : Configuration) (journal : List Entry) (s : State) → Runs c journal s → AfterEveryStep (Kept c) journal
kept-every_step c journal s runs before rest splits = kept-Runs c before (after c before) (Runs-prefix c before rest s (subst (λ (j : List Entry). Runs c j s) splits runs))

pub ruleset keeping = (kept-Runs, kept-every_step)
