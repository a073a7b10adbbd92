-- all that the changes of an event touch is listed before it
use Rattle.np_classes.proofs.Prelude.{AllocationsListed, Asked, Bool, Changes, Configuration, EditPremise, EmptiesRequest, GoesWithdrawn, Growth, Invariant, IsAsking, IsMade, IsPlanned, IsReached, IsTaken, IsTouched, JobIn, JobsStand, List, NodeEntry, NodeId, NodeRecord, NodesChange, NodesPremise, None, Option, Phase, Premises, RequestEdit, RequestEntry, RequestId, RequestRecord, RequestsChange, RequestsPremise, SessionId, SessionsChange, Some, State, TouchedOf, ap, arith, changed_nodes, changed_requests, changes_node, ended, ends_at_node, ends_at_request, false, filter, find, grown_nodes, grown_queues, grown_requests, grows_node, grows_request_queue, inl, inr, invariant-Runs, is_asked, is_new, is_queued, is_request, leaves_request_queue, left_queues, length, list_any, list_any-append, map, new_node, node_in, option_map_or, or_false, or_true, premises, queued_nodes, queued_requests, refl, remove-alone, request_equal, request_in, same_node, same_request, subst, sym, tenant_of_request, touched_jobs, touched_nodes, touched_queues, touched_requests, touched_sessions, touches_node, touches_request, touches_request_queue, true, unclaimed_nodes, unclaims_node, ℕ, [], ◌++◌, ◌==◌, ◌||◌, ◌∙◌, ◌∷◌, ◌≡◌, ◌≤◌, ◌⊎◌}

-- what is touched in one of two ways is in the list of that way
either-listed : {K : Type 0} (p : K → Bool) (a b : Bool) (xs ys : List K) → (a ≡ true → list_any p xs ≡ true) → (b ≡ true → list_any p ys ≡ true) → (a || b) ≡ true → list_any p (xs ++ ys) ≡ true
either-listed p true b xs ys first second is = rw (list_any-append p xs ys, first refl) refl
either-listed p false b xs ys first second is = rw (list_any-append p xs ys, second is) (or_true (list_any p xs))

-- ## nodes

abbrev listed : NodeId → List NodeId → Bool
listed n ns = list_any (λ m. same_node m n) ns

grown-listed : (g : Growth) (s : State) (n : NodeId) → grows_node g s n ≡ true → listed n (grown_nodes g s) ≡ true
grown-listed g s n is = grind (arith, is)

-- a node that is allocated to a request that is there is in its list
freed-listed : (s : State) (r : RequestId) (n : NodeId) (request : RequestRecord) → AllocationsListed s → request_in r s.requests ≡ Some request
    → (o : Option NodeRecord) → node_in n s.nodes ≡ o → option_map_or (λ k. is_request r k.allocated_to) o false ≡ true → list_any (λ m. m.0 == n.0) request.nodes ≡ true
freed-listed s r n request allocations stands None at is = absurd cc
freed-listed s r n request allocations stands (Some k) at is = by k.allocated_to refl is where
  by : (o : Option RequestId) → k.allocated_to ≡ o → is_request r o ≡ true → list_any (λ m. m.0 == n.0) request.nodes ≡ true
  by None to is_it = absurd cc
  by (Some other) to is_it =
      let alike : other ≡ r = request_equal other r is_it in
      (allocations n k r at (to ∙ ap (λ (x : RequestId). Some x) alike)).listed request stands

-- the request of a job that is given up is there
withdrawn-stands : (s : State) (ch : Changes) (r : RequestId) → JobsStand s → GoesWithdrawn s ch r → (request : RequestRecord) × (request_in r s.requests ≡ Some request)
withdrawn-stands s ch r stand goes = by goes.kept.phase goes.withdraws.unstarted (stand.each goes.number goes.kept goes.withdraws.stands) where
  by : (p : Phase) → (is_new p || is_asked p) ≡ true → JobIn s goes.number goes.kept p → (request : RequestRecord) × (request_in r s.requests ≡ Some request)
  by Phase.New unstarted job =
      let none : goes.kept.request ≡ None = job.0 in
      absurd (cc (none, goes.of_job))
  by Phase.Asked unstarted job =
      let asking : IsAsking s goes.number goes.kept = job.0 in
      let same : asking.id ≡ r = cc (asking.asks, goes.of_job) in
      (asking.request, subst (λ (x : RequestId). request_in x s.requests ≡ Some asking.request) same asking.stands)
  by _ unstarted job = absurd cc

-- a request that is removed is there before
removed-stands : (c : Configuration) (s : State) (ch : Changes) (r : RequestId) → JobsStand s → RequestsPremise c s ch (RequestsChange.Remove r) → (request : RequestRecord) × (request_in r s.requests ≡ Some request)
removed-stands c s ch r stand (inl goes) = (goes.fulfils.request, goes.fulfils.worked_on.stands)
removed-stands c s ch r stand (inr (inl takes)) = (takes.request, takes.request_stands)
removed-stands c s ch r stand (inr (inr goes)) = withdrawn-stands s ch r stand goes

-- the request whose nodes are freed is there
freed-stands : (c : Configuration) (s : State) (ch : Changes) (r : RequestId) → JobsStand s → Premises c s ch → ch.nodes ≡ NodesChange.FreeAll r → (request : RequestRecord) × (request_in r s.requests ≡ Some request)
freed-stands c s ch r stand given frees = by (subst (λ (change : NodesChange). NodesPremise c s ch change) frees given.nodes) where
  by : EmptiesRequest r ch.requests → (request : RequestRecord) × (request_in r s.requests ≡ Some request)
  by (inl is) = removed-stands c s ch r stand (subst (λ (change : RequestsChange). RequestsPremise c s ch change) is given.requests)
  by (inr (inl is)) = let gives = subst (λ (change : RequestsChange). RequestsPremise c s ch change) is given.requests in (gives.request, gives.stands)
  by (inr (inr (p, why, failed, is))) = let declines = subst (λ (change : RequestsChange). RequestsPremise c s ch change) is given.requests in (declines.request, declines.worked_on.stands)

-- the nodes that are allocated to a request that is there are those of its list
own-listed : (s : State) (r : RequestId) (n : NodeId) → AllocationsListed s → (request : RequestRecord) × (request_in r s.requests ≡ Some request)
    → option_map_or (λ k. is_request r k.allocated_to) (node_in n s.nodes) false ≡ true → listed n (option_map_or (λ k. k.nodes) (request_in r s.requests) []) ≡ true
own-listed s r n allocations there is =
    ap (λ (o : Option RequestRecord). listed n (option_map_or (λ k. k.nodes) o [])) there.1
    ∙ freed-listed s r n there.0 allocations there.1 (node_in n s.nodes) refl is

changed-listed : (c : Configuration) (s : State) (ch : Changes) (n : NodeId) → AllocationsListed s → JobsStand s → Premises c s ch
    → (change : NodesChange) → ch.nodes ≡ change → changes_node change s n ≡ true → listed n (changed_nodes change s) ≡ true
changed-listed c s ch n allocations stand given (NodesChange.Put m kept) this is = or_false (m.0 == n.0) ∙ is
changed-listed c s ch n allocations stand given (NodesChange.Remove m) this is = or_false (m.0 == n.0) ∙ is
changed-listed c s ch n allocations stand given (NodesChange.Leave m) this is = or_false (m.0 == n.0) ∙ is
changed-listed c s ch n allocations stand given (NodesChange.FreeAll r) this is = own-listed s r n allocations (freed-stands c s ch r stand given this) is
changed-listed c s ch n allocations stand given _ this is = is

-- a node whose request goes away
unclaimed-listed : (c : Configuration) (s : State) (ch : Changes) (n : NodeId) → AllocationsListed s → JobsStand s → Premises c s ch
    → (change : RequestsChange) → ch.requests ≡ change → unclaims_node change s n ≡ true → listed n (unclaimed_nodes change s) ≡ true
unclaimed-listed c s ch n allocations stand given (RequestsChange.Remove r) this is =
    own-listed s r n allocations (removed-stands c s ch r stand (subst (λ (change : RequestsChange). RequestsPremise c s ch change) this given.requests)) is
unclaimed-listed c s ch n allocations stand given _ this is = is

-- ## sessions that end

-- a row in whose queue the session is has its id among those of such rows
module _ {K E : Type 0} (id : E → K) (queue : E → List SessionId) (session : SessionId) (is_it : K → Bool) where
  abbrev waiting : List E → List E
  waiting rows = filter (λ e. is_queued session (queue e)) rows

  waiting-listed : (rows : List E) → is_queued session (option_map_or (λ e. queue e) (find (λ e. is_it (id e)) rows) []) ≡ true → list_any is_it (map (λ e. id e) (waiting rows)) ≡ true
  waiting-listed [] is = is
  waiting-listed (e ∷ rows) is = grind (arith, is, waiting-listed rows)

-- a node in whose queue the session is
ended-listed : (s : State) (queued : List NodeId) (n : NodeId) (change : SessionsChange) → ((session : SessionId) → change ≡ SessionsChange.End session → queued ≡ queued_nodes session s)
    → ends_at_node change s n ≡ true → listed n (ended change queued) ≡ true
ended-listed s queued n (SessionsChange.End session) all is = ap (listed n) (all session refl) ∙ waiting-listed (λ (e : NodeEntry). e.id) (λ (e : NodeEntry). e.queue) session (λ m. same_node m n) s.nodes is
ended-listed s queued n _ all is = is

-- ## requests

abbrev listed_request : RequestId → List RequestId → Bool
listed_request r rs = list_any (λ x. same_request x r) rs

pub request-listed : (s : State) (ch : Changes) (r : RequestId) → touches_request ch s r ≡ true → listed_request r (touched_requests ch s) ≡ true
request-listed s ch r is = grind (arith, is)

-- ## queues of requests

ended_queue-listed : (s : State) (queued : List RequestId) (r : RequestId) (change : SessionsChange) → ((session : SessionId) → change ≡ SessionsChange.End session → queued ≡ queued_requests session s)
    → ends_at_request change s r ≡ true → listed_request r (ended change queued) ≡ true
ended_queue-listed s queued r (SessionsChange.End session) all is =
    ap (listed_request r) (all session refl) ∙ waiting-listed (λ (e : RequestEntry). e.id) (λ (e : RequestEntry). e.queue) session (λ x. same_request x r) s.requests is
ended_queue-listed s queued r _ all is = is

queue-listed : (s : State) (ch : Changes) (queued : List RequestId) → ((session : SessionId) → ch.sessions ≡ SessionsChange.End session → queued ≡ queued_requests session s)
    → (r : RequestId) → touches_request_queue ch s r ≡ true → listed_request r (touched_queues ch queued) ≡ true
queue-listed s ch queued all r is =
    either-listed (λ x. same_request x r) _ _ _ (ended ch.sessions queued)
    (either-listed (λ x. same_request x r) (grows_request_queue ch.grows r) (leaves_request_queue ch.requests r) (grown_queues ch.grows) (left_queues ch.requests) (λ grows. grind (arith, grows)) (λ leaves. grind (arith, leaves)))
    (ended_queue-listed s queued r ch.sessions all)
    is

-- ## one request at most

-- no request grows beside an edit of one
edit-alone : (c : Configuration) (s : State) (ch : Changes) (r : RequestId) (change : RequestEdit) → EditPremise c s ch r change → (priority : ℕ) (asked : Asked) → ch.grows ≡ Growth.Request priority asked → ⊥
edit-alone c s ch r (RequestEdit.Serve p) may priority asked is = let none : ch.grows ≡ Growth.Nothing = may.same_size in cc
edit-alone c s ch r (RequestEdit.AddNode n) may priority asked is = by may.0.from where
  by : IsTaken c s ch may.0.pool r may.0.request may.0.label n ⊎ IsMade c s ch may.0.pool r may.0.request may.0.label n → ⊥
  by (inl taken) = let other : ch.grows ≡ Growth.Allocate n r (tenant_of_request c may.0.request) = taken.grows in cc
  by (inr made) = let other : ch.grows ≡ Growth.Node (new_node c s r may.0.pool may.0.request may.0.label) = made.grows in cc
edit-alone c s ch r (RequestEdit.Decline p why failed) may priority asked is = let none : ch.grows ≡ Growth.Nothing = may.same_size in cc
edit-alone c s ch r RequestEdit.Fulfil may priority asked is = let none : ch.grows ≡ Growth.Nothing = may.0.same_size in cc
edit-alone c s ch r RequestEdit.GiveBack may priority asked is = let none : ch.grows ≡ Growth.Nothing = may.same_size in cc
edit-alone c s ch r RequestEdit.Fail may priority asked is = let none : ch.grows ≡ Growth.Nothing = may.same_size in cc
edit-alone c s ch r (RequestEdit.Revise relative) may priority asked is = let none : ch.grows ≡ Growth.Nothing = may.same_size in cc

grown-one : (g : Growth) (s : State) → length (grown_requests g s ++ []) ≤ 1
grown-one g s = grind arith

grown-none : (g : Growth) (s : State) → ((priority : ℕ) (asked : Asked) → g ≡ Growth.Request priority asked → ⊥) → grown_requests g s ≡ []
grown-none (Growth.Request priority asked) s out = absurd (out priority asked refl)
grown-none _ s out = refl

touched-once : (c : Configuration) (s : State) (ch : Changes) → Premises c s ch → length (touched_requests ch s) ≤ 1
touched-once c s ch given = by ch.requests given.requests where
  one : (r : RequestId) → grown_requests ch.grows s ≡ [] → length (grown_requests ch.grows s ++ r ∷ []) ≤ 1
  one r none = let single : length (grown_requests ch.grows s ++ r ∷ []) ≡ 1 = ap (λ (rs : List RequestId). length (rs ++ r ∷ [])) none in omega (arith, single)

  by : (change : RequestsChange) → RequestsPremise c s ch change → length (grown_requests ch.grows s ++ changed_requests change) ≤ 1
  by RequestsChange.Same may = grown-one ch.grows s
  by (RequestsChange.Edit r change) may = one r (grown-none ch.grows s (edit-alone c s ch r change may))
  by (RequestsChange.Remove r) may = one r (ap (λ (g : Growth). grown_requests g s) (remove-alone c s ch r may))
  by (RequestsChange.Leave r) may = grown-one ch.grows s

-- ## all of it

module _ (c : Configuration) (s : State) (ch : Changes) (queued_nodes_are : List NodeId) (queued_requests_are : List RequestId) (reached : IsReached c s) (planned : IsPlanned c s ch)
    (all_nodes : (session : SessionId) → ch.sessions ≡ SessionsChange.End session → queued_nodes_are ≡ queued_nodes session s)
    (all_requests : (session : SessionId) → ch.sessions ≡ SessionsChange.End session → queued_requests_are ≡ queued_requests session s) where
  given : Premises c s ch
  given = subst (Premises c s) (sym planned.plan) (premises c s planned.event planned.accepted)

  node-listed : (n : NodeId) → touches_node ch s n ≡ true → listed n (touched_nodes ch queued_nodes_are s) ≡ true
  node-listed n is =
      let holds : Invariant c s = invariant-Runs c reached.journal s reached.runs in
      either-listed (λ m. same_node m n) _ _ _ (unclaimed_nodes ch.requests s)
      (either-listed (λ m. same_node m n) _ _ _ (ended ch.sessions queued_nodes_are)
      (either-listed (λ m. same_node m n) _ _ (grown_nodes ch.grows s) (changed_nodes ch.nodes s)
      (grown-listed ch.grows s n)
      (changed-listed c s ch n holds.owned.allocations holds.jobs given ch.nodes refl))
      (ended-listed s queued_nodes_are n ch.sessions all_nodes))
      (unclaimed-listed c s ch n holds.owned.allocations holds.jobs given ch.requests refl)
      is

  -- what is listed is touched
  pub is-touched : (touched : TouchedOf) → touched.nodes ≡ touched_nodes ch queued_nodes_are s → touched.requests ≡ touched_requests ch s → touched.queues ≡ touched_queues ch queued_requests_are
      → touched.jobs ≡ touched_jobs ch s → touched.sessions ≡ touched_sessions ch s → IsTouched s ch touched
  is-touched touched nodes_are requests_are queues_are jobs_are sessions_are = record {
    nodes = λ n is. ap (listed n) nodes_are ∙ node-listed n is;
    requests = λ r is. ap (listed_request r) requests_are ∙ request-listed s ch r is;
    queues = λ r is. ap (listed_request r) queues_are ∙ queue-listed s ch queued_requests_are all_requests r is;
    jobs = jobs_are;
    sessions = sessions_are;
    once = subst (λ (rs : List RequestId). length rs ≤ 1) (sym requests_are) (touched-once c s ch given);
  }
