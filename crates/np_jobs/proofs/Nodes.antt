-- the nodes that are for a requester: how they are found, and when a lock, an end or an unlock of one is useful
use Rattle.np_jobs.proofs.Prelude.{AllByRecursion, Bool, ChoosesOf, Configuration, Done, EndAs, Event, EventKind, Invariant, IsGiven, IsReached, IsUseful, Job, JobId, JobRecord, List, NoLeave, NodeEntry, NodeId, NodeKind, NodeRecord, NodeState, None, NoneOf, Ok, Option, OwnsItsLabels, PassesAt, RequestEntry, RequestId, Requester, RequesterId, SessionId, Some, StandsIn, State, all-at, and-first, and-second, any-place, ap, arith, asker, both-ways, by_bool, by_node_holder, each-node, false, false_from_ne_true, filter, find, find-passes, find-place, from-map_some, fulfilled-Runs, handed_to, if◌then◌else◌, invariant-Runs, is_asked, is_asked_by, is_current, is_for, is_from_node_queue, is_fulfilled, is_given_to, is_handed_over, is_in_use, is_listed, is_queued, is_ready, is_to_leave, is_to_lock, judge, leaving, length, length-filter_at_most, length-map, list_any-there, made-by, maker-is, map, member-there, named, named-place, nat_tests, node-maker, node-place, node-queued, node_entry, node_event, node_in, node_is, node_queue, node_to_leave, node_to_lock, none-find, not, ok-is, on-check, on-found, on-given, on-need, option_and_then, option_map, option_map_or, passes, passes-useful, refl, request_entry, request_in, requester, row-there, same_node, same_node-is, same_request, slice_get, slice_get_within, subst, sym, true, useful-passes, ℕ, [], ◌&&◌, ◌<◌, ◌==◌, ◌∙◌, ◌≡◌}

-- # the nodes that are for a requester are those that were given to it, as their allocations say

-- ## a request that is handed over

module _ (q : RequesterId) where
  -- the option names the requester
  abbrev is_requester : Option RequesterId → Bool
  is_requester o = option_map_or (λ p. p.0 == q.0) o false

  asked_of : (row : Option Job) (kept : Option JobRecord) → (option_map_or (λ (job : Job). job.requester.0 == q.0) row false && option_map_or (λ (k : JobRecord). is_asked k.phase) kept false) ≡ is_requester (option_and_then (λ (k : JobRecord). if is_asked k.phase then option_map (λ (job : Job). job.requester) row else None) kept)
  asked_of row kept = grind (arith, nat_tests)

  module _ (c : Configuration) (s : State) where
    asks : (j : JobId) → is_asked_by c s q j ≡ is_requester (asker c s j)
    asks j = asked_of (slice_get c.jobs j.0) (slice_get s.jobs j.0)

    asks-of : (job : Option JobId) → option_map_or (is_asked_by c s q) job false ≡ is_requester (option_and_then (asker c s) job)
    asks-of None = refl
    asks-of (Some j) = asks j

    -- a request is handed over to the requester that its job's row names
    over-is : (e : RequestEntry) → is_handed_over c s q e ≡ is_requester (handed_to c s e.kept.state e.kept.job)
    over-is e = by_bool (λ _. is_handed_over c s q e ≡ is_requester (handed_to c s e.kept.state e.kept.job)) (is_fulfilled e.kept.state) (λ is. rw is (asks-of e.kept.job)) (λ is. rw is refl)

-- the node exists, is ready, and is allocated to a request that is handed over and lists it
pub record IsHanded (s : State) (n : NodeId) (e : RequestEntry) : Type 0 where
  pub found : request_in e.id s.requests ≡ Some e.kept
  pub node : NodeRecord
  pub stands : node_in n s.nodes ≡ Some node
  pub ready : is_ready node.state ≡ true
  pub allocated : node.allocated_to ≡ Some e.id

module _ (c : Configuration) (s : State) (reached : IsReached c s) (q : RequesterId) (n : NodeId) where
  invariant : Invariant c s
  invariant = invariant-Runs c reached.journal s reached.runs

  handed : (i : ℕ) (e : RequestEntry) → slice_get s.requests i ≡ Some e → is_fulfilled e.kept.state ≡ true → is_listed n e.kept ≡ true → IsHanded s n e
  handed i e there fulfilled listed =
      let found : request_in e.id s.requests ≡ Some e.kept = ap (option_map (λ (x : RequestEntry). x.kept)) (row-there c s reached i e there) in
      let owns : OwnsItsLabels s e.id e.kept = fulfilled-Runs c reached.journal s reached.runs e.id e.kept found fulfilled in
      let place = node-place n e.kept.nodes listed in
      let within : place.0 < length e.kept.labels = omega (arith, owns.as_many, slice_get_within e.kept.nodes place.0 n place.1) in
      let label = member-there e.kept.labels place.0 within in
      let is : IsGiven s e.id owns.pool n label.0 = owns.each place.0 n label.0 place.1 label.1 in
      record { found = found; node = is.node; stands = is.stands; ready = is.ready; allocated = named e.id is.node.allocated_to is.allocated }

  -- if the node is for the requester, there is such a request
  pub record IsFound : Type 0 where
    pub entry : RequestEntry
    pub over : is_handed_over c s q entry ≡ true
    pub way : IsHanded s n entry

  pub found-for : is_for c s q n ≡ true → IsFound
  found-for is =
      let at : PassesAt (λ (e : RequestEntry). is_handed_over c s q e && is_listed n e.kept) s.requests = any-place _ s.requests is in
      let over : is_handed_over c s q at.member ≡ true = and-first _ _ at.passes in
      let listed : is_listed n at.member.kept ≡ true = and-second _ _ at.passes in
      record { entry = at.member; over = over; way = handed at.place at.member at.there (and-first _ _ over) listed }

  -- a node that does not exist is for nobody
  pub for-none : node_in n s.nodes ≡ None → is_for c s q n ≡ false
  for-none none = false_from_ne_true (is_for c s q n) (λ is. let found = found-for is in let no : None ≡ Some found.way.node = sym none ∙ found.way.stands in cc)

  module _ (k : NodeRecord) (stands : node_in n s.nodes ≡ Some k) where
    -- a node that is for the requester is ready
    pub for-ready : is_for c s q n ≡ true → is_ready k.state ≡ true
    for-ready is =
        let found = found-for is in
        let same : found.way.node ≡ k = (let told : Some found.way.node ≡ Some k = sym found.way.stands ∙ stands in cc) in
        ap (λ (x : NodeRecord). is_ready x.state) (sym same) ∙ found.way.ready

    there : is_for c s q n ≡ true → is_given_to c s q k ≡ true
    there is =
        let found = found-for is in
        let same : found.way.node ≡ k = (let told : Some found.way.node ≡ Some k = sym found.way.stands ∙ stands in cc) in
        let allocated : k.allocated_to ≡ Some found.entry.id = ap (λ (x : NodeRecord). x.allocated_to) (sym same) ∙ found.way.allocated in
        rw (allocated, found.way.found) (sym (over-is q c s found.entry) ∙ found.over)

    back_by : (r : RequestId) → k.allocated_to ≡ Some r → (o : Option RequestEntry) → request_entry r s.requests ≡ o → is_given_to c s q k ≡ true → is_for c s q n ≡ true
    back_by r some None found is = absurd (let no : false ≡ true = rw (some, found) at is in cc)
    back_by r some (Some e) found is =
        let place = find-place (λ (x : RequestEntry). same_request x.id r) s.requests e found in
        let over : is_handed_over c s q e ≡ true = over-is q c s e ∙ rw (some, found) at is in
        let listed : is_listed n e.kept ≡ true = (invariant.owned.allocations n k r stands some).listed e.kept (ap (option_map (λ (x : RequestEntry). x.kept)) found) in
        list_any-there (λ (x : RequestEntry). is_handed_over c s q x && is_listed n x.kept) s.requests place.at e place.there (rw (over, listed) refl)

    back_of : (o : Option RequestId) → k.allocated_to ≡ o → is_given_to c s q k ≡ true → is_for c s q n ≡ true
    back_of None none is = absurd (let no : false ≡ true = rw none at is in cc)
    back_of (Some r) some is = back_by r some (request_entry r s.requests) refl is

    -- a node that exists is for the requester if and only if it was given to it
    pub for-is : is_for c s q n ≡ is_given_to c s q k
    for-is = both-ways (is_for c s q n) (is_given_to c s q k) there (back_of k.allocated_to refl)

-- # a lock of a node is useful if the node was given to the requester and its session does not wait at it, and no other

module _ (c : Configuration) (s : State) (reached : IsReached c s) (q : RequesterId) (session : SessionId) (current : is_current (Requester q) session s ≡ true) where
  -- ## no node to lock

  module _ (none : find (is_to_lock c s q session) s.nodes ≡ None) where
    -- a node that is for the requester and at which the session does not wait would be found
    unlocked : (n : NodeId) → is_for c s q n ≡ true → not (is_queued session (node_queue n s.nodes)) ≡ true → ⊥
    unlocked n for_it apart =
        let found = found-for c s reached q n for_it in
        let e = from-map_some (λ (x : NodeEntry). x.kept) (node_entry n s.nodes) found.way.node found.way.stands in
        let number : e.0.id ≡ n = same_node-is e.0.id n (find-passes (λ (x : NodeEntry). same_node x.id n) s.nodes e.0 e.1) in
        let stands : node_in n s.nodes ≡ Some e.0.kept = ap (option_map (λ (x : NodeEntry). x.kept)) e.1 in
        let given : is_given_to c s q e.0.kept ≡ true = sym (for-is c s reached q n e.0.kept stands) ∙ for_it in
        let place : StandsIn e.0 s.nodes = find-place (λ (x : NodeEntry). same_node x.id n) s.nodes e.0 e.1 in
        let is : is_to_lock c s q session e.0 ≡ true = rw (given, number, apart) refl in
        let no : is_to_lock c s q session e.0 ≡ false = all-at (λ (x : NodeEntry). is_to_lock c s q session x ≡ false) s.nodes place.at e.0 (none-find (is_to_lock c s q session) s.nodes none) place.there in
        cc

    -- so no lock of a node is useful, whoever makes it
    locks-none : NoneOf c s (Requester q) (EventKind.Node NodeKind.Lock)
    locks-none by n useful =
        let same : by ≡ session = made-by c s (Requester q) session current by (Event.LockNode by n) refl useful in
        let mine : IsUseful c s (Requester q) (Event.LockNode session n) = subst (λ (x : SessionId). IsUseful c s (Requester q) (Event.LockNode x n)) same useful in
        unlocked n
        (and-first (is_for c s q n) (not (is_queued session (node_queue n s.nodes))) mine.row)
        (and-second (is_for c s q n) (not (is_queued session (node_queue n s.nodes))) mine.row)

  -- ## a node to lock

  -- its lock is useful
  lock-useful : (e : NodeEntry) → find (is_to_lock c s q session) s.nodes ≡ Some e → IsUseful c s (Requester q) (Event.LockNode session e.id)
  lock-useful e found =
      let is : is_to_lock c s q session e ≡ true = find-passes (is_to_lock c s q session) s.nodes e found in
      let given : is_given_to c s q e.kept ≡ true = and-first (is_given_to c s q e.kept) (not (is_queued session (node_queue e.id s.nodes))) is in
      let apart : not (is_queued session (node_queue e.id s.nodes)) ≡ true = and-second (is_given_to c s q e.kept) (not (is_queued session (node_queue e.id s.nodes))) is in
      let place : StandsIn e s.nodes = find-place (is_to_lock c s q session) s.nodes e found in
      let entry : node_entry e.id s.nodes ≡ Some e = all-at (λ (x : NodeEntry). node_entry x.id s.nodes ≡ Some x) s.nodes place.at e (each-node c s reached) place.there in
      let stands : node_in e.id s.nodes ≡ Some e.kept = ap (option_map (λ (x : NodeEntry). x.kept)) entry in
      let for_it : is_for c s q e.id ≡ true = for-is c s reached q e.id e.kept stands ∙ given in
      let passed : passes c s (Requester q) (Event.LockNode session e.id) ≡ true = rw (maker-is s (Requester q) session current, stands, for_it, apart) refl in
      passes-useful c s (Requester q) (Event.LockNode session e.id) passed current

  no_entry : (o : Option NodeEntry) → option_map (λ (x : NodeEntry). x.id) o ≡ None → o ≡ None
  no_entry o is = grind arith

  -- the lock of the node to lock is the choice among locks
  pub lock-chooses : (n : NodeId) → node_to_lock c q session s ≡ Some n → ChoosesOf c s (Requester q) (EventKind.Node NodeKind.Lock) (Some (Event.LockNode session n))
  lock-chooses n is =
      let row = from-map_some (λ (x : NodeEntry). x.id) (find (is_to_lock c s q session) s.nodes) n is in
      subst (λ (x : NodeId). IsUseful c s (Requester q) (Event.LockNode session x)) row.2 (lock-useful row.0 row.1)

  pub lock-none : node_to_lock c q session s ≡ None → ChoosesOf c s (Requester q) (EventKind.Node NodeKind.Lock) None
  lock-none is = locks-none (no_entry (find (is_to_lock c s q session) s.nodes) is)

-- # if the nodes to leave were tried, no end and no unlock of a node is useful

-- what is in use is not ready
not-ready : (state : NodeState) → is_in_use state ≡ true → is_ready state ≡ true → ⊥
not-ready state used ready = grind arith

-- ## the nodes to leave

-- by number
abbrev pub to_leave : Configuration → State → RequesterId → SessionId → List NodeId
to_leave c s q session = map (λ e. e.id) (filter (is_to_leave c s q session) s.nodes)

-- there are no more of them than nodes
pub below-nodes : (c : Configuration) (s : State) (q : RequesterId) (session : SessionId) (k : ℕ) (n : NodeId) → node_to_leave c q session k s ≡ Some n → k < length s.nodes
below-nodes c s q session k n found =
    omega (arith, length-filter_at_most (is_to_leave c s q session) s.nodes, length-map (filter (is_to_leave c s q session) s.nodes) (λ (e : NodeEntry). e.id), slice_get_within (to_leave c s q session) k n found)

module _ (c : Configuration) (s : State) (reached : IsReached c s) (q : RequesterId) (session : SessionId) where
  -- ## a node that is left is a node to leave

  -- the end of a node is accepted only if the node is in use, so the node was not given to the requester
  end-apart : (n : NodeId) (as_what : EndAs) (what : Done) → judge c s (Event.EndNode session n as_what) ≡ Ok what → is_for c s q n ≡ true → ⊥
  end-apart n as_what what is for_it =
      on-given (requester s session) _ what is (λ maker made rest.
      on-found (node_in n s.nodes) _ _ what rest (λ k stands rest.
      on-check (by_node_holder s n session) _ what rest (λ holds rest.
      on-need (is_in_use k.state) _ _ what rest (λ used rest.
      not-ready k.state used (for-ready c s reached q n k stands for_it)))))

  -- whoever waits at a node that is for somebody else, or nobody, is to leave it
  leave_by : (n : NodeId) (o : Option NodeEntry) → node_entry n s.nodes ≡ o → is_queued session (option_map_or (λ (e : NodeEntry). e.queue) o []) ≡ true → (is_for c s q n ≡ true → ⊥) → StandsIn n (to_leave c s q session)
  leave_by n None found waits apart = absurd cc
  leave_by n (Some e) found waits apart =
      let number : e.id ≡ n = same_node-is e.id n (find-passes (λ (x : NodeEntry). same_node x.id n) s.nodes e found) in
      let stands : node_in n s.nodes ≡ Some e.kept = ap (option_map (λ (x : NodeEntry). x.kept)) found in
      let other : is_given_to c s q e.kept ≡ false = false_from_ne_true (is_given_to c s q e.kept) (λ given. apart (for-is c s reached q n e.kept stands ∙ given)) in
      let queued : is_queued session (node_queue n s.nodes) ≡ true = rw found waits in
      let is : is_to_leave c s q session e ≡ true = rw (number, queued, other) refl in
      subst (λ (x : NodeId). StandsIn x (to_leave c s q session)) number (named-place (λ (x : NodeEntry). x.id) (λ (x : NodeEntry). same_node x.id n) (is_to_leave c s q session) s.nodes e found is)

  leaves : (n : NodeId) → is_queued session (node_queue n s.nodes) ≡ true → (is_for c s q n ≡ true → ⊥) → StandsIn n (to_leave c s q session)
  leaves n waits apart = leave_by n (node_entry n s.nodes) refl waits apart

  -- ## no node is left

  module _ (current : is_current (Requester q) session s ≡ true) (none : (k : ℕ) (n : NodeId) → node_to_leave c q session k s ≡ Some n → NoLeave c s q session n) where
    -- no event of the kind is useful, if it is of a node to leave and fails on each of these
    none_of : (kind : NodeKind) → is_from_node_queue kind ≡ true
        → ((n : NodeId) (what : Done) → judge c s (node_event kind session n) ≡ Ok what → IsUseful c s (Requester q) (node_event kind session n) → is_for c s q n ≡ true → ⊥)
        → ((n : NodeId) → NoLeave c s q session n → passes c s (Requester q) (node_event kind session n) ≡ false)
        → NoneOf c s (Requester q) (EventKind.Node kind)
    none_of kind from apart fails by n useful =
        let same : by ≡ session = made-by c s (Requester q) session current by (node_event kind by n) (node-maker kind by n) useful in
        let mine : IsUseful c s (Requester q) (node_event kind session n) = subst (λ (x : SessionId). IsUseful c s (Requester q) (node_event kind x n)) same useful in
        let answer = ok-is (judge c s (node_event kind session n)) mine.accepted in
        let place : StandsIn n (to_leave c s q session) = leaves n (node-queued c s session answer.0 kind n from answer.1) (apart n answer.0 answer.1 mine) in
        let no : passes c s (Requester q) (node_event kind session n) ≡ false = fails n (none place.at n place.there) in
        let is : passes c s (Requester q) (node_event kind session n) ≡ true = useful-passes c s (Requester q) (node_event kind session n) mine in
        cc

    -- the row of an unlock says that the node is not for the requester
    unlock-apart : (n : NodeId) → IsUseful c s (Requester q) (Event.UnlockNode session n) → is_for c s q n ≡ true → ⊥
    unlock-apart n useful for_it =
        let other : not (is_for c s q n) ≡ true = and-second (node_is n s (λ k. not (is_in_use k.state))) (not (is_for c s q n)) useful.row in
        let no : false ≡ true = rw for_it at other in
        cc

    pub leaves-none : AllByRecursion (NoneOf c s (Requester q)) leaving
    leaves-none = (
      none_of (NodeKind.End EndAs.Used) refl (λ n what is useful. end-apart n EndAs.Used what is) (λ n fails. fails.used),
      (
        none_of (NodeKind.End EndAs.Hold) refl (λ n what is useful. end-apart n EndAs.Hold what is) (λ n fails. fails.hold),
        (none_of NodeKind.Unlock refl (λ n what is useful. unlock-apart n useful) (λ n fails. fails.unlock), tt),
      ),
    )
