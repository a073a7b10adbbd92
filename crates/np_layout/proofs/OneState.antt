-- the state that is read back from a tree is the one that it lays out, with its requests, nodes and sessions
use Rattle.np_layout.proofs.Prelude.{AllByRecursion, AllZip, AreNodeLocks, AreRequestLocks, AreRequests, HasNodeLock, HasQueue, IsGood, IsNodeRow, IsRequest, IsSessionRole, IsWait, JanitorRole, LauncherRole, List, Node, NodeEntry, NodeId, NodeLock, Nodes, Option, Place, Request, RequestEntry, RequestId, RequestLock, RequesterRole, Row, SessionFacts, SessionId, TreeState, TreesHaveOneState, ap, arith, filter_map, handle_at, is_in, job_at, length, map, no_node, no_request, no_session, node_at, node_named, owner_of, queue_at, range_with_len, refl, request_at, request_of-text, request_row, requests_at, role_at, rows_from, session_at, session_row, sessions_from, sym, under, unwrap_or, ℕ, [], ◌+◌, ◌-◌, ◌^◌, ◌∙◌, ◌∷◌, ◌≡◌, ◌≤◌}
use Rattle.np_layout.proofs.Reading.{handles-same, janitors-same, jobs-same, launchers-same, map-back, node-read, node_named-digits, registrations-same, request-read, requesters-same, session-read, swept-same, tick-same}

-- # requests, nodes and sessions are read back

-- ## queues

-- the owners of a lock's rows are its queue
owners-same : (next : ℕ) (rows : List Row) (queue : List SessionId) → AllZip (IsWait next) rows queue → map owner_of rows ≡ queue
owners-same next [] [] waits = refl
owners-same next (row ∷ rows) (session ∷ queue) waits =
    let number : session.0 + 1 - 1 ≡ session.0 = omega arith in
    let first : owner_of row ≡ session = ap owner_of waits.0.is ∙ ap (λ (n : ℕ). record { 0 = n }) number in
    λ i. first i ∷ owners-same next rows queue waits.1 i
owners-same next _ _ waits = absurd waits

-- ## requests

request-same : (t : TreeState) (e : RequestEntry) → IsGood (Request e.id) → IsRequest e.kept → HasQueue (RequestLock e.id) e.queue t → request_at t (request_row e) ≡ e
request-same t e good spelled queue =
    let id = ap (λ (o : Option RequestId). unwrap_or o (record { priority = 0; seq = 0 })) (request_of-text e.id good) in
    let kept = request-read e.kept no_request spelled in
    let waits = ap (λ (r : RequestId). queue_at (RequestLock r) t) id ∙ owners-same queue.next (under (RequestLock e.id) t) e.queue queue.waits in
    λ i. record { id = id i; kept = kept i; queue = waits i }

-- each request is what its name, its text and its lock say
pub requests-same : (t : TreeState) (entries : List RequestEntry) (next : ℕ) → AreRequests entries next t → AreRequestLocks entries t → AllByRecursion (λ e. IsGood (Request e.id)) entries → AllByRecursion (λ e. IsRequest e.kept) entries → requests_at t ≡ entries
requests-same t entries next are locks good spelled =
    ap (λ (rows : List Row). map (request_at t) rows) are.rows ∙ map-back request_row (request_at t) entries (each entries good spelled locks.queues) where
      each : (entries : List RequestEntry) → AllByRecursion (λ e. IsGood (Request e.id)) entries → AllByRecursion (λ e. IsRequest e.kept) entries → AllByRecursion (λ e. HasQueue (RequestLock e.id) e.queue t) entries → AllByRecursion (λ e. request_at t (request_row e) ≡ e) entries
      each [] good spelled queues = tt
      each (e ∷ entries) good spelled queues = (request-same t e good.0 spelled.0 queues.0, each entries good.1 spelled.1 queues.1)

-- ## nodes

node-same : (t : TreeState) (row : Row) (e : NodeEntry) → IsNodeRow row e → IsGood (Node e.id) → HasNodeLock t e → node_at t row ≡ e
node-same t row e is good lock =
    let id : node_named row.name ≡ e.id = ap (λ (r : Row). node_named r.name) is.is ∙ node_named-digits e.id good in
    let kept = node-read e.kept no_node row.bytes is.spells in
    let waits = ap (λ (n : NodeId). queue_at (NodeLock n) t) id ∙ owners-same lock.queue.next (under (NodeLock e.id) t) e.queue lock.queue.waits in
    λ i. record { id = id i; kept = kept i; queue = waits i }

-- each node is what its name, its text and its lock say
each-node : (t : TreeState) (rows : List Row) (entries : List NodeEntry) → AllZip IsNodeRow rows entries → AllByRecursion (λ e. IsGood (Node e.id)) entries → AreNodeLocks entries t → map (node_at t) rows ≡ entries
each-node t [] [] are good locks = refl
each-node t (row ∷ rows) (e ∷ entries) are good locks = λ i. node-same t row e are.0 good.0 locks.0 i ∷ each-node t rows entries are.1 good.1 locks.1 i
each-node t _ _ are good locks = absurd are

-- ## sessions

-- each session is what its text spells, and is live if the tree's next session is
each-session : (t : TreeState) (sessions : List SessionFacts) (number : ℕ) → AllByRecursion (λ f. IsSessionRole f.role) sessions → map (is_in t.live) (range_with_len (number + 1) (length sessions)) ≡ map (λ f. f.live) sessions → sessions_from t number (rows_from session_row number sessions) ≡ sessions
each-session t [] number spelled live = refl
each-session t (f ∷ sessions) number spelled live =
    let first : is_in t.live (number + 1) ≡ f.live = cc in
    let rest : map (is_in t.live) (range_with_len (number + 1 + 1) (length sessions)) ≡ map (λ (g : SessionFacts). g.live) sessions = cc in
    let kept = session-read (record { mute = f.mute; role = f.role }) no_session spelled.0 in
    λ i. record { role = (kept i).role; live = first i; mute = (kept i).mute } ∷ each-session t sessions (number + 1) spelled.1 rest i

-- # the state that is read from a tree is the one that it lays out

-- the state that is read from a tree is the one that it lays out
pub trees-have-one_state : TreesHaveOneState
trees-have-one_state c s t is =
    let good = is.carried.good in
    let spelled = is.carried.spelled in
    let ordered = is.carried.ordered in
    let few : (length s.launchers ≤ 2 ^ 16) × (length s.janitors ≤ 2 ^ 16) × (length s.requesters ≤ 2 ^ 16) = (good.launchers, good.janitors, good.requesters) in λ i. record {
      tick = tick-same t s.tick is.whole is.lays.frame is.carried.tick i;
      sessions = (ap (sessions_from t 1) is.lays.sessions.rows ∙ each-session t s.sessions 1 spelled.sessions is.lays.live.each) i;
      registrations = registrations-same t s.registrations (length c.pools) is.lays.launchers (omega (arith, good.launchers, is.carried.launchers)) ordered.registrations ordered.pools i;
      requests = requests-same t s.requests s.next_request is.lays.requests is.lays.request_locks is.carried.good.requests is.carried.spelled.requests i;
      nodes = each-node t (under Nodes t) s.nodes is.lays.nodes.rows good.nodes is.lays.node_locks i;
      handles = (ap (λ (n : ℕ). map (λ x. filter_map (handle_at (record { 0 = x }) t) (range_with_len 0 (length c.jobs))) (range_with_len 0 n)) (sym is.carried.semaphores)
          ∙ handles-same t s.handles (length c.jobs) is.lays.semaphores good.semaphores (omega (arith, good.jobs, is.carried.jobs)) ordered.handles) i;
      jobs = (ap (λ (n : ℕ). map (job_at t) (range_with_len 0 n)) (sym is.carried.jobs) ∙ jobs-same t s.jobs is.whole is.lays.jobs good.jobs spelled.jobs) i;
      launchers = (ap (λ (n : ℕ). map (λ pool. role_at (LauncherRole (record { 0 = pool })) t) (range_with_len 0 n)) (sym is.carried.launchers)
          ∙ launchers-same t s.launchers s.janitors s.requesters is.whole is.lays.roles few spelled.launchers) i;
      janitors = (ap (λ (n : ℕ). map (λ pool. role_at (JanitorRole (record { 0 = pool })) t) (range_with_len 0 n)) (sym is.carried.janitors)
          ∙ janitors-same t s.launchers s.janitors s.requesters is.whole is.lays.roles few spelled.janitors) i;
      requesters = (ap (λ (n : ℕ). map (λ requester. role_at (RequesterRole (record { 0 = requester })) t) (range_with_len 0 n)) (sym is.carried.requesters)
          ∙ requesters-same t s.launchers s.janitors s.requesters is.whole is.lays.roles few spelled.requesters) i;
      swept = swept-same t s.swept is.lays.swept is.carried.ordered.swept is.carried.good.swept i;
      next_request = ap (λ (o : Option ℕ). unwrap_or o 0) is.lays.requests.gives i;
      next_node = ap (λ (o : Option ℕ). unwrap_or o 0) is.lays.nodes.gives i;
    }
