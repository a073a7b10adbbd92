-- the premises of the planned changes of every accepted event
use Rattle.np_changes.proofs.Prelude.{Changes, Configuration, Done, JobId, JobRecord, JobsChange, NodesChange, Ok, Option, Phase, Premises, RequestId, RequestRecord, Requester, RequesterId, RequestsChange, RequestsPremise, SessionId, Some, State, TakesOver, Withdraws, ap, arith, eqb-true, inl, inr, is_asked, is_fulfilled, made_by, maker, map, may_take, missing_handles, nat_tests, refl, request_after_withdraw, request_in, requester, same, slice_get, sym, unended, unheld, ◌==◌, ◌≡◌, Bool, Gains, Growth, GrowthPremise, JobsPremise, LabelId, Launcher, NodeId, NodeRecord, NodeState, None, PoolId, RequestEdit, false, if◌then◌else◌, is_deleting, is_in_use, is_pending_by, is_queued, is_ready, is_session_of, is_short, launcher, may_delete, new_node, next_label, node_holder, node_in, node_queue, owner_of, registered, request_holder, tenant_of_request, true, ℕ, AsksForJob, Deed, IsUnlocked, Janitor, Job, LeavesRequest, Reason, Role, SessionFacts, SessionsChange, asked_for, blocking, first_unoffered, in_state_for, is_declined_by, is_last_pool, is_new, is_pending, is_requested, is_role, is_some, is_true, janitor, lock_request_as, never_fits, next_id, session_of, tenant_never_fits, unfilled, unlock_request_as, with_found, ◌||◌, Event, is_ok, judge, plan, IsHeard, MayFulfil, NodesPremise}
use Rattle.np_changes.proofs.Accepted.{at-found, at-found_by, at-given, given-too, janitor-heard, launcher-heard, maker-heard, needed, ok-is, on-both, on-check, on-found, on-need, on-not, on-own_job, on-vacant, requester-heard, works-on}
use Rattle.np_changes.specs.Plan

-- # what a session changes

-- requests, nodes and jobs
abbrev changing : SessionId → Role → RequestsChange → NodesChange → JobsChange → Changes
changing session role x y z = made_by session role (record same { requests = x; nodes = y; jobs = z })

-- what may be given up is not deleting, and if it is ready it is allocated to no request
may-delete : (c : Configuration) (s : State) (k : NodeRecord) (state : NodeState) → may_delete c s k state ≡ Ok tt → record { not_deleting : is_deleting state ≡ false; not_given : is_ready state ≡ true → k.allocated_to ≡ None }
may-delete c s k x3 is = grind (arith, nat_tests, on-vacant)

-- the reason determines in which state the request is declined
open-for : (p : PoolId) (request : RequestRecord) (why : Reason) → in_state_for p request why ≡ Ok tt → (is_requested request.state || is_pending_by p request) ≡ true
open-for p request x2 is = grind (arith, nat_tests, needed)

module _ (c : Configuration) (s : State) where
  -- the premises of such changes, if nothing grows
  made : (session : SessionId) (role : Role) (x : RequestsChange) (y : NodesChange) (z : JobsChange) → IsHeard s (record { session = session; role = role })
      → RequestsPremise c s (changing session role x y z) x → NodesPremise c s (changing session role x y z) y → JobsPremise c s (changing session role x y z) z → Premises c s (changing session role x y z)
  made session role x y z heard requests nodes jobs = record { maker = heard; grows = tt; requests = requests; nodes = nodes; jobs = jobs; handles = tt; sessions = tt }

  -- ## semaphores and jobs

  -- what the taking of the request's nodes changes
  abbrev taking : SessionId → RequesterId → JobId → JobRecord → RequestId → RequestRecord → Changes
  taking session q j kept r request =
      changing session (Requester q) (RequestsChange.Remove r) (NodesChange.TakeOver request.nodes) (JobsChange.Put j (record kept { nodes = map unended request.nodes; phase = Phase.Using; pool = request.pool }))

  takes_by : (session : SessionId) (q : RequesterId) (j : JobId) (kept : JobRecord) (r : RequestId) (request : RequestRecord) (takes : TakesOver c s (taking session q j kept r request) r) → takes.number ≡ j → takes.request ≡ request → requester s session ≡ Ok q → slice_get s.jobs j.0 ≡ Some kept → Premises c s (taking session q j kept r request)
  takes_by session q j kept r request takes of_number of_request who stands =
      made session (Requester q) _ _ _ (requester-heard s session q who) (inr (inl takes)) (r, takes, (refl, ap (λ (x : RequestRecord). x.nodes) (sym of_request)))
      (record { kept = kept; stands = stands; way = inr (inl (r, takes, (refl, of_number))) })

  goes_with : (ch : Changes) (j : JobId) (kept : JobRecord) (o : Option RequestId) → kept.request ≡ o → Withdraws s ch j kept → RequestsPremise c s ch (request_after_withdraw o)
  goes_with ch j kept x3 is withdraws = grind (arith, nat_tests)

  -- ## nodes

  take_gains : (session : SessionId) (p : PoolId) (r : RequestId) (request : RequestRecord) (n : NodeId) → Gains c s (made_by session (Launcher p) (record same { grows = Growth.Allocate n r (tenant_of_request c request); requests = RequestsChange.Edit r (RequestEdit.AddNode n) })) r n → launcher s session ≡ Ok p → Premises c s (made_by session (Launcher p) (record same { grows = Growth.Allocate n r (tenant_of_request c request); requests = RequestsChange.Edit r (RequestEdit.AddNode n) }))
  take_gains session p r request n gains who = grind (arith, nat_tests, launcher-heard)

  create_gains : (session : SessionId) (p : PoolId) (r : RequestId) (request : RequestRecord) (l : LabelId) → Gains c s (made_by session (Launcher p) (record same { grows = Growth.Node (new_node c s r p request l); requests = RequestsChange.Edit r (RequestEdit.AddNode (record { 0 = s.next_node })) })) r (record { 0 = s.next_node }) → launcher s session ≡ Ok p → Premises c s (made_by session (Launcher p) (record same { grows = Growth.Node (new_node c s r p request l); requests = RequestsChange.Edit r (RequestEdit.AddNode (record { 0 = s.next_node })) }))
  create_gains session p r request l gains who = grind (arith, nat_tests, launcher-heard)

  ends_in : (ch : Changes) (n : NodeId) (kept : NodeRecord) (o : Option JobId) → owner_of n s.jobs ≡ o → ch.nodes ≡ NodesChange.Put n kept → JobsPremise c s ch (Plan.end_in o n)
  ends_in ch n kept x3 owns puts = grind (arith, nat_tests)

  sweeps : (ch : Changes) (n : NodeId) (x : ℕ) (t : Bool) → GrowthPremise c s ch (if t then Growth.Nothing else Growth.Swept n x)
  sweeps ch n x x3 = grind (arith, nat_tests)

  -- ## sessions and requests

  abbrev asks-for : (ch : Changes) (j : JobId) (job : Job) (kept : JobRecord) → slice_get c.jobs j.0 ≡ Some job → slice_get s.jobs j.0 ≡ Some kept → is_new kept.phase ≡ true → ch.jobs ≡ JobsChange.Put j (record kept { phase = Phase.Asked; request = Some (next_id job.priority s) }) → AsksForJob c s ch job.priority (asked_for j job)
  asks-for ch j job kept row stands new puts = record { number = j; job = job; kept = kept; row = row; stands = stands; new = new; of_job = refl; asks = refl; puts = puts }

  crash_by : (session : SessionId) (o : Option SessionFacts) → Premises c s (with_found o (λ facts. record same { sessions = SessionsChange.Mute session; deed = Some (Deed.Strikes facts.role false) }))
  crash_by session x1 = grind (arith, nat_tests)

  lock_as : (session : SessionId) (role : Role) (r : RequestId) (what : Done) → lock_request_as c s session r role ≡ Ok what → IsUnlocked s (Some (record { session = session; role = role })) r
  lock_as session x0 r what ok = grind (arith, nat_tests, on-found, on-need, on-not, on-vacant)

  unlock_as : (session : SessionId) (role : Role) (r : RequestId) (what : Done) → unlock_request_as s session r role ≡ Ok what → LeavesRequest s (made_by session role (record same { requests = RequestsChange.Leave r })) r
  unlock_as session x0 r what ok = grind (arith, nat_tests, on-found, on-need)

  fulfil_by : (session : SessionId) (p : PoolId) (r : RequestId) (t : Bool) → launcher s session ≡ Ok p → (fulfils : MayFulfil s (changing session (Launcher p) (Plan.request_after_fulfil r t) (Plan.nodes_after_fulfil r t) JobsChange.Same) r) → is_some fulfils.request.pinned ≡ t → Premises c s (changing session (Launcher p) (Plan.request_after_fulfil r t) (Plan.nodes_after_fulfil r t) JobsChange.Same)
  fulfil_by session p r true who fulfils pinned = made session (Launcher p) _ _ _ (launcher-heard s session p who) (inl (record { fulfils = fulfils; pinned = pinned; frees = refl; same_jobs = refl })) (inl refl) tt
  fulfil_by session p r false who fulfils pinned = made session (Launcher p) _ _ _ (launcher-heard s session p who) (fulfils, refl) tt tt

  -- # the premises of the planned changes of every accepted event

  shown : (e : Event) (what : Done) → judge c s e ≡ Ok what → Premises c s (plan c s e)
  shown (Event.OpenSession role) what ok = on-need (is_role c role) _ _ what ok (λ is _. record { maker = tt; grows = is; requests = tt; nodes = tt; jobs = tt; handles = tt; sessions = tt })
  shown (Event.Crash session) what ok = crash_by session (session_of session s)
  shown (Event.Take session j) what ok =
      on-own_job c s session j _ what ok (λ q job kept who row stands takes_is.
      on-check (may_take s session j job kept) _ what takes_is (λ asked_is _.
      on-need (is_asked kept.phase) _ _ tt asked_is (λ asked of_job_is.
      on-found kept.request _ _ tt of_job_is (λ r of_job request_is.
      on-found (request_in r s.requests) _ _ tt request_is (λ request has fulfilled_is.
      on-need (is_fulfilled request.state) _ _ tt fulfilled_is (λ fulfilled held_is.
      on-need (unheld s session request.nodes == 0) _ _ tt held_is (λ held handles_is.
      at-given c s (requester s session) q _ who
      (at-found_by c s session (Requester q) (slice_get s.jobs j.0) kept _ stands
      (at-found_by c s session (Requester q) kept.request r _ of_job
      (at-found_by c s session (Requester q) (request_in r s.requests) request _ has
      (takes_by session q j kept r request (record {
        same_size = refl;
        by = record { session = session; role = Requester q };
        made_by = refl;
        number = j;
        job = job;
        kept = kept;
        request = request;
        row = row;
        stands = stands;
        asked = asked;
        of_job = of_job;
        request_stands = has;
        fulfilled = fulfilled;
        held = eqb-true (unheld s session request.nodes) 0 held;
        has_handles = eqb-true (missing_handles s j job) 0 (needed (missing_handles s j job == 0) _ handles_is);
        takes = refl;
        puts = refl;
      }) refl refl who stands)))))))))))
  shown (Event.Create session r) what ok =
      given-too c s (launcher s session) _ _ what ok (λ p who request_is.
      on-found (request_in r s.requests) _ _ what request_is (λ request has registers_is.
      on-need (is_session_of session (registered p s.registrations)) _ _ what registers_is (λ registers holds_is.
      on-need (is_session_of session (request_holder r s.requests)) _ _ what holds_is (λ holds pending_is.
      on-need (is_pending_by p request) _ _ what pending_is (λ pending next_is.
      on-found (next_label request) _ _ what next_is (λ l next room_is.
      on-not (is_short c s p l) _ _ what room_is (λ room _.
      at-found_by c s session (Launcher p) (request_in r s.requests) request _ has
      (at-found_by c s session (Launcher p) (next_label request) l _ next
      (create_gains session p r request l (record {
        pool = p;
        request = request;
        label = l;
        worked_on = works-on s session p r request has registers holds;
        pending = pending;
        next = next;
        edits = refl;
        from = inr (record { grows = refl; number = refl; room = room });
      }) who)))))))))
  shown (Event.UnlockNode session n) what ok =
      given-too c s (maker s session) _ _ what ok (λ role who node_is.
      on-found (node_in n s.nodes) _ _ what node_is (λ k _ queued_is.
      on-need (is_queued session (node_queue n s.nodes)) _ _ what queued_is (λ queued _.
      made session role _ _ _ (maker-heard s session role who) tt (record { same_size = refl; same_requests = refl; by = record { session = session; role = role }; made_by = refl; queued = queued }) tt)))
  shown (Event.EndNode session n as_what) what ok =
      given-too c s (requester s session) _ _ what ok (λ q who node_is.
      on-found (node_in n s.nodes) _ _ what node_is (λ k stands holds_is.
      on-need (is_session_of session (node_holder n s.nodes)) _ _ what holds_is (λ holds in_use_is.
      on-need (is_in_use k.state) _ _ what in_use_is (λ in_use _.
      at-found_by c s session (Requester q) (node_in n s.nodes) k _ stands
      (made session (Requester q) _ _ _ (requester-heard s session q who) tt (record {
        same_size = refl;
        same_requests = refl;
        node = k;
        held = record { session = session; role = Requester q; made_by = refl; stands = stands; holds = holds };
        way = inr (inr (inl (record { in_use = in_use; as_what = as_what; record_after = refl })));
      }) (ends_in _ n _ (owner_of n s.jobs) refl refl))))))
  shown (Event.Submit session j) what ok =
      on-own_job c s session j _ what ok (λ q job kept who row stands new_is.
      on-need (is_new kept.phase) _ _ what new_is (λ new _.
      at-given c s (requester s session) q _ who
      (at-found_by c s session (Requester q) (slice_get c.jobs j.0) job _ row
      (at-found_by c s session (Requester q) (slice_get s.jobs j.0) kept _ stands (record {
        maker = requester-heard s session q who;
        grows = inl (asks-for _ j job kept row stands new refl);
        requests = tt;
        nodes = tt;
        jobs = record { kept = kept; stands = stands; way = inl (job.priority, asked_for j job, asks-for _ j job kept row stands new refl, (refl, refl)) };
        handles = tt;
        sessions = tt;
      })))))
  shown (Event.Accept session r) what ok =
      given-too c s (launcher s session) _ _ what ok (λ p who request_is.
      on-found (request_in r s.requests) _ _ what request_is (λ request has registers_is.
      on-need (is_session_of session (registered p s.registrations)) _ _ what registers_is (λ registers holds_is.
      on-need (is_session_of session (request_holder r s.requests)) _ _ what holds_is (λ holds requested_is.
      on-need (is_requested request.state) _ _ what requested_is (λ requested undeclined_is.
      on-not (is_declined_by p request.declined) _ _ what undeclined_is (λ undeclined offered_is.
      on-vacant (first_unoffered c p request) _ _ what offered_is (λ offered pool_is.
      on-not (never_fits c p request) _ _ what pool_is (λ fits_pool tenant_is.
      on-not (tenant_never_fits c p request) _ _ what tenant_is (λ fits_tenant unblocked_is.
      on-vacant (blocking c s p request) _ _ what unblocked_is (λ unblocked _.
      made session (Launcher p) _ _ _ (launcher-heard s session p who) (record {
        same_size = refl;
        same_nodes = refl;
        request = request;
        worked_on = works-on s session p r request has registers holds;
        requested = requested;
        undeclined = undeclined;
        offered = offered;
        fits_pool = fits_pool;
        fits_tenant = fits_tenant;
        unblocked = unblocked;
      }) tt tt))))))))))
  shown (Event.Decline session r why) what ok =
      given-too c s (launcher s session) _ _ what ok (λ p who request_is.
      on-found (request_in r s.requests) _ _ what request_is (λ request has registers_is.
      on-need (is_session_of session (registered p s.registrations)) _ _ what registers_is (λ registers holds_is.
      on-need (is_session_of session (request_holder r s.requests)) _ _ what holds_is (λ holds open_is.
      on-check (in_state_for p request why) _ what open_is (λ open_for undeclined_is.
      on-not (is_declined_by p request.declined) _ _ what undeclined_is (λ undeclined true_is.
      on-need (is_true c s p request why) _ _ what true_is (λ holds_true _.
      at-found_by c s session (Launcher p) (request_in r s.requests) request _ has
      (made session (Launcher p) _ _ _ (launcher-heard s session p who) (record {
        same_size = refl;
        frees = refl;
        request = request;
        worked_on = works-on s session p r request has registers holds;
        undecided = open-for p request why open_for;
        undeclined = undeclined;
        holds_true = holds_true;
        fails = refl;
      }) (inr (inr (p, why, (is_some request.pinned || is_last_pool s.registrations request p), refl))) tt))))))))
  shown (Event.Fulfil session r) what ok =
      given-too c s (launcher s session) _ _ what ok (λ p who request_is.
      on-found (request_in r s.requests) _ _ what request_is (λ request has registers_is.
      on-need (is_session_of session (registered p s.registrations)) _ _ what registers_is (λ registers holds_is.
      on-need (is_session_of session (request_holder r s.requests)) _ _ what holds_is (λ holds pending_is.
      on-need (is_pending_by p request) _ _ what pending_is (λ pending filled_is.
      on-need (unfilled p session r s.nodes request.labels request.nodes == 0) _ _ what filled_is (λ filled _.
      at-found_by c s session (Launcher p) (request_in r s.requests) request _ has
      (fulfil_by session p r (is_some request.pinned) who (record {
        same_size = refl;
        pool = p;
        request = request;
        worked_on = works-on s session p r request has registers holds;
        pending = pending;
        filled = eqb-true (unfilled p session r s.nodes request.labels request.nodes) 0 filled;
      }) refl)))))))
  shown (Event.Reset session r) what ok =
      given-too c s (janitor s session) _ _ what ok (λ p who request_is.
      on-found (request_in r s.requests) _ _ what request_is (λ request has holds_is.
      on-need (is_session_of session (request_holder r s.requests)) _ _ what holds_is (λ holds pending_is.
      on-need (is_pending request.state) _ _ what pending_is (λ pending _.
      at-found_by c s session (Janitor p) (request_in r s.requests) request _ has
      (made session (Janitor p) _ _ _ (janitor-heard s session p who)
      (record { same_size = refl; frees = refl; by = record { session = session; role = Janitor p }; made_by = refl; request = request; stands = has; holds = holds; pending = pending }) (inr (inl refl)) tt)))))
  shown Event.Tick what ok = record { maker = tt; grows = tt; requests = tt; nodes = tt; jobs = tt; handles = tt; sessions = tt }
  shown (Event.UnlockRequest session r) what ok = given-too c s (maker s session) _ _ what ok (λ role who leaves. made session role _ _ _ (maker-heard s session role who) (unlock_as session role r what leaves) tt tt)
  shown (Event.LockRequest session r) what ok = grind (arith, nat_tests, given-too, maker-heard, lock_as)
  shown e what ok =
      grind (arith, nat_tests, given-too, at-given, at-found, at-found_by, on-own_job, on-check, on-found, on-need, on-not, on-both, on-vacant, launcher-heard, janitor-heard, requester-heard, maker-heard, works-on, take_gains, goes_with, may-delete, sweeps, eqb-true)

pub premises : (c : Configuration) (s : State) (e : Event) → is_ok (judge c s e) ≡ true → Premises c s (plan c s e)
premises c s e ok = let was : (what : Done) × (judge c s e ≡ Ok what) = ok-is (judge c s e) ok in shown c s e was.0 was.1
