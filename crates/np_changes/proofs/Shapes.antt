-- the form of every state that a run leads to, which bounds its numbers so that it fits
use Rattle.np_changes.proofs.Prelude.{all-mapped, freed_from, AllByRecursion, Configuration, Declined, Differ, JobFits, JobId, List, NodeEntry, NodeRecord, RequestEntry, RequestRecord, RoleRecord, State, all-weaker, arith, is_building, is_role, length, not, retries_of, suc, true, ℕ, ◌&&◌, ◌<◌, ◌≡◌, ◌≤◌, JobRecord, Registration, SessionFacts, Swept, Bool, Janitor, Launcher, NodeId, None, Option, Reaper, RequestId, Requester, Role, SemId, SessionId, Some, [], all-at, all-change_at, all-change_at_to, all-change_first, all-remove_first, all-set, all_freed, all_in_use, all_with_handle, all_without_handle, change_at, change_first, change_janitor, change_launcher, change_requester, cond, false, in_use, insert_before, is_among, is_pair_after, joined, left, length-append, length-change_first, length-filter_at_most, length-insert_before, length-map, length-remove_first, nat_tests, node_in, node_queue, one_more_act, option_map, option_map_or, put_job, put_node, put_node_queue, put_request, put_request_queue, refl, remove_request, request_in, request_queue, same_request, slice_get, struck_unless, subst, with_act, with_handle, with_pair, without_handle, ◌++◌, ◌==◌, ◌∙◌, ◌∷◌, EndAs, IsFitSite, LabelId, Ok, Outcome, PoolId, Reason, RequestState, RequesterId, all-change_first_to, all-insert_before, all-push, allocated, change_session, created, declined_with, differ-push, ended, ended_as, expired, filter, insert_request, is_declined_by, is_session, launched, launcher, length-change_at, made, map, next_label, node_left, request_left, role_of, slice_get_within, some-within, starts_of, sym, tenant_of_request, took_ready, with_node, ◌+◌, ◌-◌, Done, Entry, Event, Runs, acquired, acting, after_found-keeps, after_given-keeps, all-map, asked_by, decline_by, declined, effect, is_marked, is_wanted, judge, kept_ready, kept_ready_by, muted, new_job, next, next-keeps, next_id, no_deeds, one_more_start, start, state_after, submit_for, submitted, take_for, take_from, taken, with_mark, withdrawn, Fits, NeverFits, NodeFits, RequestFits, RoleFits, few, most, All, All-head, All-tail, AllApart, AmountFits, EachAfter, IfSome, IsJob, IsLabel, IsOffer, IsPool, IsProvider, IsSound, Job, JobRowFits, Label, Offer, OffersFit, Pool, Provider, StandsByOwner, find, list_any, list_any-append, member-there, not-true, nothing, option_and_then, zero}
use Rattle.np_lists.proofs.Plain.{by_bool}
use Rattle.np_changes.proofs.Accepted.{decline-first, done-flying, launcher-role, open-role, start-idle, take_ready-room}

-- # the form of every state that a run leads to: n bounds each of its numbers, a the acts

pub record Deeds (a n : ℕ) (role : RoleRecord) : Type 0 where
  pub acts : role.acts ≤ a
  pub starts : role.starts ≤ n
  pub strikes : role.strikes ≤ n

-- the number of the pool that declined
abbrev pub decliner : Declined → ℕ
decliner d = d.pool.0

pub record RequestKept (c : Configuration) (request : RequestRecord) : Type 0 where
  pub labels : length request.labels ≤ 32
  pub nodes : length request.nodes ≤ length request.labels
  pub pools : AllByRecursion (λ d. decliner d < length c.pools) request.declined
  pub differ : Differ decliner request.declined

pub record RequestShape (c : Configuration) (n next : ℕ) (e : RequestEntry) : Type 0 where
  pub id : e.id.seq < next
  pub queue : length e.queue ≤ n
  pub kept : RequestKept c e.kept

pub record NodeKept (c : Configuration) (n tick : ℕ) (k : NodeRecord) : Type 0 where
  pub since : k.since ≤ tick
  pub start : k.start ≤ n
  -- a node that may be started has an attempt left
  pub idle : (is_building k.state && not k.in_flight) ≡ true → k.attempts < retries_of c k.pool
  pub flying : k.in_flight ≡ true → k.attempts ≤ retries_of c k.pool

pub record NodeShape (c : Configuration) (n tick next : ℕ) (e : NodeEntry) : Type 0 where
  pub id : e.id.0 < next
  pub queue : length e.queue ≤ n
  pub kept : NodeKept c n tick e.kept

pub record Shaped (c : Configuration) (a n : ℕ) (s : State) : Type 0 where
  pub tick : s.tick ≤ n
  pub sessions : length s.sessions ≤ n
  pub registrations : length s.registrations ≤ n
  pub requests : length s.requests ≤ n
  pub nodes : length s.nodes ≤ n
  pub swept : length s.swept ≤ n
  pub next_request : s.next_request ≤ n
  pub next_node : s.next_node ≤ n
  pub handles : AllByRecursion (λ jobs. length jobs ≤ n) s.handles
  pub jobs : AllByRecursion JobFits s.jobs
  pub launchers : AllByRecursion (Deeds a n) s.launchers
  pub janitors : AllByRecursion (Deeds a n) s.janitors
  pub requesters : AllByRecursion (Deeds a n) s.requesters
  pub each_request : AllByRecursion (RequestShape c n s.next_request) s.requests
  pub each_node : AllByRecursion (NodeShape c n s.tick s.next_node) s.nodes
  pub roles : AllByRecursion (λ f. is_role c f.role ≡ true) s.sessions

-- ## higher bounds

pub wider-deeds : (a b n m : ℕ) → a ≤ b → n ≤ m → (role : RoleRecord) → Deeds a n role → Deeds b m role
wider-deeds a b n m acts more role old = record { acts = omega (arith, old.acts); starts = omega (arith, old.starts); strikes = omega (arith, old.strikes) }

pub wider-request : (c : Configuration) (n m next later : ℕ) → n ≤ m → next ≤ later → (e : RequestEntry) → RequestShape c n next e → RequestShape c m later e
wider-request c n m next later more on e old = record { id = omega (arith, old.id); queue = omega (arith, old.queue); kept = old.kept }

pub wider-kept : (c : Configuration) (n m tick now : ℕ) → n ≤ m → tick ≤ now → (k : NodeRecord) → NodeKept c n tick k → NodeKept c m now k
wider-kept c n m tick now more on k old = record { since = omega (arith, old.since); start = omega (arith, old.start); idle = old.idle; flying = old.flying }

pub wider-node : (c : Configuration) (n m tick now next later : ℕ) → n ≤ m → tick ≤ now → next ≤ later → (e : NodeEntry) → NodeShape c n tick next e → NodeShape c m now later e
wider-node c n m tick now next later more on up e old = record { id = omega (arith, old.id); queue = omega (arith, old.queue); kept = wider-kept c n m tick now more on e.kept old.kept }

wider-length : {X : Type 0} (n m : ℕ) → n ≤ m → (xs : List X) → length xs ≤ n → length xs ≤ m
wider-length n m more xs old = omega arith

pub same : (n : ℕ) → n ≤ n
same n = omega arith

pub up : (n : ℕ) → n ≤ suc n
up n = omega arith

pub wider : (c : Configuration) (a b n m : ℕ) → a ≤ b → n ≤ m → (s : State) → Shaped c a n s → Shaped c b m s
wider c a b n m acts more s old = grind (
  arith,
  all-weaker (λ (jobs : List JobId). length jobs ≤ n) (λ (jobs : List JobId). length jobs ≤ m) (wider-length n m more) s.handles old.handles,
  all-weaker (Deeds a n) (Deeds b m) (wider-deeds a b n m acts more),
  all-weaker (RequestShape c n s.next_request) (RequestShape c m s.next_request) (wider-request c n m s.next_request s.next_request more (omega arith)) s.requests old.each_request,
  all-weaker (NodeShape c n s.tick s.next_node) (NodeShape c m s.tick s.next_node) (wider-node c n m s.tick s.tick s.next_node s.next_node more (omega arith) (omega arith)) s.nodes old.each_node,
)

-- # the form of a state after a change of one table or number

-- ## one table or number changed

module _ (c : Configuration) (a n : ℕ) (s : State) (old : Shaped c a n s) where
  pub set-tick : (tick : ℕ) → s.tick ≤ tick → tick ≤ n → Shaped c a n (record s { tick = tick })
  set-tick tick on bound = assumption (all-weaker (NodeShape c n s.tick s.next_node) (NodeShape c n tick s.next_node) (wider-node c n n s.tick tick s.next_node s.next_node (same n) on (same s.next_node)) s.nodes old.each_node)

  pub set-sessions : (sessions : List SessionFacts) → length sessions ≤ n → AllByRecursion (λ f. is_role c f.role ≡ true) sessions → Shaped c a n (record s { sessions = sessions })
  set-sessions sessions few all = assumption

  pub set-registrations : (registrations : List Registration) → length registrations ≤ n → Shaped c a n (record s { registrations = registrations })
  set-registrations registrations few = assumption

  pub set-requests : (requests : List RequestEntry) → length requests ≤ n → AllByRecursion (RequestShape c n s.next_request) requests → Shaped c a n (record s { requests = requests })
  set-requests requests few all = assumption

  pub set-nodes : (nodes : List NodeEntry) → length nodes ≤ n → AllByRecursion (NodeShape c n s.tick s.next_node) nodes → Shaped c a n (record s { nodes = nodes })
  set-nodes nodes few all = assumption

  pub set-handles : (handles : List (List JobId)) → AllByRecursion (λ jobs. length jobs ≤ n) handles → Shaped c a n (record s { handles = handles })
  set-handles handles all = assumption

  pub set-jobs : (jobs : List JobRecord) → AllByRecursion JobFits jobs → Shaped c a n (record s { jobs = jobs })
  set-jobs jobs all = assumption

  pub set-swept : (swept : List Swept) → length swept ≤ n → Shaped c a n (record s { swept = swept })
  set-swept swept few = assumption

  pub set-next_request : (next : ℕ) → s.next_request ≤ next → next ≤ n → Shaped c a n (record s { next_request = next })
  set-next_request next on bound = assumption (all-weaker (RequestShape c n s.next_request) (RequestShape c n next) (wider-request c n n s.next_request next (same n) on) s.requests old.each_request)

  pub set-next_node : (next : ℕ) → s.next_node ≤ next → next ≤ n → Shaped c a n (record s { next_node = next })
  set-next_node next on bound = assumption (all-weaker (NodeShape c n s.tick s.next_node) (NodeShape c n s.tick next) (wider-node c n n s.tick s.tick s.next_node next (same n) (same s.tick) on) s.nodes old.each_node)

-- ## what the roles have done

pub set-deeds : (c : Configuration) (a b n : ℕ) → a ≤ b → (s : State) → Shaped c a n s → (launchers janitors requesters : List RoleRecord) → AllByRecursion (Deeds b n) launchers → AllByRecursion (Deeds b n) janitors → AllByRecursion (Deeds b n) requesters → Shaped c b n (record s { launchers = launchers; janitors = janitors; requesters = requesters })
set-deeds c a b n acts s old launchers janitors requesters of_launchers of_janitors of_requesters = assumption

-- # what one change leaves of the form of a state

-- ## queues

pub length-joined : (session : SessionId) (queue : List SessionId) → length (joined session queue) ≤ suc (length queue)
length-joined session queue = grind (arith, nat_tests, length-append queue (session ∷ []))

pub length-left : (session : SessionId) (queue : List SessionId) → length (left session queue) ≤ length queue
length-left session queue = length-filter_at_most _ queue

-- ## what a look-up finds

-- what is found meets a condition if none does, and so does each member
pub found-meets : {X : Type 0} (P : X → Type 0) (Q : Option X → Type 0) (test : X → Bool) (xs : List X) → AllByRecursion P xs → Q None → ((x : X) → P x → Q (Some x)) → Q (find test xs)
found-meets P Q test [] all none some = none
found-meets P Q test (x ∷ xs) all none some = by_bool (λ (b : Bool). Q (cond b (Some x) (find test xs))) (test x) (λ _. some x all.0) (λ _. found-meets P Q test xs all.1 none some)

pub request-queue : (c : Configuration) (n next : ℕ) (requests : List RequestEntry) (r : RequestId) → AllByRecursion (RequestShape c n next) requests → length (request_queue r requests) ≤ n
request-queue c n next requests r all = found-meets (RequestShape c n next) (λ (o : Option RequestEntry). length (option_map_or (λ e. e.queue) o []) ≤ n) _ requests all (omega arith) (λ e is. is.queue)

pub request-found : (c : Configuration) (n next : ℕ) (requests : List RequestEntry) (r : RequestId) (request : RequestRecord) → AllByRecursion (RequestShape c n next) requests → request_in r requests ≡ Some request → RequestKept c request
request-found c n next requests r request all is =
    found-meets (RequestShape c n next) (λ (o : Option RequestEntry). option_map (λ e. e.kept) o ≡ Some request → RequestKept c request) _ requests all (λ none. absurd cc) (λ e shape there. subst (RequestKept c) (let same : e.kept ≡ request = cc in same) shape.kept) is

pub node-queue : (c : Configuration) (n tick next : ℕ) (nodes : List NodeEntry) (k : NodeId) → AllByRecursion (NodeShape c n tick next) nodes → length (node_queue k nodes) ≤ n
node-queue c n tick next nodes k all = found-meets (NodeShape c n tick next) (λ (o : Option NodeEntry). length (option_map_or (λ e. e.queue) o []) ≤ n) _ nodes all (omega arith) (λ e is. is.queue)

pub node-found : (c : Configuration) (n tick next : ℕ) (nodes : List NodeEntry) (number : NodeId) (k : NodeRecord) → AllByRecursion (NodeShape c n tick next) nodes → node_in number nodes ≡ Some k → NodeKept c n tick k
node-found c n tick next nodes number k all is =
    found-meets (NodeShape c n tick next) (λ (o : Option NodeEntry). option_map (λ e. e.kept) o ≡ Some k → NodeKept c n tick k) _ nodes all (λ none. absurd cc) (λ e shape there. subst (NodeKept c n tick) (let same : e.kept ≡ k = cc in same) shape.kept) is

-- ## one row changed

module _ (c : Configuration) (a n : ℕ) (s : State) (old : Shaped c a n s) where
  pub request-put : (r : RequestId) (request : RequestRecord) → RequestKept c request → Shaped c a n (record s { requests = put_request r request s.requests })
  request-put r request new =
      set-requests c a n s old (put_request r request s.requests) (let few = old.requests in rw length-change_first few)
      (all-change_first (RequestShape c n s.next_request) _ _ s.requests (λ e is. record { id = is.id; queue = is.queue; kept = new }) old.each_request)

  pub request-queued : (r : RequestId) (queue : List SessionId) → length queue ≤ n → Shaped c a n (record s { requests = put_request_queue r queue s.requests })
  request-queued r queue few =
      set-requests c a n s old (put_request_queue r queue s.requests) (let at_most = old.requests in rw length-change_first at_most)
      (all-change_first (RequestShape c n s.next_request) _ _ s.requests (λ e is. record { id = is.id; queue = few; kept = is.kept }) old.each_request)

  pub request-removed : (r : RequestId) → Shaped c a n (record s { requests = remove_request r s.requests })
  request-removed r =
      set-requests c a n s old (remove_request r s.requests) (omega (arith, old.requests, length-remove_first (λ e. same_request e.id r) s.requests))
      (all-remove_first (RequestShape c n s.next_request) _ s.requests old.each_request)

  pub node-put : (number : NodeId) (k : NodeRecord) → NodeKept c n s.tick k → Shaped c a n (record s { nodes = put_node number k s.nodes })
  node-put number k new =
      set-nodes c a n s old (put_node number k s.nodes) (let few = old.nodes in rw length-change_first few)
      (all-change_first (NodeShape c n s.tick s.next_node) _ _ s.nodes (λ e is. record { id = is.id; queue = is.queue; kept = new }) old.each_node)

  pub node-queued : (number : NodeId) (queue : List SessionId) → length queue ≤ n → Shaped c a n (record s { nodes = put_node_queue number queue s.nodes })
  node-queued number queue few =
      set-nodes c a n s old (put_node_queue number queue s.nodes) (let at_most = old.nodes in rw length-change_first at_most)
      (all-change_first (NodeShape c n s.tick s.next_node) _ _ s.nodes (λ e is. record { id = is.id; queue = few; kept = is.kept }) old.each_node)

  -- an allocation is taken away
  pub nodes-freed : (r : RequestId) → Shaped c a n (record s { nodes = all_freed r s.nodes })
  nodes-freed r =
      set-nodes c a n s old (all_freed r s.nodes) (let few = old.nodes in rw length-map few)
      (all-mapped (NodeShape c n s.tick s.next_node) (NodeShape c n s.tick s.next_node) (freed_from r) s.nodes (λ e is. grind arith) old.each_node)

  pub job-put : (j : JobId) (job : JobRecord) → JobFits job → Shaped c a n (record s { jobs = put_job j job s.jobs })
  job-put j job new = set-jobs c a n s old (put_job j job s.jobs) (all-set JobFits s.jobs j.0 job new old.jobs)

  pub job-found : (j : JobId) (job : JobRecord) → slice_get s.jobs j.0 ≡ Some job → JobFits job
  job-found j job is = all-at JobFits s.jobs j.0 job old.jobs is

-- ## nodes in use

used_kept : (c : Configuration) (n tick next : ℕ) (e : NodeEntry) → NodeShape c n tick next e → NodeShape c n tick next (in_use tick e)
used_kept c n tick next e is = record { id = is.id; queue = is.queue; kept = record { since = omega arith; start = is.kept.start; idle = λ idle. absurd cc; flying = is.kept.flying } }

pub all-in_use : (P : NodeEntry → Type 0) (tick : ℕ) → ((e : NodeEntry) → P e → P (in_use tick e)) → (numbers : List NodeId) (nodes : List NodeEntry) → AllByRecursion P nodes → AllByRecursion P (all_in_use tick numbers nodes)
all-in_use P tick keeps [] nodes all = all
all-in_use P tick keeps (k ∷ numbers) nodes all = all-in_use P tick keeps numbers _ (all-change_first P (λ e. e.id.0 == k.0) (in_use tick) nodes keeps all)

pub length-in_use : (tick : ℕ) (numbers : List NodeId) (nodes : List NodeEntry) → length (all_in_use tick numbers nodes) ≡ length nodes
length-in_use tick [] nodes = refl
length-in_use tick (k ∷ numbers) nodes = length-in_use tick numbers (change_first (λ e. e.id.0 == k.0) (in_use tick) nodes) ∙ length-change_first (λ e. e.id.0 == k.0) (in_use tick) nodes

-- ## handles

-- at most one more job, and no more if it is there already
record Room (j : JobId) (n : ℕ) (jobs : List JobId) : Type 0 where
  all : length jobs ≤ suc n
  room : is_among j jobs ≡ false → length jobs ≤ n

pub among-insert : (p : JobId → Bool) (j : JobId) (jobs : List JobId) → is_among j (insert_before p j jobs) ≡ true
among-insert p j [] = grind (arith, nat_tests)
among-insert p j (other ∷ jobs) = grind (arith, nat_tests, among-insert p j jobs)

room-with : (j : JobId) (n : ℕ) (jobs : List JobId) → Room j n jobs → Room j n (with_handle j jobs)
room-with j n jobs old = grind (arith, nat_tests, length-insert_before, among-insert)

rooms-with : (j : JobId) (n : ℕ) (semaphores : List SemId) (handles : List (List JobId)) → AllByRecursion (Room j n) handles → AllByRecursion (Room j n) (all_with_handle j semaphores handles)
rooms-with j n [] handles all = all
rooms-with j n (x ∷ semaphores) handles all = rooms-with j n semaphores (change_at x.0 (with_handle j) handles) (all-change_at (Room j n) x.0 (with_handle j) handles (room-with j n) all)

pub handles-with : (j : JobId) (n : ℕ) (semaphores : List SemId) (handles : List (List JobId)) → AllByRecursion (λ jobs. length jobs ≤ n) handles → AllByRecursion (λ jobs. length jobs ≤ suc n) (all_with_handle j semaphores handles)
handles-with j n semaphores handles all =
    all-weaker (Room j n) (λ (jobs : List JobId). length jobs ≤ suc n) (λ jobs is. is.all) (all_with_handle j semaphores handles)
    (rooms-with j n semaphores handles (all-weaker (λ (jobs : List JobId). length jobs ≤ n) (Room j n) (λ jobs few. record { all = omega arith; room = λ out. few }) handles all))

pub handles-without : (j : JobId) (n : ℕ) (semaphores : List SemId) (handles : List (List JobId)) → AllByRecursion (λ jobs. length jobs ≤ n) handles → AllByRecursion (λ jobs. length jobs ≤ n) (all_without_handle j semaphores handles)
handles-without j n [] handles all = all
handles-without j n (x ∷ semaphores) handles all =
    handles-without j n semaphores (change_at x.0 (without_handle j) handles)
    (all-change_at (λ (jobs : List JobId). length jobs ≤ n) x.0 (without_handle j) handles (λ jobs few. omega (arith, few, length-filter_at_most (λ (other : JobId). not (other.0 == j.0)) jobs)) all)

-- ## swept pairs

pub length-with_pair : (number : NodeId) (x : ℕ) (swept : List Swept) → length (with_pair number x swept) ≤ suc (length swept)
length-with_pair number x swept = grind (arith, nat_tests, length-insert_before (is_pair_after number x) (record { node = number; server = x }) swept)

-- ## deeds

-- one role's deeds changed, in the records of its kind
pub roles-changed : (c : Configuration) (a b n : ℕ) → a ≤ b → (s : State) → Shaped c a n s → (P : RoleRecord → Type 0) → ((x : RoleRecord) → P x → Deeds b n x) → (f : RoleRecord → RoleRecord) → ((x : RoleRecord) → P x → Deeds b n (f x)) → (role : Role) (launchers janitors requesters : List RoleRecord)
    → AllByRecursion P launchers → AllByRecursion P janitors → AllByRecursion P requesters → Shaped c b n (record s { launchers = change_launcher f role launchers; janitors = change_janitor f role janitors; requesters = change_requester f role requesters })
roles-changed c a b n acts s old P weaker f new (Launcher p) ls js rs l j r = set-deeds c a b n acts s old _ js rs (all-change_at_to P (Deeds b n) weaker p.0 f ls new l) (all-weaker P (Deeds b n) weaker js j) (all-weaker P (Deeds b n) weaker rs r)
roles-changed c a b n acts s old P weaker f new (Janitor p) ls js rs l j r = set-deeds c a b n acts s old ls _ rs (all-weaker P (Deeds b n) weaker ls l) (all-change_at_to P (Deeds b n) weaker p.0 f js new j) (all-weaker P (Deeds b n) weaker rs r)
roles-changed c a b n acts s old P weaker f new (Requester q) ls js rs l j r = set-deeds c a b n acts s old ls js _ (all-weaker P (Deeds b n) weaker ls l) (all-weaker P (Deeds b n) weaker js j) (all-change_at_to P (Deeds b n) weaker q.0 f rs new r)
roles-changed c a b n acts s old P weaker f new Reaper ls js rs l j r = set-deeds c a b n acts s old ls js rs (all-weaker P (Deeds b n) weaker ls l) (all-weaker P (Deeds b n) weaker js j) (all-weaker P (Deeds b n) weaker rs r)

more_act : (a n : ℕ) (deeds : RoleRecord) → Deeds a n deeds → Deeds (suc a) n (one_more_act deeds)
more_act a n deeds old = record { acts = omega (arith, old.acts); starts = old.starts; strikes = old.strikes }

-- one act more
pub acted : (c : Configuration) (a n : ℕ) (role : Option Role) (s : State) → Shaped c a n s → Shaped c (suc a) n (with_act role s)
acted c a n None s old = wider c a (suc a) n n (up a) (same n) s old
acted c a n (Some role) s old =
    roles-changed c a (suc a) n (up a) s old (Deeds a n) (wider-deeds a (suc a) n n (up a) (same n)) one_more_act (more_act a n) role s.launchers s.janitors s.requesters old.launchers old.janitors old.requesters

struck_by : (a n : ℕ) (counted : Bool) (deeds : RoleRecord) → Deeds a n deeds → Deeds a (suc n) (struck_unless counted deeds)
struck_by a n counted deeds old = grind (arith, nat_tests)

one_more : (n : ℕ) (deeds : RoleRecord) → Deeds n n deeds → Deeds n (suc n) (one_more_start deeds)
one_more n deeds old = record { acts = old.acts; starts = omega (arith, old.starts); strikes = omega (arith, old.strikes) }

-- at most one more strike, in a state with these records of the roles
struck : (c : Configuration) (n : ℕ) (counted : Bool) (role : Role) (s t : State) → Shaped c n n s → Shaped c n (suc n) t → Shaped c n (suc n) (record t {
  launchers = change_launcher (struck_unless counted) role s.launchers;
  janitors = change_janitor (struck_unless counted) role s.janitors;
  requesters = change_requester (struck_unless counted) role s.requesters;
})
struck c n counted role s t old new =
    roles-changed c n n (suc n) (same n) t new (Deeds n n) (wider-deeds n n n (suc n) (same n) (up n)) (struck_unless counted) (struck_by n n counted) role s.launchers s.janitors s.requesters old.launchers old.janitors old.requesters

-- # each event keeps the form of a state, and raises its bounds by one

-- ## roles

-- the role of every session is one of the configuration
pub role-known : (c : Configuration) (a n : ℕ) (s : State) (session : SessionId) (role : Role) → Shaped c a n s → role_of session s ≡ Some role → is_role c role ≡ true
role-known c a n s session role old is = grind (arith, nat_tests, all-at (λ (f : SessionFacts). is_role c f.role ≡ true) s.sessions (session.0 - 1), old.roles)

pub launcher-pool : (c : Configuration) (a n : ℕ) (s : State) (session : SessionId) (p : PoolId) → Shaped c a n s → role_of session s ≡ Some (Launcher p) → p.0 < length c.pools
launcher-pool c a n s session p old is = some-within c.pools p.0 (slice_get c.pools p.0) refl (role-known c a n s session (Launcher p) old is)

-- ## requests

pub grown : (c : Configuration) (request : RequestRecord) (n : NodeId) → RequestKept c request → length request.nodes < length request.labels → RequestKept c (with_node request n)
grown c request n old room = record { labels = old.labels; nodes = simp length-append (omega arith); pools = old.pools; differ = old.differ }

-- the form is the same if these are
same-lists : (c : Configuration) (request later : RequestRecord) → RequestKept c request → later.labels ≡ request.labels → later.nodes ≡ request.nodes → later.declined ≡ request.declined → RequestKept c later
same-lists c request later old labels nodes declines = grind (arith, nat_tests)

pub room_by : (request : RequestRecord) (o : Option LabelId) → next_label request ≡ o → (o ≡ None → ⊥) → length request.nodes < length request.labels
room_by request None is some = absurd (some refl)
room_by request (Some l) is some = slice_get_within request.labels (length request.nodes) l is

pub with_decline : (c : Configuration) (request : RequestRecord) (p : PoolId) (why : Reason) (state : RequestState) → RequestKept c request → p.0 < length c.pools → is_declined_by p request.declined ≡ false → RequestKept c (record request { declined = declined_with request p why; nodes = []; pool = None; state = state })
with_decline c request p why state old there first = record {
  labels = old.labels;
  nodes = omega arith;
  pools = all-push (λ (d : Declined). decliner d < length c.pools) request.declined _ old.pools there;
  differ = differ-push decliner request.declined _ old.differ first;
}

-- ## nodes

pub starts-few : (c : Configuration) (a n : ℕ) (s : State) (p : PoolId) → Shaped c a n s → starts_of p s ≤ n
starts-few c a n s p old = grind (arith, all-at (Deeds a n) s.launchers p.0, old.launchers)

pub one_start : (c : Configuration) (n tick start : ℕ) (k : NodeRecord) → start ≤ n → NodeKept c n tick k → (is_building k.state && not k.in_flight) ≡ true → NodeKept c n tick (record k { attempts = k.attempts + 1; in_flight = true; start = start })
one_start c n tick start k few old idle =
    let left : k.attempts < retries_of c k.pool = old.idle idle in
    record { since = old.since; start = few; idle = λ again. absurd (grind (arith, nat_tests)); flying = λ _. omega arith }

pub after_launch : (c : Configuration) (n tick : ℕ) (o : Outcome) (k : NodeRecord) → NodeKept c n tick k → k.in_flight ≡ true → NodeKept c n tick (launched (retries_of c k.pool) tick o k)
after_launch c n tick o k old flying = grind (arith, nat_tests)

pub after_end : (c : Configuration) (n tick : ℕ) (as_what : EndAs) (k : NodeRecord) → NodeKept c n tick k → NodeKept c n tick (record k { since = tick; state = ended_as as_what })
after_end c n tick as_what k old = grind (arith, nat_tests)

-- ## the events

module _ (c : Configuration) (site : IsFitSite c) (n : ℕ) (s : State) (old : Shaped c n n s) where
  pub wide : Shaped c n (suc n) s
  wide = wider c n n n (suc n) (same n) (up n) s old

  pub asked : (r : RequestId) (request : RequestRecord) → request_in r s.requests ≡ Some request → RequestKept c request
  asked r request is = request-found c n s.next_request s.requests r request old.each_request is

  pub stands : (number : NodeId) (k : NodeRecord) → node_in number s.nodes ≡ Some k → NodeKept c (suc n) s.tick k
  stands number k is = node-found c (suc n) s.tick s.next_node s.nodes number k wide.each_node is

  -- a new request with the next number
  pub request-made : (e : RequestEntry) → e.id.seq ≡ s.next_request → e.queue ≡ [] → RequestKept c e.kept → Shaped c n (suc n) (record s { requests = insert_request e s.requests; next_request = s.next_request + 1 })
  request-made e id queue kept =
      let next : Shaped c n (suc n) (record s { next_request = s.next_request + 1 }) = set-next_request c n (suc n) s wide (s.next_request + 1) (omega arith) (omega (arith, old.next_request)) in
      set-requests c n (suc n) (record s { next_request = s.next_request + 1 }) next (insert_request e s.requests) (let few = old.requests in rw length-insert_before (omega arith))
      (all-insert_before (RequestShape c (suc n) (s.next_request + 1)) _ e s.requests (record { id = omega arith; queue = rw queue (omega arith); kept = kept }) next.each_request)

  pub session-changed : (session : SessionId) (f : SessionFacts → SessionFacts) → ((facts : SessionFacts) → (f facts).role ≡ facts.role) → Shaped c n (suc n) (record s { sessions = change_session session f s.sessions })
  session-changed session f keeps =
      set-sessions c n (suc n) s wide (change_session session f s.sessions) (omega (arith, old.sessions, length-change_at (session.0 - 1) f s.sessions))
      (all-change_at (λ (facts : SessionFacts). is_role c facts.role ≡ true) (session.0 - 1) f s.sessions (λ facts is. subst (λ (r : Role). is_role c r ≡ true) (sym (keeps facts)) is) old.roles)

  pub expires : (session : SessionId) (facts : SessionFacts) → Shaped c n (suc n) (expired s session facts)
  expires session facts =
      struck c n facts.mute facts.role s _ old
      (set-nodes c n (suc n) _
      (set-requests c n (suc n) _
      (set-registrations c n (suc n) _ (session-changed session ended (λ f. refl)) (filter (λ g. not (is_session g.session session)) s.registrations) (omega (arith, old.registrations, length-filter_at_most (λ g. not (is_session g.session session)) s.registrations)))
      (map (request_left session) s.requests) (let few = old.requests in rw length-map (omega arith))
      (all-mapped (RequestShape c (suc n) s.next_request) (RequestShape c (suc n) s.next_request) (request_left session) s.requests (λ e is. record { id = is.id; queue = omega (arith, is.queue, length-left session e.queue); kept = is.kept }) wide.each_request))
      (map (node_left session) s.nodes) (let few = old.nodes in rw length-map (omega arith))
      (all-mapped (NodeShape c (suc n) s.tick s.next_node) (NodeShape c (suc n) s.tick s.next_node) (node_left session) s.nodes (λ e is. record { id = is.id; queue = omega (arith, is.queue, length-left session e.queue); kept = is.kept }) wide.each_node))

  pub fulfils : (r : RequestId) (request : RequestRecord) (state : RequestState) (b : Bool) → RequestKept c request → Shaped c n (suc n) (record s {
    requests = cond b (remove_request r s.requests) (put_request r (record request { state = state }) s.requests);
    nodes = cond b (all_freed r s.nodes) s.nodes;
  })
  fulfils r request state true kept = nodes-freed c n (suc n) (record s { requests = remove_request r s.requests }) (request-removed c n (suc n) s wide r) r
  fulfils r request state false kept = request-put c n (suc n) s wide r (record request { state = state }) (same-lists c request _ kept refl refl refl)

  pub create-shape : (session : SessionId) (r : RequestId) (p : PoolId) (request : RequestRecord) (l : LabelId) → launcher s session ≡ Ok p → request_in r s.requests ≡ Some request → next_label request ≡ Some l → Shaped c n (suc n) (created c s session r p request l)
  create-shape session r p request l who has is =
      let room : length request.nodes < length request.labels = slice_get_within request.labels (length request.nodes) l is in
      let retry : 0 < retries_of c p = site.some_retry p (launcher-pool c n n s session p old (launcher-role s session p who)) in
      let number : NodeId = record { 0 = s.next_node } in
      let put = request-put c n (suc n) s wide r (with_node request number) (grown c request number (asked r request has) room) in
      let next = set-next_node c n (suc n) _ put (s.next_node + 1) (omega arith) (omega (arith, old.next_node)) in
      set-nodes c n (suc n) _ next (s.nodes ++ made c s session r p request l ∷ []) (let few = old.nodes in simp length-append (omega arith))
      (all-push (NodeShape c (suc n) s.tick (s.next_node + 1)) s.nodes (made c s session r p request l) next.each_node
      (record { id = omega arith; queue = omega arith; kept = record { since = same s.tick; start = omega arith; idle = λ _. retry; flying = λ e. absurd cc } }))

  pub take_ready-shape : (session : SessionId) (r : RequestId) (number : NodeId) (request : RequestRecord) → request_in r s.requests ≡ Some request → length request.nodes < length request.labels → Shaped c n (suc n) (took_ready c s session r number request)
  take_ready-shape session r number request has room =
      set-nodes c n (suc n) (record s { requests = put_request r (with_node request number) s.requests })
      (request-put c n (suc n) s wide r (with_node request number) (grown c request number (asked r request has) room))
      (change_first (λ e. e.id.0 == number.0) (allocated r (tenant_of_request c request) session) s.nodes) (let few = old.nodes in rw length-change_first (omega arith))
      (all-change_first_to (NodeShape c n s.tick s.next_node) (NodeShape c (suc n) s.tick s.next_node) (wider-node c n (suc n) s.tick s.tick s.next_node s.next_node (up n) (same s.tick) (same s.next_node))
      (λ e. e.id.0 == number.0) (allocated r (tenant_of_request c request) session) s.nodes
      (λ e is. record { id = is.id; queue = omega (arith, is.queue, length-joined session e.queue); kept = record { since = is.kept.since; start = omega (arith, is.kept.start); idle = is.kept.idle; flying = is.kept.flying } }) old.each_node)

  pub sweeps : (number : NodeId) (x : ℕ) (b : Bool) → Shaped c n (suc n) (record s { swept = cond b s.swept (with_pair number x s.swept) })
  sweeps number x true = wide
  sweeps number x false = set-swept c n (suc n) s wide (with_pair number x s.swept) (omega (arith, old.swept, length-with_pair number x s.swept))

  pub withdraws : (o : Option RequestId) → Shaped c n (suc n) (record s { requests = option_map_or (λ r. remove_request r s.requests) o s.requests })
  withdraws None = wide
  withdraws (Some r) = request-removed c n (suc n) s wide r

  -- what each accepted event leaves
  pub shape-effect : (e : Event) (what : Done) → judge c s e ≡ Ok what → Shaped c n (suc n) (effect c s e)
  shape-effect Event.Tick what is = set-tick c n (suc n) s wide (s.tick + 1) (omega arith) (omega (arith, old.tick))
  shape-effect (Event.OpenSession role) what is = grind (arith, nat_tests, wide, set-sessions c n (suc n) s wide, old.sessions, length-append s.sessions, all-push (λ (f : SessionFacts). is_role c f.role ≡ true) s.sessions, old.roles, open-role c s role what is)
  shape-effect (Event.Crash session) what is = grind (arith, nat_tests, wide, struck c n false, session-changed session muted)
  shape-effect (Event.Expire session) what is = grind (arith, nat_tests, wide, expires session)
  shape-effect (Event.Register session) what is = grind (arith, nat_tests, wide, set-registrations c n (suc n) s wide, length-insert_before, old.registrations)
  shape-effect (Event.Submit session j) what is =
      after_found-keeps (Shaped c n (suc n)) (slice_get c.jobs j.0) s (submit_for s j) wide (λ job has.
      after_found-keeps (Shaped c n (suc n)) (slice_get s.jobs j.0) s (submitted s j job) wide (λ kept there.
      job-put c n (suc n) _ (request-made (asked_by (next_id job.priority s) j job) refl refl (record { labels = (site.job_rows j job has).labels; nodes = omega arith; pools = tt; differ = tt })) j _
      (record { nodes = (job-found c n n s old j kept there).nodes })))
  shape-effect (Event.Revise session j relative) what is = grind (arith, wide, request-put c n (suc n) s wide, same-lists c, asked)
  shape-effect (Event.MinReady session l) what is =
      after_given-keeps (Shaped c n (suc n)) (launcher s session) s (kept_ready s l) wide (λ p _.
      request-made (kept_ready_by (next_id 400 s) p l) refl refl (record { labels = omega arith; nodes = omega arith; pools = tt; differ = tt }))
  shape-effect (Event.LockRequest session r) what is =
      request-queued c n (suc n) s wide r _ (omega (arith, length-joined session (request_queue r s.requests), request-queue c n s.next_request s.requests r old.each_request))
  shape-effect (Event.UnlockRequest session r) what is =
      request-queued c n (suc n) s wide r _ (omega (arith, length-left session (request_queue r s.requests), request-queue c n s.next_request s.requests r old.each_request))
  shape-effect (Event.Accept session r) what is = grind (arith, wide, request-put c n (suc n) s wide r, same-lists c, asked r)
  shape-effect (Event.Decline session r why) what is =
      after_given-keeps (Shaped c n (suc n)) (launcher s session) s (decline_by s r why) wide (λ p who.
      after_found-keeps (Shaped c n (suc n)) (request_in r s.requests) s (declined s r why p) wide (λ request has.
      nodes-freed c n (suc n) _ (request-put c n (suc n) s wide r _
      (with_decline c request p why _ (asked r request has) (launcher-pool c n n s session p old (launcher-role s session p who)) (decline-first c s session r why what p request is who has))) r))
  shape-effect (Event.TakeReady session r number) what is = grind (arith, nat_tests, wide, take_ready-shape session r number, room_by, take_ready-room s session r number what)
  shape-effect (Event.Create session r) what is = grind (arith, nat_tests, wide, create-shape session r)
  shape-effect (Event.Start session number) what is = grind (arith, nat_tests, wide, set-deeds c n n (suc n) (same n), node-put c n (suc n) s wide number, one_start c (suc n) s.tick, starts-few c n n s, stands number, start-idle s session number what, all-change_at_to (Deeds n n) (Deeds n (suc n)) (wider-deeds n n n (suc n) (same n) (up n)))
  shape-effect (Event.Done session number attempt o) what is = grind (arith, nat_tests, wide, node-put c n (suc n) s wide number, after_launch c (suc n) s.tick o, stands number, done-flying s session number attempt what)
  shape-effect (Event.Fulfil session r) what is = grind (arith, nat_tests, wide, fulfils r, asked r)
  shape-effect (Event.LockNode session number) what is =
      node-queued c n (suc n) s wide number _ (omega (arith, length-joined session (node_queue number s.nodes), node-queue c n s.tick s.next_node s.nodes number old.each_node))
  shape-effect (Event.UnlockNode session number) what is =
      node-queued c n (suc n) s wide number _ (omega (arith, length-left session (node_queue number s.nodes), node-queue c n s.tick s.next_node s.nodes number old.each_node))
  shape-effect (Event.Acquire session j) what is =
      after_found-keeps (Shaped c n (suc n)) (slice_get c.jobs j.0) s (acquired s j) wide (λ job _.
      set-handles c n (suc n) s wide _ (handles-with j n job.semaphores s.handles old.handles))
  shape-effect (Event.Take session j) what is =
      after_found-keeps (Shaped c n (suc n)) (slice_get s.jobs j.0) s (take_for s j) wide (λ kept _.
      after_found-keeps (Shaped c n (suc n)) kept.request s (take_from s j kept) wide (λ r _.
      after_found-keeps (Shaped c n (suc n)) (request_in r s.requests) s (taken s j kept r) wide (λ request has.
      let asks : RequestKept c request = asked r request has in
      job-put c n (suc n) _
      (set-nodes c n (suc n) _ (request-removed c n (suc n) s wide r) (all_in_use s.tick request.nodes s.nodes)
      (let at_most = old.nodes in rw length-in_use (omega arith))
      (all-in_use (NodeShape c (suc n) s.tick s.next_node) s.tick (used_kept c (suc n) s.tick s.next_node) request.nodes s.nodes wide.each_node)) j _
      (record { nodes = rw length-map (omega (arith, asks.nodes, asks.labels)) }))))
  shape-effect (Event.EndNode session number as_what) what is = grind (arith, nat_tests, wide, set-jobs c n (suc n), node-put c n (suc n) s wide number, after_end c (suc n) s.tick as_what, stands number, all-change_first JobFits (is_marked number) (with_mark number) s.jobs (λ job fits. record { nodes = let at_most = fits.nodes in rw length-map at_most }) old.jobs)
  shape-effect (Event.Finish session j) what is = grind (arith, wide, job-put c n (suc n) s wide j, job-found c n n s old j)
  shape-effect (Event.Withdraw session j) what is =
      after_found-keeps (Shaped c n (suc n)) (slice_get s.jobs j.0) s (withdrawn s j) wide (λ kept there.
      job-put c n (suc n) _ (withdraws kept.request) j _ (record { nodes = (job-found c n n s old j kept there).nodes }))
  shape-effect (Event.Release session j) what is = grind (arith, nat_tests, wide, set-handles c n (suc n) s wide, handles-without j (suc n), wide.handles)
  shape-effect (Event.MarkDeleting session number) what is = grind (arith, nat_tests, wide, node-put c n (suc n) s wide number, stands number)
  shape-effect (Event.Gone session number) what is = grind (arith, nat_tests, wide, set-nodes c n (suc n) s wide, old.nodes, length-remove_first (λ (e : NodeEntry). e.id.0 == number.0) s.nodes, all-remove_first (NodeShape c (suc n) s.tick s.next_node) (λ e. e.id.0 == number.0) s.nodes wide.each_node)
  shape-effect (Event.Reset session r) what is = grind (arith, nat_tests, wide, nodes-freed c n (suc n), request-put c n (suc n) s wide r, asked r)
  shape-effect (Event.FreeNode session number) what is = grind (arith, nat_tests, wide, node-put c n (suc n) s wide number, stands number)
  shape-effect (Event.FailDeclined session r) what is = grind (arith, wide, request-put c n (suc n) s wide r, same-lists c, asked r)
  shape-effect (Event.Sweep session number x) what is = sweeps number x (is_wanted s number x)

-- # every state that a run leads to has its form, and fits

pub shape-next : (c : Configuration) → IsFitSite c → (n : ℕ) (s : State) (e : Event) → Shaped c n n s → Shaped c (suc n) (suc n) (next c s e)
shape-next c site n s e old =
    next-keeps (Shaped c (suc n) (suc n)) c s e (wider c n (suc n) n (suc n) (up n) (up n) s old)
    (λ what is. acted c n (suc n) (acting s e) (effect c s e) (shape-effect c site n s old e what is))

shape-after : (c : Configuration) → IsFitSite c → (n m : ℕ) (s : State) (journal : List Entry) → n + length journal ≡ m → Shaped c n n s → Shaped c m m (state_after c s journal)
shape-after c site n m s [] long old = let reached : n ≡ m = omega arith in subst (λ (k : ℕ). Shaped c k k s) reached old
shape-after c site n m s (entry ∷ journal) long old = shape-after c site (suc n) m (next c s entry.event) journal (omega arith) (shape-next c site n s entry.event old)

no_deeds_yet : Deeds 0 0 no_deeds
no_deeds_yet = record { acts = omega arith; starts = omega arith; strikes = omega arith }

shape-start : (c : Configuration) → Shaped c 0 0 (start c)
shape-start c = grind (
  arith,
  all-map (λ (jobs : List JobId). length jobs ≤ 0) (λ _. []) c.semaphores (λ _. omega arith),
  all-map JobFits (λ _. new_job) c.jobs (λ _. record { nodes = omega arith }),
  all-map (Deeds 0 0) (λ _. no_deeds) c.pools (λ _. no_deeds_yet),
  all-map (Deeds 0 0) (λ _. no_deeds) c.requesters (λ _. no_deeds_yet),
)

-- a run of n entries bounds every number by n
pub shape-Runs : (c : Configuration) (journal : List Entry) (s : State) → IsFitSite c → Runs c journal s → Shaped c (length journal) (length journal) s
shape-Runs c journal s site runs = subst (λ (t : State). Shaped c (length journal) (length journal) t) runs.ends (shape-after c site 0 (length journal) (start c) journal (omega arith) (shape-start c))

-- # every state that a run leads to fits

-- a pool that has not declined leaves room for its decline
decline-room : (c : Configuration) (request : RequestRecord) (p : PoolId) → IsFitSite c → RequestKept c request → p.0 < length c.pools → is_declined_by p request.declined ≡ false → length request.declined < 64
decline-room c request p site kept there first =
    let one : Declined = record { pool = p; reason = NeverFits } in
    omega (arith, site.pools, few decliner (length c.pools) (one ∷ request.declined) (there, kept.pools) (first, kept.differ))

role-fits : (m : ℕ) → m ≤ most → (deeds : RoleRecord) → Deeds m m deeds → RoleFits deeds
role-fits m bound deeds is = record { acts = omega (arith, is.acts); starts = omega (arith, is.starts); strikes = omega (arith, is.strikes) }

request-fits : (c : Configuration) (s : State) (m : ℕ) → IsFitSite c → m ≤ most → (e : RequestEntry) → RequestShape c m s.next_request e → RequestFits c s e
request-fits c s m site bound e is = grind (arith, nat_tests, decline-room)

node-fits : (c : Configuration) (s : State) (m : ℕ) → IsFitSite c → m ≤ most → (e : NodeEntry) → NodeShape c m s.tick s.next_node e → NodeFits s e
node-fits c s m site bound e is = grind (arith, nat_tests)

shape-fits : (c : Configuration) (s : State) (m : ℕ) → IsFitSite c → m ≤ most → Shaped c m m s → Fits c s
shape-fits c s m site bound is = grind (
  arith,
  site,
  all-weaker (λ (jobs : List JobId). length jobs ≤ m) (λ (jobs : List JobId). length jobs ≤ most) (λ jobs small. omega arith) s.handles is.handles,
  all-weaker (Deeds m m) RoleFits (role-fits m bound),
  all-weaker (RequestShape c m s.next_request) (RequestFits c s) (request-fits c s m site bound) s.requests is.each_request,
  all-weaker (NodeShape c m s.tick s.next_node) (NodeFits s) (node-fits c s m site bound) s.nodes is.each_node,
  λ (session : SessionId) (p : PoolId) (role : role_of session s ≡ Some (Launcher p)). launcher-pool c m m s session p is role,
  λ (session : SessionId) (p : PoolId) (role : role_of session s ≡ Some (Janitor p)). some-within c.pools p.0 _ refl (role-known c m m s session (Janitor p) is role),
  λ (session : SessionId) (q : RequesterId) (role : role_of session s ≡ Some (Requester q)). some-within c.requesters q.0 _ refl (role-known c m m s session (Requester q) is role),
)

pub Fits-Runs : (c : Configuration) (journal : List Entry) (s : State) → IsFitSite c → Runs c journal s → Fits c s
Fits-Runs c journal s site runs = shape-fits c s (length journal) site runs.short (shape-Runs c journal s site runs)

-- # a configuration that a text can have bounds all numbers of a run

-- ## rows by place

-- what each row implies holds for the one at a place
row_at : {T : Type 0} (Q : T → Type 0) (P : List T → T → Type 0) → ((e : List T) (x : T) → P e x → Q x) → (earlier xs : List T) → EachAfter P earlier xs → (i : ℕ) → IfSome (slice_get xs i) Q
row_at Q P says earlier [] each i = tt
row_at Q P says earlier (x ∷ xs) each zero = says earlier x each.0
row_at Q P says earlier (x ∷ xs) each (suc i) = row_at Q P says (earlier ++ x ∷ []) xs each.1 i

all_at : {T : Type 0} (Q : T → Type 0) (xs : List T) → All Q xs → (i : ℕ) → IfSome (slice_get xs i) Q
all_at Q [] all i = tt
all_at Q (x ∷ xs) all zero = All-head Q x xs all
all_at Q (x ∷ xs) all (suc i) = all_at Q xs (All-tail Q x xs all) i

-- what each row implies holds for the first that passes
row_found : {T : Type 0} (Q : T → Type 0) (P : List T → T → Type 0) → ((e : List T) (x : T) → P e x → Q x) → (test : T → Bool) (earlier xs : List T) → EachAfter P earlier xs → IfSome (find test xs) Q
row_found Q P says test earlier [] each = tt
row_found Q P says test earlier (x ∷ xs) each =
    by_bool (λ (b : Bool). IfSome (cond b (Some x) (find test xs)) Q) (test x) (λ _. says earlier x each.0) (λ _. row_found Q P says test (earlier ++ x ∷ []) xs each.1)

-- ## the offers of a pool

-- a label that neither an earlier offer nor this one has
one_more_offer : (k : ℕ) (e : List Offer) (o : Offer) → list_any (λ x. k == x.label.0) (e ++ o ∷ []) ≡ false → (list_any (λ x. k == x.label.0) e ≡ false) × ((k == o.label.0) ≡ false)
one_more_offer k e o none = grind (arith, nat_tests, list_any-append (λ (x : Offer). k == x.label.0) e (o ∷ []))

-- if an earlier offer has the label, none of the others has it
later_offers : (labels l : ℕ) (e offers : List Offer) → ((k : ℕ) → list_any (λ x. k == x.label.0) e ≡ false → (k == l) ≡ false) → EachAfter (IsOffer labels) e offers → list_any (λ x. x.label.0 == l) offers ≡ false
later_offers labels l e [] member-there each = refl
later_offers labels l e (o ∷ offers) member-there each =
    let first : (o.label.0 == l) ≡ false = member-there o.label.0 (not-true _ each.0.new) in
    let rest : list_any (λ x. x.label.0 == l) offers ≡ false = later_offers labels l (e ++ o ∷ []) offers (λ k none. member-there k (one_more_offer k e o none).0) each.1 in
    rw (first, rest) refl

-- no later offer has an offer's label, since each later one has a new label
all_apart : (labels : ℕ) (e offers : List Offer) → EachAfter (IsOffer labels) e offers → AllApart offers
all_apart labels e [] each = tt
all_apart labels e (o ∷ offers) each =
    (later_offers labels o.label.0 (e ++ o ∷ []) offers (λ k none. (one_more_offer k e o none).1) each.1, all_apart labels (e ++ o ∷ []) offers each.1)

-- what the one found has, or else the value that stands for none
or_else : {X Y : Type 0} (P : Y → Type 0) (f : X → Y) (none : Y) (o : Option X) → P none → IfSome o (λ x. P (f x)) → P (option_map_or f o none)
or_else P f none None of_none each = of_none
or_else P f none (Some x) of_none each = each

pool_offers : (labels : ℕ) (e : List Pool) (p : Pool) → StandsByOwner (λ (x : Pool). x.provider) (IsPool labels) e p → OffersFit p.offers
pool_offers labels e p stands = record { few = stands.own.few_offers; apart = all_apart labels [] p.offers stands.own.offers }

-- ## the bounds

no_amount : AmountFits nothing
no_amount = record { instances = omega arith; cores = omega arith; ram = omega arith }

offer_fits : (labels : ℕ) (e : List Offer) (o : Offer) → IsOffer labels e o → AmountFits o.amount
offer_fits labels e o is = record { instances = omega (arith, is.instances); cores = omega (arith, is.cores); ram = omega (arith, is.ram) }

pool_amount : (labels : ℕ) (test : Offer → Bool) (o : Option Pool) → IfSome o (λ x. EachAfter (IsOffer labels) [] x.offers) →
    AmountFits (option_map_or (λ x. x.amount) (find test (option_map_or (λ x. x.offers) o [])) nothing)
pool_amount labels test None offers = no_amount
pool_amount labels test (Some pool) offers = or_else AmountFits (λ x. x.amount) nothing (find test pool.offers) no_amount (row_found (λ x. AmountFits x.amount) (IsOffer labels) (offer_fits labels) test [] pool.offers offers)

pool_retries : (providers : List Provider) → EachAfter IsProvider [] providers → (o : Option Pool) →
    option_map_or (λ x. x.retries) (option_and_then (λ (x : Pool). slice_get providers x.provider) o) 0 ≤ 16
pool_retries providers each None = omega arith
pool_retries providers each (Some pool) = or_else (λ (tries : ℕ). tries ≤ 16) (λ x. x.retries) 0 (slice_get providers pool.provider) (omega arith) (row_at (λ (x : Provider). x.retries ≤ 16) IsProvider (λ e x is. is.retries) [] providers each pool.provider)

job_row : (labels semaphores tenants : ℕ) (e : List Job) (j : Job) → StandsByOwner (λ (x : Job). x.requester.0) (IsJob labels semaphores tenants) e j → JobRowFits j
job_row labels semaphores tenants e j stands = record { labels = stands.own.few_labels; semaphores = stands.own.few_taken }

one_retry : (c : Configuration) → IsSound c → (p : PoolId) → p.0 < length c.pools → 0 < retries_of c p
one_retry c sound p within =
    let pool = member-there c.pools p.0 within in
    let owned : pool.0.provider < length c.providers = subst (λ (o : Option Pool). IfSome o (λ x. x.provider < length c.providers)) pool.1 (all_at (λ (x : Pool). x.provider < length c.providers) c.pools sound.supply.owned p.0) in
    let provider = member-there c.providers pool.0.provider owned in
    let tries : 1 ≤ provider.0.retries = subst (λ (o : Option Provider). IfSome o (λ x. 1 ≤ x.retries)) provider.1 (row_at (λ (x : Provider). 1 ≤ x.retries) IsProvider (λ e x is. is.some_try) [] c.providers sound.supply.each_provider pool.0.provider) in
    rw (pool.1, provider.1) (omega arith)

pub sound_fits : (c : Configuration) → IsSound c → IsFitSite c
sound_fits c sound = record {
  amounts = λ p l. pool_amount (length c.labels) (λ o. o.label.0 == l.0) (slice_get c.pools p.0)
      (row_at (λ (x : Pool). EachAfter (IsOffer (length c.labels)) [] x.offers) (StandsByOwner (λ (x : Pool). x.provider) (IsPool (length c.labels))) (λ e x stands. stands.own.offers) [] c.pools sound.supply.each_pool p.0);
  retries = λ p. pool_retries c.providers sound.supply.each_provider (slice_get c.pools p.0);
  some_retry = one_retry c sound;
  ready_ages = λ l. or_else (λ (age : ℕ). age ≤ 1000000) (λ x. x.max_ready_age) 0 (slice_get c.labels l.0) (omega arith) (row_at (λ (x : Label). x.max_ready_age ≤ 1000000) IsLabel (λ e x is. is.max_ready_age) [] c.labels sound.labels l.0);
  hold_age = sound.max_hold_age;
  offers = λ p. or_else OffersFit (λ x. x.offers) [] (slice_get c.pools p.0) (record { few = omega arith; apart = tt })
      (row_at (λ (x : Pool). OffersFit x.offers) (StandsByOwner (λ (x : Pool). x.provider) (IsPool (length c.labels))) (pool_offers (length c.labels)) [] c.pools sound.supply.each_pool p.0);
  job_rows = λ j job is. subst (λ (o : Option Job). IfSome o JobRowFits) is (row_at JobRowFits (StandsByOwner (λ (x : Job). x.requester.0) (IsJob (length c.labels) (length c.semaphores) (length c.tenants))) (job_row (length c.labels) (length c.semaphores) (length c.tenants)) [] c.jobs sound.demand.each_job j.0);
  pools = sound.supply.few_pools;
}
