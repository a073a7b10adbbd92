-- what the acceptance of a planned event says of the state, and that states which agree at its spots accept it alike
use Rattle.np_planned.proofs.Prelude.{Agree, AllByRecursion, Answer, Bool, Configuration, Done, Err, Event, HasText, IfSome, Invariant, IsGood, IsLive, IsLiveQueue, IsNodeId, IsQueued, IsRequest, IsServed, IsSession, IsSessionRole, IsStored, LabelId, List, NodeEntry, NodeId, NodeRecord, None, Ok, Option, Place, PoolId, Reason, Refusal, RequestEntry, RequestId, RequestRecord, RequestState, Result, Role, SessionFacts, SessionId, Some, Spot, SpotsDecide, StandsIn, State, TreeState, all-find, and_parts, ap, arith, by_bool, by_node_holder, by_registrant, by_request_holder, cond, eqb-true, false, find, found, found-node, found-ok, found-some, from-map_some, holder-queued, in_pending_by, in_state_for, is_building, is_failed_node, is_filled, is_node_it, is_ok, is_pending, is_pending_by, is_planned, is_pool, is_queued, is_request_it, is_session, is_session_of, is_true, judge, kept_of, launcher, launcher-maker, launcher-role, length, list_any, listed, maker, nat_tests, need, need-ok, node_at, node_entry, node_holder, node_in, node_queue, none_missing, not, not_declined, of_node, of_nodes, of_pool, of_reason, of_request, of_role, option_map, option_map_or, refl, registered, request-good, request_at, request_entry, request_holder, request_in, request_queue, role_of, session-sound, session_of, slice_get, slice_get_within, spots_of, starts_of, subst, sym, true, unfilled, unlock_request_as, wrong_node, wrong_request, ℕ, [], ◌&&◌, ◌*◌, ◌++◌, ◌+◌, ◌-◌, ◌<◌, ◌==◌, ◌>>=◌, ◌>>◌, ◌^◌, ◌||◌, ◌∷◌, ◌≡◌, ◌≤◌}

-- # rows of tests of which all pass

-- something was found, and the rest passes
pub record Passes {A B E : Type 0} (r : Result A E) (rest : A → Result B E) : Type 0 where
  pub found : A
  pub is : r ≡ Ok found
  pub passes : is_ok (rest found) ≡ true

pub passes-of : {A B E : Type 0} (r : Result A E) (rest : A → Result B E) → is_ok (r >>= rest) ≡ true → Passes r rest
passes-of (Ok a) rest ok = record { found = a; is = refl; passes = ok }
passes-of (Err refusal) rest ok = absurd cc

-- what is found twice passes where the rest does
by-found : {A B E : Type 0} (r q : Result A E) (rest other : A → Result B E) → r ≡ q → ((a : A) → r ≡ Ok a → is_ok (rest a) ≡ true → is_ok (other a) ≡ true) → is_ok (r >>= rest) ≡ true → is_ok (q >>= other) ≡ true
by-found (Ok a) q rest other same step ok = rw (sym same) (step a refl ok)
by-found (Err refusal) q rest other same step ok = absurd cc

-- what is answered in the end plays no part
last-ok : {B E : Type 0} (first second third : Result (Unit {0}) E) (x y : B) → is_ok (first >> (second >> (third >> Ok x))) ≡ true → is_ok (first >> (second >> (third >> Ok y))) ≡ true
last-ok (Ok a) (Ok b) (Ok d) x y ok = refl
last-ok _ _ _ x y ok = absurd cc

-- a test and the rest
both-ok : {B E : Type 0} (first : Result (Unit {0}) E) (rest : Result B E) → is_ok (first >> rest) ≡ true → (is_ok first ≡ true) × (is_ok rest ≡ true)
both-ok (Ok a) rest ok = (refl, ok)
both-ok (Err refusal) rest ok = absurd cc

need-true : {E : Type 0} (b : Bool) (refusal : E) → is_ok (need b refusal) ≡ true → b ≡ true
need-true b refusal ok = grind arith

-- # a planned event that is accepted is accepted in each state that agrees at its spots

module _ (c : Configuration) (s u : State) (x : SessionId) (r : RequestId) where
  -- a launcher's event over a request
  by-asked : (rest : List Spot) (judged other : PoolId → RequestRecord → Answer) → Agree s u (Spot.Session x ∷ of_role (role_of x s) ++ of_request r ++ rest)
      → ((p : PoolId) (request : RequestRecord) → registered p s.registrations ≡ registered p u.registrations → request_queue r s.requests ≡ request_queue r u.requests → request_in r s.requests ≡ Some request → Agree s u rest → is_ok (judged p request) ≡ true → is_ok (other p request) ≡ true)
      → is_ok (launcher s x >>= λ p. request_at s r >>= judged p) ≡ true → is_ok (launcher u x >>= λ p. request_at u r >>= other p) ≡ true
  by-asked rest judged other agree step ok =
      let session : session_of x s ≡ session_of x u = agree.0 in
      by-found (launcher s x) (launcher u x) (λ p. request_at s r >>= judged p) (λ p. request_at u r >>= other p) (rw session refl)
      (λ p known.
      let all : Agree s u (Spot.Launcher p ∷ of_request r ++ rest) = subst (λ (o : Option Role). Agree s u (of_role o ++ of_request r ++ rest)) (launcher-role s x p known) agree.1 in
      by-found (request_at s r) (request_at u r) (judged p) (other p) (ap (λ (o : Option RequestRecord). found o Refusal.NoRequest) all.1.0)
      (λ request there. step p request all.0 all.1.1.0 (found-some (request_in r s.requests) Refusal.NoRequest request there) all.1.1.1))
      ok

  unlock-as : Agree s u (of_request r) → (role : Role) → is_ok (unlock_request_as s x r role) ≡ true → is_ok (unlock_request_as u x r role) ≡ true
  unlock-as agree (Role.Requester q) ok = absurd cc
  unlock-as agree Role.Reaper ok = absurd cc
  unlock-as agree role ok =
      let request : request_in r s.requests ≡ request_in r u.requests = agree.0 in
      let queue : request_queue r s.requests ≡ request_queue r u.requests = agree.1.0 in
      rw (sym request, sym queue) ok

  true-same : (p : PoolId) (request : RequestRecord) (why : Reason) → Agree s u (of_reason why) → is_true c u p request why ≡ is_true c s p request why
  true-same p request (Reason.Spent n) agree = let node : node_in n s.nodes ≡ node_in n u.nodes = agree.0 in rw node refl
  true-same p request other agree = refl

  filled-by : (p : PoolId) (l : LabelId) (o f : Option NodeEntry) → option_map (λ (e : NodeEntry). e.kept) o ≡ option_map (λ (e : NodeEntry). e.kept) f → option_map_or (λ (e : NodeEntry). e.queue) o [] ≡ option_map_or (λ (e : NodeEntry). e.queue) f [] → is_filled p x r l o ≡ is_filled p x r l f
  filled-by p l None None kept queue = refl
  filled-by p l (Some e) (Some f) kept queue =
      let record_is : e.kept ≡ f.kept = cc in
      let queue_is : e.queue ≡ f.queue = queue in
      rw (record_is, queue_is) refl
  filled-by p l _ _ kept queue = absurd cc

  unfilled-same : (p : PoolId) (labels : List LabelId) (numbers : List NodeId) → Agree s u (of_nodes numbers) → unfilled p x r u.nodes labels numbers ≡ unfilled p x r s.nodes labels numbers
  unfilled-same p [] numbers agree = refl
  unfilled-same p (l ∷ labels) [] agree = ap (λ n. 1 + n) (unfilled-same p labels [] agree)
  unfilled-same p (l ∷ labels) (n ∷ numbers) agree =
      let here : is_filled p x r l (node_entry n s.nodes) ≡ is_filled p x r l (node_entry n u.nodes) = filled-by p l (node_entry n s.nodes) (node_entry n u.nodes) agree.0 agree.1.0 in
      rw (sym here, unfilled-same p labels numbers agree.1.1) refl

pub spots-decide : SpotsDecide
spots-decide c s u (Event.Start x n) planned agree ok =
    let session : session_of x s ≡ session_of x u = agree.0 in
    let queue : node_queue n s.nodes ≡ node_queue n u.nodes = agree.1.1.0 in
    by-found (launcher s x) (launcher u x) _ _ (rw session refl)
    (λ p known. by-found (node_at s n) (node_at u n) _ _ (ap (λ (o : Option NodeRecord). found o Refusal.NoNode) agree.1.0) (λ k there passed. last-ok (of_pool p k) (by_node_holder u n x) (need (is_building k.state && not k.in_flight) (wrong_node k)) (Done.Started (k.attempts + 1) (starts_of p s + 1)) (Done.Started (k.attempts + 1) (starts_of p u + 1)) (rw (sym queue) passed)))
    ok
spots-decide c s u (Event.UnlockNode x n) planned agree ok =
    let session : session_of x s ≡ session_of x u = agree.0 in
    let node : node_in n s.nodes ≡ node_in n u.nodes = agree.1.0 in
    let queue : node_queue n s.nodes ≡ node_queue n u.nodes = agree.1.1.0 in
    rw (sym session, sym node, sym queue) ok
spots-decide c s u (Event.UnlockRequest x r) planned agree ok =
    let session : session_of x s ≡ session_of x u = agree.0 in
    by-found (maker s x) (maker u x) (unlock_request_as s x r) (unlock_request_as u x r) (rw session refl) (λ role known. unlock-as c s u x r agree.1 role) ok
spots-decide c s u (Event.Decline x r why) planned agree ok =
    by-asked c s u x r (of_reason why) _ _ agree (λ p request registrant queue there rest passed. let reason = true-same c s u x r p request why rest in rw (sym registrant, sym queue, reason) passed) ok
spots-decide c s u (Event.TakeReady x r n) planned agree ok =
    by-asked c s u x r (of_node n) _ _ agree
    (λ p request registrant queue there rest passed.
    let node : node_in n s.nodes ≡ node_in n u.nodes = rest.0 in
    let waits : node_queue n s.nodes ≡ node_queue n u.nodes = rest.1.0 in
    rw (sym registrant, sym queue, sym node, sym waits) passed)
    ok
spots-decide c s u (Event.Fulfil x r) planned agree ok =
    by-asked c s u x r (of_nodes (listed r s)) _ _ agree
    (λ p request registrant queue there rest passed.
    let nodes = subst (λ (o : Option RequestRecord). Agree s u (of_nodes (option_map_or (λ (k : RequestRecord). k.nodes) o []))) there rest in
    let filled = unfilled-same c s u x r p request.labels request.nodes nodes in
    rw (sym registrant, sym queue, filled) passed)
    ok
spots-decide c s u _ planned agree ok = absurd cc

-- # what is at the spots of an accepted event

-- a session that may make an event
pub record IsMaker (s : State) (x : SessionId) (role : Role) : Type 0 where
  pub facts : SessionFacts
  pub there : session_of x s ≡ Some facts
  pub live : facts.live ≡ true
  pub is : facts.role ≡ role

maker-is : (s : State) (x : SessionId) (role : Role) → maker s x ≡ Ok role → IsMaker s x role
maker-is s x role is =
    let facts = found-ok (session_of x s) Refusal.NoSession (λ (f : SessionFacts). need f.live Refusal.Expired >> (need (not f.mute) Refusal.Crashed >> Ok f.role)) role is in
    let first = need-ok facts.0.live Refusal.Expired (need (not facts.0.mute) Refusal.Crashed >> Ok facts.0.role) role facts.2 in
    let second = need-ok (not facts.0.mute) Refusal.Crashed (Ok facts.0.role) role first.1 in
    let last : Ok facts.0.role ≡ Ok role = second.1 in
    record { facts = facts.0; there = facts.1; live = first.0; is = cc }

-- a node is there
abbrev pub HasNode : State → NodeId → Type 0
HasNode s n = (k : NodeRecord) × (node_in n s.nodes ≡ Some k)

-- what each of the spots is for has a path and is there; a node that is kept for a request may be there only in a reached state
pub data Stand (c : Configuration) (s : State) : List Spot → Type 0 where
  at_end : Stand c s []
  at_pool : (p : PoolId) (rest : List Spot) → IsGood (Place.Launcher p) → Stand c s rest → Stand c s (Spot.Launcher p ∷ rest)
  at_request : (r : RequestId) (rest : List Spot) (k : RequestRecord) → HasText r → request_in r s.requests ≡ Some k → Stand c s rest → Stand c s (Spot.Request r ∷ Spot.RequestLock r ∷ rest)
  at_node : (n : NodeId) (rest : List Spot) → n.0 < 2 ^ 32 → (Invariant c s → HasNode s n) → Stand c s rest → Stand c s (Spot.Node n ∷ Spot.NodeLock n ∷ rest)
  at_reason : (n : NodeId) → n.0 < 2 ^ 32 → Stand c s (Spot.Node n ∷ [])

-- the spots of an accepted event: its maker's, who waits at a lock of the others, and what stands at these
pub record IsMade (c : Configuration) (s : State) (spots : List Spot) : Type 0 where
  pub maker : SessionId
  pub role : Role
  pub known : IsMaker s maker role
  pub rest : List Spot
  pub are : spots ≡ Spot.Session maker ∷ rest
  pub stand : Stand c s rest
  pub few : length rest ≤ 67
  pub lives : (u : State) → IsQueued u → Agree s u rest → IsLive u maker

-- ## live sessions

same-session : (x y : SessionId) → (y.0 == x.0) ≡ true → y ≡ x
same-session x y same = let number : y.0 ≡ x.0 = grind (arith, nat_tests) in ap (λ (n : ℕ). record { 0 = n }) number

-- one of a queue of live sessions is live
live-queued : (u : State) (x : SessionId) (queue : List SessionId) → AllByRecursion (IsLive u) queue → is_queued x queue ≡ true → IsLive u x
live-queued u x [] live queued = absurd cc
live-queued u x (y ∷ queue) live queued =
    by_bool (λ b. (b || is_queued x queue) ≡ true → IsLive u x) (is_session y x) (λ is _. subst (IsLive u) (same-session x y is) live.0) (λ is rest. live-queued u x queue live.1 rest) queued

-- the queue of whatever entry
queue-live : {E : Type 0} (u : State) (queue : E → List SessionId) (p : E → Bool) (entries : List E) → AllByRecursion (λ e. IsLiveQueue u (queue e)) entries → AllByRecursion (IsLive u) (option_map_or queue (find p entries) [])
queue-live u queue p [] all = tt
queue-live u queue p (e ∷ entries) all =
    by_bool (λ b. AllByRecursion (IsLive u) (option_map_or queue (cond b (Some e) (find p entries)) [])) (p e) (λ _. all.0.live) (λ _. queue-live u queue p entries all.1)

-- ## ids that have a path

module _ (c : Configuration) (s : State) (t : TreeState) (stored : IsStored c s t) where
  pub session-known : (x : SessionId) (facts : SessionFacts) → session_of x s ≡ Some facts → IsGood (Place.Session x)
  session-known x facts there =
      by_bool (λ b. cond b None (slice_get s.sessions (x.0 - 1)) ≡ Some facts → x.0 < 2 ^ 32) (x.0 == 0) (λ _ none. absurd cc)
      (λ _ some. omega (arith, slice_get_within s.sessions (x.0 - 1) facts some, stored.carried.good.sessions))
      there

  -- the pool of a launcher
  pool-known : (x : SessionId) (p : PoolId) → IsMaker s x (Role.Launcher p) → IsGood (Place.Launcher p)
  pool-known x p known =
      let sound : IsSessionRole known.facts.role = subst (λ (o : Option SessionFacts). IfSome (option_map kept_of o) IsSession) known.there (session-sound c s t stored x) in
      subst IsSessionRole known.is sound

  request-known : (r : RequestId) (request : RequestRecord) → request_in r s.requests ≡ Some request → HasText r × IsRequest request
  request-known r request is =
      let e = from-map_some (λ (e : RequestEntry). e.kept) (request_entry r s.requests) request is in
      (request-good r s.requests e.0 stored.carried.good.requests e.1, subst IsRequest e.2 (all-find (λ (x : RequestEntry). IsRequest x.kept) (is_request_it r) s.requests e.0 stored.carried.spelled.requests e.1))

  node-known : (n : NodeId) → HasNode s n → n.0 < 2 ^ 32
  node-known n has =
      let e = from-map_some (λ (e : NodeEntry). e.kept) (node_entry n s.nodes) has.0 has.1 in
      subst (λ (id : NodeId). IsGood (Place.Node id)) (found-node n s.nodes e.0 e.1) (all-find (λ (x : NodeEntry). IsGood (Place.Node x.id)) (is_node_it n) s.nodes e.0 stored.carried.good.nodes e.1)

  -- ## the spots of each event

  request-lives : (x : SessionId) (r : RequestId) → is_ok (by_request_holder s r x) ≡ true → (u : State) → IsQueued u → request_queue r s.requests ≡ request_queue r u.requests → IsLive u x
  request-lives x r holds u live same =
      let first = holder-queued x (request_queue r s.requests) (need-true (is_session_of x (request_holder r s.requests)) Refusal.NotHeld holds) in
      live-queued u x (request_queue r u.requests) (queue-live u (λ (e : RequestEntry). e.queue) (is_request_it r) u.requests live.at_requests) (subst (λ (queue : List SessionId). is_queued x queue ≡ true) same first)

  -- an event of a session that waits for a node, or for a request
  at-node : (x : SessionId) (role : Role) (n : NodeId) (k : NodeRecord) → IsMaker s x role → node_at s n ≡ Ok k → is_queued x (node_queue n s.nodes) ≡ true → IsMade c s (Spot.Session x ∷ of_node n)
  at-node x role n k known is queued =
      let has : HasNode s n = (k, found-some (node_in n s.nodes) Refusal.NoNode k is) in
      record {
        maker = x;
        role = role;
        known = known;
        rest = of_node n;
        are = refl;
        stand = at_node n [] (node-known n has) (λ _. has) at_end;
        few = omega arith;
        lives = λ u live agree.
            live-queued u x (node_queue n u.nodes) (queue-live u (λ (e : NodeEntry). e.queue) (is_node_it n) u.nodes live.at_nodes)
            (subst (λ (queue : List SessionId). is_queued x queue ≡ true) agree.1.0 queued);
      }

  at-request : (x : SessionId) (r : RequestId) (request : RequestRecord) (role : Role) → IsMaker s x role → request_at s r ≡ Ok request → is_ok (by_request_holder s r x) ≡ true → IsMade c s (Spot.Session x ∷ of_request r)
  at-request x r request role known is holds =
      let there = found-some (request_in r s.requests) Refusal.NoRequest request is in
      record {
        maker = x;
        role = role;
        known = known;
        rest = of_request r;
        are = refl;
        stand = at_request r [] request (request-known r request there).0 there at_end;
        few = omega arith;
        lives = λ u live agree. request-lives x r holds u live agree.1.0;
      }

  -- a launcher's event over a request that it holds
  at-asked : (x : SessionId) (r : RequestId) (rest : List Spot) (judged : PoolId → RequestRecord → Answer) → ((p : PoolId) (request : RequestRecord) → request_in r s.requests ≡ Some request → is_ok (judged p request) ≡ true → is_ok (by_request_holder s r x) ≡ true)
      → ((p : PoolId) (request : RequestRecord) → request_in r s.requests ≡ Some request → is_ok (judged p request) ≡ true → Stand c s rest × (length rest ≤ 64))
      → is_ok (launcher s x >>= λ p. request_at s r >>= judged p) ≡ true → IsMade c s (Spot.Session x ∷ of_role (role_of x s) ++ of_request r ++ rest)
  at-asked x r rest judged held stands ok =
      let pool = passes-of (launcher s x) (λ p. request_at s r >>= judged p) ok in
      let request = passes-of (request_at s r) (judged pool.found) pool.passes in
      let known = maker-is s x (Role.Launcher pool.found) (launcher-maker s x pool.found pool.is) in
      let there = found-some (request_in r s.requests) Refusal.NoRequest request.found request.is in
      let stand = stands pool.found request.found there request.passes in
      subst (λ (o : Option Role). IsMade c s (Spot.Session x ∷ of_role o ++ of_request r ++ rest)) (sym (launcher-role s x pool.found pool.is))
      (record {
        maker = x;
        role = Role.Launcher pool.found;
        known = known;
        rest = Spot.Launcher pool.found ∷ of_request r ++ rest;
        are = refl;
        stand = at_pool pool.found (of_request r ++ rest) (pool-known x pool.found known) (at_request r rest request.found (request-known r request.found there).0 there stand.0);
        few = omega (arith, stand.1);
        lives = λ u live agree. request-lives x r (held pool.found request.found there request.passes) u live agree.1.1.0;
      })

  held : {B : Type 0} (x : SessionId) (p : PoolId) (r : RequestId) (rest : Result B Refusal) → is_ok (by_registrant s p x >> (by_request_holder s r x >> rest)) ≡ true → is_ok (by_request_holder s r x) ≡ true
  held x p r rest ok = (both-ok (by_request_holder s r x) rest (both-ok (by_registrant s p x) _ ok).1).0

  later : {B : Type 0} (x : SessionId) (p : PoolId) (r : RequestId) (rest : Result B Refusal) → is_ok (by_registrant s p x >> (by_request_holder s r x >> rest)) ≡ true → is_ok rest ≡ true
  later x p r rest ok = (both-ok (by_request_holder s r x) rest (both-ok (by_registrant s p x) _ ok).1).1

  unlock-made : (x : SessionId) (r : RequestId) (role : Role) → IsMaker s x role → is_ok (unlock_request_as s x r role) ≡ true → IsMade c s (Spot.Session x ∷ of_request r)
  unlock-made x r (Role.Launcher p) known ok = let request = passes-of (request_at s r) _ ok in at-request x r request.found (Role.Launcher p) known request.is (both-ok (by_request_holder s r x) _ request.passes).0
  unlock-made x r (Role.Janitor p) known ok = let request = passes-of (request_at s r) _ ok in at-request x r request.found (Role.Janitor p) known request.is (both-ok (by_request_holder s r x) _ request.passes).0
  unlock-made x r other known ok = absurd cc

  -- the node of a reason that is true
  reason-stands : (p : PoolId) (request : RequestRecord) (why : Reason) → is_true c s p request why ≡ true → Stand c s (of_reason why) × (length (of_reason why) ≤ 64)
  reason-stands p request (Reason.Spent n) is =
      (at_reason n (node-known n (spent (node_in n s.nodes) refl (and_parts (list_any (λ other. other.0 == n.0) request.nodes) (option_map_or (λ (k : NodeRecord). is_failed_node k.state) (node_in n s.nodes) false) is).1)), omega arith) where
        spent : (o : Option NodeRecord) → node_in n s.nodes ≡ o → option_map_or (λ (k : NodeRecord). is_failed_node k.state) o false ≡ true → HasNode s n
        spent None there is = absurd cc
        spent (Some k) there is = (k, there)
  reason-stands p request other is = (at_end, omega arith)

  -- the nodes of a request that is complete
  filled-there : (p : PoolId) (x : SessionId) (r : RequestId) (l : LabelId) (n : NodeId) (o : Option NodeEntry) → node_entry n s.nodes ≡ o → is_filled p x r l o ≡ true → HasNode s n
  filled-there p x r l n None there is = absurd cc
  filled-there p x r l n (Some e) there is = (e.kept, ap (option_map (λ (k : NodeEntry). k.kept)) there)

  nodes-there : (p : PoolId) (x : SessionId) (r : RequestId) (labels : List LabelId) (numbers : List NodeId) → length numbers ≤ length labels → unfilled p x r s.nodes labels numbers ≡ 0 → AllByRecursion (HasNode s) numbers
  nodes-there p x r labels [] few none = tt
  nodes-there p x r [] (n ∷ numbers) few none = absurd (omega arith)
  nodes-there p x r (l ∷ labels) (n ∷ numbers) few none =
      by_bool (λ b. cond b 0 1 + unfilled p x r s.nodes labels numbers ≡ 0 → AllByRecursion (HasNode s) (n ∷ numbers)) (is_filled p x r l (node_entry n s.nodes))
      (λ is left. (filled-there p x r l n (node_entry n s.nodes) refl is, nodes-there p x r labels numbers (omega arith) (omega arith)))
      (λ _ left. absurd (omega arith))
      none

  is-pending : (state : RequestState) → is_pending state ≡ true → state ≡ RequestState.Pending
  is-pending state is = grind arith

  -- one that is pending has no more nodes than labels
  complete : (x : SessionId) (p : PoolId) (r : RequestId) (request : RequestRecord) → request_in r s.requests ≡ Some request → is_ok (in_pending_by p request >> (none_missing (unfilled p x r s.nodes request.labels request.nodes) >> Ok Done.Plain)) ≡ true → Invariant c s → AllByRecursion (HasNode s) request.nodes
  complete x p r request there ok holds =
      let tests = both-ok (in_pending_by p request) _ ok in
      let state = (and_parts (is_pending request.state) (is_pool p request.pool) (need-true (is_pending_by p request) (wrong_request request) tests.0)).0 in
      let none = need-true (unfilled p x r s.nodes request.labels request.nodes == 0) _ (both-ok (none_missing (unfilled p x r s.nodes request.labels request.nodes)) _ tests.1).0 in
      let served : IsServed s r request = subst (StandsIn s r request) (is-pending request.state state) (holds.owned.requests r request there) in
      nodes-there p x r request.labels request.nodes served.few (eqb-true (unfilled p x r s.nodes request.labels request.nodes) 0 none)

  nodes-stand : (numbers : List NodeId) → AllByRecursion IsNodeId numbers → (Invariant c s → AllByRecursion (HasNode s) numbers) → Stand c s (of_nodes numbers) × (length (of_nodes numbers) ≡ 2 * length numbers)
  nodes-stand [] good all = (at_end, refl)
  nodes-stand (n ∷ numbers) good all =
      let rest = nodes-stand numbers good.1 (λ holds. (all holds).1) in
      (at_node n (of_nodes numbers) good.0 (λ holds. (all holds).0) rest.0, omega (arith, rest.1))

  pub made : (e : Event) → is_planned e ≡ true → is_ok (judge c s e) ≡ true → IsMade c s (spots_of s e)
  made (Event.Start x n) planned ok =
      let pool = passes-of (launcher s x) _ ok in
      let k = passes-of (node_at s n) _ pool.passes in
      let holds = (both-ok (by_node_holder s n x) _ (both-ok (of_pool pool.found k.found) _ k.passes).1).0 in
      at-node x (Role.Launcher pool.found) n k.found (maker-is s x (Role.Launcher pool.found) (launcher-maker s x pool.found pool.is)) k.is
      (holder-queued x (node_queue n s.nodes) (need-true (is_session_of x (node_holder n s.nodes)) Refusal.NotHeld holds))
  made (Event.UnlockNode x n) planned ok =
      let makes = passes-of (maker s x) _ ok in
      let k = passes-of (node_at s n) _ makes.passes in
      at-node x makes.found n k.found (maker-is s x makes.found makes.is) k.is
      (need-true (is_queued x (node_queue n s.nodes)) Refusal.NotHeld (both-ok (need (is_queued x (node_queue n s.nodes)) Refusal.NotHeld) _ k.passes).0)
  made (Event.UnlockRequest x r) planned ok =
      let makes = passes-of (maker s x) (unlock_request_as s x r) ok in
      unlock-made x r makes.found (maker-is s x makes.found makes.is) makes.passes
  made (Event.Decline x r why) planned ok =
      at-asked x r (of_reason why) _ (λ p request there passed. held x p r _ passed)
      (λ p request there passed.
      let rest = (both-ok (not_declined p request) _ (both-ok (in_state_for p request why) _ (later x p r _ passed)).1).1 in
      reason-stands p request why (need-true (is_true c s p request why) Refusal.FalseReason (both-ok (need (is_true c s p request why) Refusal.FalseReason) _ rest).0))
      ok
  made (Event.TakeReady x r n) planned ok =
      at-asked x r (of_node n) _
      (λ p request there passed. let k = passes-of (node_at s n) _ passed in held x p r _ k.passes)
      (λ p request there passed.
      let k = passes-of (node_at s n) _ passed in
      let has : HasNode s n = (k.found, found-some (node_in n s.nodes) Refusal.NoNode k.found k.is) in
      (at_node n [] (node-known n has) (λ _. has) at_end, omega arith))
      ok
  made (Event.Fulfil x r) planned ok =
      at-asked x r (of_nodes (listed r s)) _ (λ p request there passed. held x p r _ passed)
      (λ p request there passed.
      let known = (request-known r request there).1 in
      let nodes = nodes-stand request.nodes known.nodes (complete x p r request there (later x p r _ passed)) in
      subst (λ (o : Option RequestRecord). Stand c s (of_nodes (option_map_or (λ (k : RequestRecord). k.nodes) o [])) × (length (of_nodes (option_map_or (λ (k : RequestRecord). k.nodes) o [])) ≤ 64)) (sym there)
      (nodes.0, omega (arith, nodes.1, known.few_nodes)))
      ok
  made _ planned ok = absurd cc
