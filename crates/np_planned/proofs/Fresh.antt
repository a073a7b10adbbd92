-- the spots of a planned event whose paths are fresh, and the first that is not
use Rattle.np_planned.proofs.Prelude.{Agree, AllByRecursion, AllZip, BadRecord, Bool, Configuration, FirstAt, FreshCommits, HasNodeLock, HasParts-below, HasQueue, HasText, HavePaths, IfSome, Invariant, IsFreshPath, IsGood, IsLive, IsRead, IsSession, IsStored, IsWait, List, Node, NodeEntry, NodeId, None, Ok, Option, Place, PoolId, Registration, RequestEntry, RequestId, Result, Role, Row, Seen, SessionFacts, SessionId, SessionRecord, Since, Some, Spot, SpotsHaveParents, SpotsHavePaths, StaleHasParent, Stat, State, Tag, TreeState, above, all-find, answer, ap, arith, at_path, below, by_bool, bytes-seen, bytes_at, change_at_path, change_by, codes, cond, false, find, find_named, found-node, fresh-listed, fresh-seen, from-map_some, get_or, get_or_from_slice_get, invariant-Runs, is_fresh, is_fresh_by, is_node_it, is_path, is_path-of, is_some, is_stale, kept_of, length, map, node-read, node-unread, node-waits, node_all, node_entry, node_in, node_queue, node_record_in, not, not-false, not-true, of_node, of_nodes, option_and_then, option_map, parts-of, path_at, path_of, paths_at, persistent, place_name, place_of, refl, registered, registered-owner, request-queue, request-read, request-unread, request-waits, request_all, request_entry, request_in, request_queue, request_record_in, seen-named, seen_at, seen_in, seen_of, session-bytes, session-read, session-sound, session_in, session_of, session_text, slice_get, spots_of, stale-is-later, stat_above, stat_at, stat_of, subst, suc, sym, tag_of, tags_at, test-says-fresh, true, under, unwrap_or, zero, ℕ, [], ◌*◌, ◌++◌, ◌+◌, ◌<◌, ◌==◌, ◌^◌, ◌∙◌, ◌∷◌, ◌≡◌}
use Rattle.np_planned.proofs.Accepted.{IsMaker, Stand, at_end, at_node, at_pool, at_reason, at_request, made, session-known, spots-decide}

-- # what is fresh in a later tree is the same in the states of both trees

owner-seen : (nodes : List Node) (o : Option Node) → option_and_then (λ (stat : Stat). stat.owner) (option_map (stat_of nodes) o) ≡ option_and_then (λ (seen : Seen). seen.owner) (option_map seen_of o)
owner-seen nodes o = grind arith

-- what is read from the same bytes is the same
one-kept : {A : Type 0} (o q : Option A) (r : Result A BadRecord) → IsRead o r → IsRead q r → o ≡ q
one-kept o q r first second =
    let both : Ok first.kept ≡ Ok second.kept = sym first.reads ∙ second.reads in
    let same : first.kept ≡ second.kept = cc in
    first.there ∙ ap Some same ∙ sym second.there

abbrev numbered : ℕ → SessionId
numbered k = record { 0 = k }

-- the same owners are the same sessions
registered-by : (f g : Option Registration) → option_map (λ (r : Registration). r.session.0 + 1) f ≡ option_map (λ (r : Registration). r.session.0 + 1) g → option_map (λ (r : Registration). r.session) f ≡ option_map (λ (r : Registration). r.session) g
registered-by None None same = refl
registered-by (Some f) (Some g) same =
    let more : f.session.0 + 1 ≡ g.session.0 + 1 = cc in
    let number : f.session.0 ≡ g.session.0 = omega arith in
    ap (λ (k : ℕ). Some (numbered k)) number
registered-by _ _ same = absurd cc

-- and so are the sessions that wait
waits-by : (n m : ℕ) (rows others : List Row) (queue queued : List SessionId) → map tag_of rows ≡ map tag_of others → AllZip (IsWait n) rows queue → AllZip (IsWait m) others queued → queue ≡ queued
waits-by n m [] [] [] [] same first second = refl
waits-by n m (row ∷ rows) (other ∷ others) (x ∷ queue) (y ∷ queued) same first second =
    let head : tag_of row ≡ tag_of other = cc in
    let rest : map tag_of rows ≡ map tag_of others = cc in
    let owners : Some (x.0 + 1) ≡ Some (y.0 + 1) = sym (ap (λ (r : Row). r.owner) first.0.is) ∙ ap (λ (tag : Tag). tag.owner) head ∙ ap (λ (r : Row). r.owner) second.0.is in
    let more : x.0 + 1 ≡ y.0 + 1 = cc in
    let number : x.0 ≡ y.0 = omega arith in
    ap (λ (k : ℕ). numbered k ∷ queue) number ∙ ap (λ (list : List SessionId). y ∷ list) (waits-by n m rows others queue queued rest first.1 second.1)
waits-by n m _ _ _ _ same first second = grind arith

module _ (c : Configuration) (s u : State) (t v : TreeState) (z : ℕ) (stored : IsStored c s t) (later : IsStored c u v) (since : Since z t v) where
  -- ## the trees

  seen-same : (path : List ℕ) → is_path path ≡ true → IsFreshPath z v path → seen_at t path ≡ seen_at v path
  seen-same path proper fresh = fresh-seen z t v path fresh.dir stored.whole later.whole proper fresh.above since fresh.fresh

  pub bytes-same : (path : List ℕ) → is_path path ≡ true → IsFreshPath z v path → bytes_at t path ≡ bytes_at v path
  bytes-same path proper fresh =
      bytes-seen (at_path t.nodes path)
      ∙ ap (option_map (λ (seen : Seen). seen.bytes)) (seen-same path proper fresh)
      ∙ sym (bytes-seen (at_path v.nodes path))

  owner-same : (path : List ℕ) → is_path path ≡ true → IsFreshPath z v path → option_and_then (λ (stat : Stat). stat.owner) (stat_at t path) ≡ option_and_then (λ (stat : Stat). stat.owner) (stat_at v path)
  owner-same path proper fresh =
      owner-seen t.nodes (at_path t.nodes path)
      ∙ ap (option_and_then (λ (seen : Seen). seen.owner)) (seen-same path proper fresh)
      ∙ sym (owner-seen v.nodes (at_path v.nodes path))

  tags-same : (lock : Place) → IsGood lock → IsFreshPath z v (below (path_of lock) (codes "lock-")) → tags_at t (path_of lock) ≡ tags_at v (path_of lock)
  tags-same lock good fresh =
      let parts = HasParts-below (path_of lock) (codes "lock-") (is_path-of lock good) refl in
      let told : Some (path_of lock) ≡ Some fresh.dir = sym parts.above ∙ fresh.above in
      let same : fresh.dir ≡ path_of lock = cc in
      subst (λ (dir : List ℕ). tags_at t dir ≡ tags_at v dir) same (fresh-listed z t v (below (path_of lock) (codes "lock-")) fresh.dir since fresh.fresh)

  -- ## the states

  pub launcher-same : (p : PoolId) → IsGood (Place.Launcher p) → IsFreshPath z v (path_of (Place.Launcher p)) → registered p s.registrations ≡ registered p u.registrations
  launcher-same p good fresh =
      registered-by (find (λ (r : Registration). r.pool.0 == p.0) s.registrations) (find (λ (r : Registration). r.pool.0 == p.0) u.registrations)
      (sym (registered-owner c s t stored p good)
      ∙ owner-same (path_of (Place.Launcher p)) (is_path-of (Place.Launcher p) good) fresh
      ∙ registered-owner c u v later p good)

  module _ (r : RequestId) (good : HasText r) where
    request-by : (o : Option (List ℕ)) → bytes_at t (path_of (Place.Request r)) ≡ o → bytes_at v (path_of (Place.Request r)) ≡ o → request_in r s.requests ≡ request_in r u.requests
    request-by None was is = sym (request-unread c s t stored r good (sym was)) ∙ request-unread c u v later r good (sym is)
    request-by (Some bytes) was is =
        one-kept (request_in r s.requests) (request_in r u.requests) (answer (length bytes) (request_record_in bytes).0 (request_record_in bytes).1)
        (request-read c s t stored r good bytes (answer (length bytes) (request_record_in bytes).0 (request_record_in bytes).1) (sym was) (request_all bytes))
        (request-read c u v later r good bytes (answer (length bytes) (request_record_in bytes).0 (request_record_in bytes).1) (sym is) (request_all bytes))

    pub request-same : IsFreshPath z v (path_of (Place.Request r)) → request_in r s.requests ≡ request_in r u.requests
    request-same fresh = request-by (bytes_at v (path_of (Place.Request r))) (bytes-same (path_of (Place.Request r)) (is_path-of (Place.Request r) good) fresh) refl

    pub request_lock-same : IsFreshPath z v (below (path_of (Place.RequestLock r)) (codes "lock-")) → request_queue r s.requests ≡ request_queue r u.requests
    request_lock-same fresh =
        let first = request-waits c s t stored r good in
        let second = request-waits c u v later r good in
        waits-by first.0 second.0 (under (Place.RequestLock r) t) (under (Place.RequestLock r) v) (request_queue r s.requests) (request_queue r u.requests) (tags-same (Place.RequestLock r) good fresh) first.1 second.1

  module _ (n : NodeId) (good : n.0 < 2 ^ 32) where
    node-by : (o : Option (List ℕ)) → bytes_at t (path_of (Place.Node n)) ≡ o → bytes_at v (path_of (Place.Node n)) ≡ o → node_in n s.nodes ≡ node_in n u.nodes
    node-by None was is = sym (node-unread c s t stored n good (sym was)) ∙ node-unread c u v later n good (sym is)
    node-by (Some bytes) was is =
        one-kept (node_in n s.nodes) (node_in n u.nodes) (answer (length bytes) (node_record_in bytes).0 (node_record_in bytes).1)
        (node-read c s t stored n good bytes (answer (length bytes) (node_record_in bytes).0 (node_record_in bytes).1) (sym was) (node_all bytes))
        (node-read c u v later n good bytes (answer (length bytes) (node_record_in bytes).0 (node_record_in bytes).1) (sym is) (node_all bytes))

    pub node-same : IsFreshPath z v (path_of (Place.Node n)) → node_in n s.nodes ≡ node_in n u.nodes
    node-same fresh = node-by (bytes_at v (path_of (Place.Node n))) (bytes-same (path_of (Place.Node n)) (is_path-of (Place.Node n) good) fresh) refl

    pub node_lock-same : IsFreshPath z v (below (path_of (Place.NodeLock n)) (codes "lock-")) → node_queue n s.nodes ≡ node_queue n u.nodes
    node_lock-same fresh =
        let first = node-waits c s t stored n good in
        let second = node-waits c u v later n good in
        waits-by first.0 second.0 (under (Place.NodeLock n) t) (under (Place.NodeLock n) v) (node_queue n s.nodes) (node_queue n u.nodes) (tags-same (Place.NodeLock n) good fresh) first.1 second.1

-- # where the spots of a planned event are fresh it is accepted as before

all-unmapped : {A B : Type 0} (P : B → Type 0) (f : A → B) (list : List A) → AllByRecursion P (map f list) → AllByRecursion (λ a. P (f a)) list
all-unmapped P f [] all = tt
all-unmapped P f (a ∷ list) all = (all.0, all-unmapped P f list all.1)

-- sessions of the same record that are live are the same
facts-same : (f g : SessionFacts) → kept_of f ≡ kept_of g → f.live ≡ true → g.live ≡ true → Some f ≡ Some g
facts-same f g same first second =
    ap (λ (k : SessionRecord). facts_with k f.live) same ∙ ap (facts_with (kept_of g)) (first ∙ sym second) where
      facts_with : SessionRecord → Bool → Option SessionFacts
      facts_with k live = Some (record { role = k.role; live = live; mute = k.mute })

module _ (c : Configuration) (s u : State) (t v : TreeState) (z : ℕ) (stored : IsStored c s t) (later : IsStored c u v) (since : Since z t v) where
  abbrev AllFresh : List Spot → Type 0
  AllFresh spots = AllByRecursion (λ spot. IsFreshPath z v (path_at spot)) spots

  agrees : (spots : List Spot) → Stand c s spots → AllFresh spots → Agree s u spots
  agrees _ at_end fresh = tt
  agrees _ (at_pool p rest good stand) fresh = (launcher-same c s u t v z stored later since p good fresh.0, agrees rest stand fresh.1)
  agrees _ (at_request r rest k good there stand) fresh =
      (request-same c s u t v z stored later since r good fresh.0, (request_lock-same c s u t v z stored later since r good fresh.1.0, agrees rest stand fresh.1.1))
  agrees _ (at_node n rest good there stand) fresh =
      (node-same c s u t v z stored later since n good fresh.0, (node_lock-same c s u t v z stored later since n good fresh.1.0, agrees rest stand fresh.1.1))
  agrees _ (at_reason n good) fresh = (node-same c s u t v z stored later since n good fresh.0, tt)

  module _ (x : SessionId) where
    record-same : (f g : SessionFacts) → session_of x s ≡ Some f → session_of x u ≡ Some g → IsFreshPath z v (path_of (Place.Session x)) → kept_of f ≡ kept_of g
    record-same f g was is fresh =
        let good : IsGood (Place.Session x) = session-known c s t stored x f was in
        let first : bytes_at t (path_of (Place.Session x)) ≡ Some (session_text (kept_of f)) = session-bytes c s t stored x good ∙ ap (λ (o : Option SessionFacts). option_map session_text (option_map kept_of o)) was in
        let second : bytes_at v (path_of (Place.Session x)) ≡ Some (session_text (kept_of g)) = session-bytes c u v later x good ∙ ap (λ (o : Option SessionFacts). option_map session_text (option_map kept_of o)) is in
        let both : Some (session_text (kept_of f)) ≡ Some (session_text (kept_of g)) = sym first ∙ bytes-same c s u t v z stored later since (path_of (Place.Session x)) (is_path-of (Place.Session x) good) fresh ∙ second in
        let texts : session_text (kept_of f) ≡ session_text (kept_of g) = cc in
        let f_sound : IsSession (kept_of f) = subst (λ (o : Option SessionFacts). IfSome (option_map kept_of o) IsSession) was (session-sound c s t stored x) in
        let g_sound : IsSession (kept_of g) = subst (λ (o : Option SessionFacts). IfSome (option_map kept_of o) IsSession) is (session-sound c u v later x) in
        sym (session-read (kept_of f) (kept_of f) f_sound)
        ∙ ap (λ (text : List ℕ). unwrap_or (session_in text).0 (kept_of f)) texts
        ∙ session-read (kept_of g) (kept_of f) g_sound

    session-agrees : (role : Role) → IsMaker s x role → IsLive u x → IsFreshPath z v (path_of (Place.Session x)) → session_of x s ≡ session_of x u
    session-agrees role known live fresh =
        known.there
        ∙ facts-same known.facts live.facts (record-same known.facts live.facts known.there live.begun fresh) known.live live.live
        ∙ sym live.begun

pub fresh-commits : FreshCommits
fresh-commits c journal s u t v z e runs stored later since fresh planned ok =
    let is = made c s t stored e planned ok in
    let all = subst (AllByRecursion (λ spot. IsFreshPath z v (path_at spot))) is.are (all-unmapped (IsFreshPath z v) path_at (spots_of s e) fresh) in
    let rest = agrees c s u t v z stored later since is.rest is.stand all.1 in
    let session = session-agrees c s u t v z stored later since is.maker is.role is.known (is.lives u (invariant-Runs c journal u runs).queued rest) all.0 in
    spots-decide c s u e planned (subst (Agree s u) (sym is.are) (session, rest)) ok

-- # the spots of an accepted event have paths, and the first that isn't fresh is below a node

spots-good : (c : Configuration) (s : State) (spots : List Spot) → Stand c s spots → AllByRecursion (λ at. IsGood (place_of at)) spots
spots-good c s _ at_end = tt
spots-good c s _ (at_pool p rest good stand) = (good, spots-good c s rest stand)
spots-good c s _ (at_request r rest k good there stand) = (good, (good, spots-good c s rest stand))
spots-good c s _ (at_node n rest good there stand) = (good, (good, spots-good c s rest stand))
spots-good c s _ (at_reason n good) = (good, tt)

pub spots-have-paths : SpotsHavePaths
spots-have-paths c journal s t e runs stored planned ok =
    let is = made c s t stored e planned ok in
    subst HavePaths (sym is.are) (record { good = (session-known c s t stored is.maker is.known.facts is.known.there, spots-good c s is.rest is.stand); few = omega (arith, is.few) })

-- ## parents

seen-stat : (nodes : List Node) (o : Option Node) (seen : Seen) → option_map seen_of o ≡ Some seen → is_some (option_map (stat_of nodes) o) ≡ true
seen-stat nodes o seen is = grind arith

counter-stat : (nodes : List Node) (o : Option Node) (next : ℕ) → option_map (λ (n : Node). n.facts.counter) o ≡ Some next → is_some (option_map (stat_of nodes) o) ≡ true
counter-stat nodes o next is = grind arith

module _ (c : Configuration) (s u : State) (t v : TreeState) (z : ℕ) (stored : IsStored c s t) (later : IsStored c u v) (since : Since z t v) where
  -- above each spot there is a node if those before it are fresh
  abbrev Parented : List Spot → Type 0
  Parented [] = Unit {0}
  Parented (at ∷ spots) = (is_some (stat_above v (path_at at)) ≡ true) × (is_fresh v z (path_at at) ≡ true → Parented spots)

  first-parented : (spots : List Spot) → Parented spots → StaleHasParent v z (paths_at spots)
  first-parented [] all at path first there = absurd first
  first-parented (one ∷ spots) all zero path first there = let same : path_at one ≡ path = cc in subst (λ (p : List ℕ). is_some (stat_above v p) ≡ true) same all.0
  first-parented (one ∷ spots) all (suc at) path first there = first-parented spots (all.1 (not-false (is_fresh v z (path_at one)) first.0)) at path first.1 there

  -- ## directories

  dir-stands : (p dir : Place) → IsGood p → above p ≡ Some dir → find_named (place_name p) (under dir v) ≡ Some (persistent p []) → is_some (stat_at v (path_of p)) ≡ true
  dir-stands p dir good over found =
      seen-stat v.nodes (at_path v.nodes (path_of p)) (seen_in (persistent p [])) (seen-named v dir p later.whole good over ∙ ap (option_map seen_in) found)

  above-record : (p dir : Place) → IsGood p → above p ≡ Some dir → is_some (stat_at v (path_of dir)) ≡ true → is_some (stat_above v (path_of p)) ≡ true
  above-record p dir good over stands =
      subst (λ (o : Option (List ℕ)). is_some (option_and_then (stat_at v) o) ≡ true) (sym ((parts-of p good).0 ∙ ap (option_map path_of) over)) stands

  above-wait : (lock : Place) → IsGood lock → is_some (stat_at v (path_of lock)) ≡ true → is_some (stat_above v (below (path_of lock) (codes "lock-"))) ≡ true
  above-wait lock good stands =
      let parts = HasParts-below (path_of lock) (codes "lock-") (is_path-of lock good) refl in
      subst (λ (o : Option (List ℕ)). is_some (option_and_then (stat_at v) o) ≡ true) (sym parts.above) stands

  node-parented : (n : NodeId) → n.0 < 2 ^ 32 → is_some (stat_above v (path_of (Place.Node n))) ≡ true
  node-parented n good =
      above-record (Place.Node n) Place.Nodes good refl (dir-stands Place.Nodes Place.Nodepool tt refl (ap (find_named (place_name Place.Nodes)) later.lays.frame.nodepool))

  parented : (spots : List Spot) → Stand c s spots → Invariant c s → Parented spots
  parented _ at_end holds = tt
  parented _ (at_pool p rest good stand) holds =
      (above-record (Place.Launcher p) Place.Launchers good refl (dir-stands Place.Launchers Place.Nodepool tt refl (ap (find_named (place_name Place.Launchers)) later.lays.frame.nodepool)), λ _. parented rest stand holds)
  parented _ (at_request r rest k good there stand) holds = (
    above-record (Place.Request r) Place.Requests good refl (dir-stands Place.Requests Place.Nodepool tt refl (ap (find_named (place_name Place.Requests)) later.lays.frame.nodepool)),
    λ fresh.
        let same = request-same c s u t v z stored later since r good ((test-says-fresh v z (path_of (Place.Request r))).0 fresh) in
        let e = from-map_some (λ (e : RequestEntry). e.kept) (request_entry r u.requests) k (sym same ∙ there) in
        let queue = request-queue u v r e.0 later.lays e.1 in
        (above-wait (Place.RequestLock r) good (counter-stat v.nodes (at_path v.nodes (path_of (Place.RequestLock r))) queue.next queue.gives), λ _. parented rest stand holds),
  )
  parented _ (at_node n rest good there stand) holds = (
    node-parented n good,
    λ fresh.
        let has = there holds in
        let same = node-same c s u t v z stored later since n good ((test-says-fresh v z (path_of (Place.Node n))).0 fresh) in
        let e = from-map_some (λ (e : NodeEntry). e.kept) (node_entry n u.nodes) has.0 (sym same ∙ has.1) in
        let lock = all-find (HasNodeLock v) (is_node_it n) u.nodes e.0 later.lays.node_locks e.1 in
        let queue : HasQueue (Place.NodeLock n) (e.0).queue v = subst (λ (id : NodeId). HasQueue (Place.NodeLock id) (e.0).queue v) (found-node n u.nodes e.0 e.1) lock.queue in
        (above-wait (Place.NodeLock n) good (counter-stat v.nodes (at_path v.nodes (path_of (Place.NodeLock n))) queue.next queue.gives), λ _. parented rest stand holds),
  )
  parented _ (at_reason n good) holds = (node-parented n good, λ _. tt)

pub spots-have-parents : SpotsHaveParents
spots-have-parents c journal s u t v z e runs stored later since planned ok =
    let is = made c s t stored e planned ok in
    let good = session-known c s t stored is.maker is.known.facts is.known.there in
    let stands = dir-stands c s u t v z stored later since Place.Sessions Place.Poolsim tt refl (ap (find_named (place_name Place.Sessions)) later.lays.frame.poolsim) in
    first-parented c s u t v z stored later since (spots_of s e)
    (subst (Parented c s u t v z stored later since) (sym is.are)
    (above-record c s u t v z stored later since (Place.Session is.maker) Place.Sessions good refl stands, λ _. parented c s u t v z stored later since is.rest is.stand (invariant-Runs c journal s runs)))

-- # the first member of a list that passes a test, by its place, and a path that isn't fresh

pub first-at : {A : Type 0} (p : A → Bool) (list : List A) (at : ℕ) (a : A) → slice_get list at ≡ Some a → p a ≡ true → ((k : ℕ) (b : A) → k < at → slice_get list k ≡ Some b → p b ≡ false) → FirstAt p list at
first-at p [] at a there passes before = absurd cc
first-at p (b ∷ list) zero a there passes before = let same : b ≡ a = cc in ap p same ∙ passes
first-at p (b ∷ list) (suc at) a there passes before =
    (before 0 b (omega arith) refl, first-at p list at a there passes (λ k d less is. before (suc k) d (omega arith) is))

-- what is at a place is what was read there
pub item-at : {A : Type 0} (list : List A) (at : ℕ) (a b : A) → slice_get list at ≡ Some a → b ≡ get_or list at b → b ≡ a
item-at list at a b there is = is ∙ get_or_from_slice_get list at a b there

-- ## one path

module _ (t : TreeState) (z : ℕ) (path : List ℕ) where
  -- a path with a last change isn't fresh
  pub stale-some : (change : ℕ) → Some change ≡ cond (is_fresh t z path) None (Some (change_at_path t path)) → (is_stale t z path ≡ true) × (change ≡ change_at_path t path)
  stale-some change told = by_bool (λ b. Some change ≡ cond b None (Some (change_at_path t path)) → (not b ≡ true) × (change ≡ change_at_path t path)) (is_fresh t z path) (λ _ is. absurd cc) (λ _ is. (refl, cc)) told

  -- and one without is
  pub fresh-none : None ≡ cond (is_fresh t z path) None (Some (change_at_path t path)) → is_fresh t z path ≡ true
  fresh-none told = by_bool (λ b. None ≡ cond b None (Some (change_at_path t path)) → b ≡ true) (is_fresh t z path) (λ _ _. refl) (λ _ is. absurd cc) told

-- the change is later if there is a node above
later-by : (z : ℕ) (above here : Option Stat) → is_some above ≡ true → is_fresh_by z above here ≡ false → z < change_by above here
later-by z None here stands is = absurd cc
later-by z (Some parent) here stands is = stale-is-later z parent here is

pub stale-later : (t : TreeState) (z : ℕ) (path : List ℕ) → is_some (stat_above t path) ≡ true → is_stale t z path ≡ true → z < change_at_path t path
stale-later t z path stands is = later-by z (stat_above t path) (stat_at t path) stands (not-true (is_fresh t z path) is)

-- # the spots of an event, one after another

pub of_nodes-more : (numbers : List NodeId) (n : NodeId) → of_nodes (numbers ++ n ∷ []) ≡ of_nodes numbers ++ of_node n
of_nodes-more [] n = refl
of_nodes-more (m ∷ numbers) n = ap (λ (rest : List Spot). Spot.Node m ∷ Spot.NodeLock m ∷ rest) (of_nodes-more numbers n)

pub length-of_nodes : (numbers : List NodeId) → length (of_nodes numbers) ≡ 2 * length numbers
length-of_nodes [] = refl
length-of_nodes (m ∷ numbers) = omega (arith, length-of_nodes numbers)
