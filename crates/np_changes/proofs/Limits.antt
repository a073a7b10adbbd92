-- no pool and no tenant exceeds its limit, and no node has more attempts than its provider allows
use Rattle.np_changes.proofs.Prelude.{Amount, Bool, Changes, Configuration, Growth, GrowthPremise, Invariant, IsAtMost, IsAtMost-refl, LabelId, Limit, List, Maker, NodeEntry, NodeId, NodeRecord, None, Option, Pool, PoolId, Premises, RequestId, Some, State, TenantId, WithinQuota, [], allocated, amount_of, ap, arith, by_maker, change_first, changed, cond, count_of, false, fits, fits-less, grown, is_short, joined, limit_of, nat_tests, no_limit, not-false, nothing, option_map_or, plus, refl, slice_get, start, subst, subst₂, sym, true, ◌++◌, ◌==◌, ◌∷◌, ◌≡◌, Gains, IsAtMost-part, IsAtMost-plus, IsAtMost-trans, IsMade, IsTaken, MayServe, RequestEdit, RequestEntry, RequestRecord, RequestsChange, RequestsPremise, Tenant, WithinTenantQuota, amount_of_all, amount_of_node, ap₂, blocking, count_of_tenant, first_unoffered, inl, inr, is_none, is_pending_of, is_some, is_tenant, left, limit_of_tenant, never_fits, new_node, new_record, next_id, node_entry, node_in, requests_changed, rest_of_request, tenant_never_fits, tenant_of, tenant_of_request, ℕ, ◌∙◌, ◌⊎◌, AllByRecursion, IsAttempted, NodesChange, NodesPremise, PutsNode, SessionsChange, all-change_first, all-find, all-mapped, all-push, all-remove_first, all_in_use, freed_from, from-map_some, in_use, node_left, node_queue, nodes_changed, nodes_left}
use Rattle.np_changes.proofs.Lookups.{same_pool, same_label, kept-is}
use Rattle.np_changes.proofs.NodeAmounts.{IsLeastFree, Measure, at_most-same, fits-nothing, nothing-at_most, part-at_most, plus-nothing, queue-keeps, second-rises, settled-keeps, sum_of-filter, sum_of-keep, sum_of-push, sum_of-rise, taken, takes, traded}
use Rattle.np_changes.proofs.Waits.{waited, whole, part, edited_in, insert-keeps, left-keeps, remove-keeps, edit-keeps, gain-falls, serve-rises}
use Rattle.np_changes.proofs.NodeAmounts
use Rattle.np_changes.proofs.Waits

-- what is counted only if a test passes, for which there is room
fits-if : (a more : Amount) (limit : Limit) (b : Bool) → fits a limit ≡ true → (b ≡ true → fits (plus a more) limit ≡ true) → fits (plus a (cond b more nothing)) limit ≡ true
fits-if a more limit true old room = room refl
fits-if a more limit false old room = fits-less (plus a nothing) a limit (at_most-same (plus a nothing) a (plus-nothing a)) old

-- # no pool exceeds a limit

-- what a node takes of the pool
abbrev at_pool : Configuration → PoolId → Measure
at_pool c p q l t = cond (q.0 == p.0) (amount_of c p l) nothing

count-taken : (c : Configuration) (s : State) (p : PoolId) → count_of c s p ≡ taken (at_pool c p) s.nodes
count-taken c s p = sum_of-filter (λ (e : NodeEntry). e.kept.pool.0 == p.0) (λ (e : NodeEntry). amount_of c p e.kept.label) s.nodes

pool-limit-is : (c : Configuration) (p : PoolId) (pool : Pool) → slice_get c.pools p.0 ≡ Some pool → limit_of c p ≡ pool.limit
pool-limit-is c p pool row = ap (λ (o : Option Pool). option_map_or (λ (x : Pool). x.limit) o no_limit) row

-- an allocation leaves each node's pool and label as they are
allocated-keeps : (c : Configuration) (p : PoolId) (maker : Option Maker) (n : NodeId) (r : RequestId) (tenant : Option TenantId) (rows : List NodeEntry)
    → IsAtMost (taken (at_pool c p) (by_maker maker (λ session old. change_first (λ e. e.id.0 == n.0) (allocated r tenant session) old) rows)) (taken (at_pool c p) rows)
allocated-keeps c p None n r tenant rows = IsAtMost-refl (taken (at_pool c p) rows)
allocated-keeps c p (Some maker) n r tenant rows =
    sum_of-keep (takes (at_pool c p)) (λ (e : NodeEntry). e.id.0 == n.0) (allocated r tenant maker.session) rows (λ e _. IsAtMost-refl (takes (at_pool c p) e))

module _ (c : Configuration) (s : State) (ch : Changes) (p : PoolId) (pool : Pool) (row : slice_get c.pools p.0 ≡ Some pool) where
  -- what the pool's nodes take together fits
  abbrev Fits : List NodeEntry → Type 0
  Fits rows = fits (taken (at_pool c p) rows) pool.limit ≡ true

  more-fits : (e : NodeEntry) → Fits s.nodes → is_short c s e.kept.pool e.kept.label ≡ false → Fits (s.nodes ++ e ∷ [])
  more-fits e old room =
      subst (λ (a : Amount). fits a pool.limit ≡ true) (sym (sum_of-push (takes (at_pool c p)) s.nodes e))
      (fits-if (taken (at_pool c p) s.nodes) (amount_of c p e.kept.label) pool.limit (e.kept.pool.0 == p.0) old (λ same.
      let here : is_short c s p e.kept.label ≡ false = subst (λ (z : PoolId). is_short c s z e.kept.label ≡ false) (same_pool e.kept.pool p same) room in
      let fit : fits (plus (count_of c s p) (amount_of c p e.kept.label)) (limit_of c p) ≡ true = not-false (fits (plus (count_of c s p) (amount_of c p e.kept.label)) (limit_of c p)) here in
      subst₂ (λ (a : Amount) (limit : Limit). fits (plus a (amount_of c p e.kept.label)) limit ≡ true) (count-taken c s p) (pool-limit-is c p pool row) fit))

  grown-fits : (g : Growth) → ch.grows ≡ g → GrowthPremise c s ch g → Fits s.nodes → Fits (grown c ch.maker g s).nodes
  grown-fits (Growth.Registration q) is premise old = grind (arith, nat_tests)
  grown-fits (Growth.Node kept) is premise old =
      more-fits (record { id = record { 0 = s.next_node }; kept = kept; queue = by_maker ch.maker (λ session queue. queue ++ session ∷ []) [] }) old (grind (arith, nat_tests))
  grown-fits (Growth.JoinNode n) is premise old =
      fits-less (taken (at_pool c p) (grown c ch.maker (Growth.JoinNode n) s).nodes) (taken (at_pool c p) s.nodes) pool.limit (queue-keeps (at_pool c p) ch.maker joined n s.nodes) old
  grown-fits (Growth.Allocate n r tenant) is premise old =
      fits-less (taken (at_pool c p) (grown c ch.maker (Growth.Allocate n r tenant) s).nodes) (taken (at_pool c p) s.nodes) pool.limit (allocated-keeps c p ch.maker n r tenant s.nodes) old
  grown-fits _ is premise old = old

  pool-changed-fits : Premises c s ch → Fits s.nodes → Fits (changed c ch s).nodes
  pool-changed-fits premises old =
      fits-less _ _ pool.limit (settled-keeps (at_pool c p) (λ q l t. IsAtMost-refl (at_pool c p q l t)) c s ch premises) (grown-fits ch.grows refl premises.grows old)

pub within-quota : (c : Configuration) (s : State) (ch : Changes) → Invariant c s → Premises c s ch → WithinQuota c (changed c ch s)
within-quota c s ch invariant premises = λ p pool row.
    subst (λ (a : Amount). fits a pool.limit ≡ true) (sym (count-taken c (changed c ch s) p))
    (pool-changed-fits c s ch p pool row premises (subst (λ (a : Amount). fits a pool.limit ≡ true) (count-taken c s p) (invariant.within.quota p pool row)))

pub within-quota_first : (c : Configuration) → WithinQuota c (start c)
within-quota_first c = λ p pool row. fits-nothing pool.limit

-- # no tenant exceeds a limit

-- what a node takes of the tenant
abbrev of_tenant : Configuration → TenantId → Measure
of_tenant c t p l owner = cond (is_tenant t owner) (amount_of c p l) nothing

least-free : (c : Configuration) (t : TenantId) → IsLeastFree (of_tenant c t)
least-free c t p l owner = nothing-at_most (of_tenant c t p l owner)

-- what the nodes of the tenant take, and what its requests wait for
abbrev used : Configuration → TenantId → List NodeEntry → List RequestEntry → Amount
used c t nodes rows = plus (taken (of_tenant c t) nodes) (waited c t rows)

count-used : (c : Configuration) (s : State) (t : TenantId) → count_of_tenant c s t ≡ used c t s.nodes s.requests
count-used c s t =
    ap₂ plus (sum_of-filter (λ (e : NodeEntry). is_tenant t e.kept.tenant) (amount_of_node c) s.nodes) (sum_of-filter (is_pending_of c t) (rest_of_request c) s.requests)

limit-is : (c : Configuration) (t : TenantId) (tenant : Tenant) → tenant_of c t ≡ Some tenant → limit_of_tenant c t ≡ tenant.limit
limit-is c t tenant row = ap (λ (o : Option Tenant). option_map_or (λ (x : Tenant). x.limit) o no_limit) row

-- ## room for all labels of a request

module _ (c : Configuration) (s : State) (p : PoolId) (request : RequestRecord) (t : TenantId) where
  -- the tenant's count and all labels together fit
  abbrev HasRoom : Type 0
  HasRoom = fits (plus (count_of_tenant c s t) (amount_of_all c p request.labels)) (limit_of_tenant c t) ≡ true

  -- a pool may serve the request: there is room for all its labels
  served-room : is_some request.job ≡ is_none request.pinned → first_unoffered c p request ≡ None → never_fits c p request ≡ false → tenant_never_fits c p request ≡ false → blocking c s p request ≡ None
      → is_tenant t (tenant_of_request c request) ≡ true → HasRoom
  served-room whose offered fits_pool fits_tenant unblocked own = grind (arith, nat_tests)

-- ## what grows

module _ (c : Configuration) (s : State) (ch : Changes) (t : TenantId) where
  -- what is used after a growth
  abbrev used_after : Growth → Amount
  used_after g = used c t (grown c ch.maker g s).nodes (grown c ch.maker g s).requests

  -- a request gets a node
  record AGain : Type 0 where
    request : RequestId
    node : NodeId
    gains : Gains c s ch request node

  growth-keeps : (g : Growth) → GrowthPremise c s ch g → AGain ⊎ IsAtMost (used_after g) (used c t s.nodes s.requests)
  growth-keeps (Growth.Registration q) premise = grind (arith, nat_tests, IsAtMost-refl (used c t s.nodes s.requests))
  growth-keeps (Growth.Request priority asked) premise =
      inr (IsAtMost-plus _ _ _ _ (IsAtMost-refl (taken (of_tenant c t) s.nodes))
      (insert-keeps c t (record { id = next_id priority s; kept = new_record asked; queue = [] }) s.requests (grind (arith, nat_tests))))
  growth-keeps (Growth.Node kept) premise = inl (record { request = premise.request; node = record { 0 = s.next_node }; gains = premise.gains })
  growth-keeps (Growth.JoinRequest r) premise = inr (IsAtMost-plus _ _ _ _ (IsAtMost-refl (taken (of_tenant c t) s.nodes)) (Waits.queue-keeps c t ch.maker joined r s.requests))
  growth-keeps (Growth.JoinNode n) premise = inr (IsAtMost-plus _ _ _ _ (NodeAmounts.queue-keeps (of_tenant c t) ch.maker joined n s.nodes) (IsAtMost-refl (waited c t s.requests)))
  growth-keeps (Growth.Allocate n r tenant) premise = inl (record { request = r; node = n; gains = premise })
  growth-keeps _ premise = inr (IsAtMost-refl (used c t s.nodes s.requests))

-- ## a request gets a node

module _ (c : Configuration) (t : TenantId) where
  -- an allocated node takes no more than it did and the part of the tenant's request
  allocate-rises : (maker : Option Maker) (n : NodeId) (r : RequestId) (p : PoolId) (l : LabelId) (request : RequestRecord) (node : NodeRecord) (rows : List NodeEntry)
      → node_in n rows ≡ Some node → (node.pool.0 == p.0) ≡ true → (node.label.0 == l.0) ≡ true
      → IsAtMost (taken (of_tenant c t) (by_maker maker (λ session old. change_first (λ e. e.id.0 == n.0) (allocated r (tenant_of_request c request) session) old) rows)) (plus (taken (of_tenant c t) rows) (part c t p l request))
  allocate-rises None n r p l request node rows has of_pool of_label = IsAtMost-part (taken (of_tenant c t) rows) (part c t p l request)
  allocate-rises (Some maker) n r p l request node rows has of_pool of_label =
      sum_of-rise (takes (of_tenant c t)) (λ (e : NodeEntry). e.id.0 == n.0) (allocated r (tenant_of_request c request) maker.session) rows (part c t p l request)
      (λ e is.
      let same : e.kept ≡ node = kept-is (λ (x : NodeEntry). x.kept) (node_entry n rows) node e has is in
      let pool : e.kept.pool ≡ p = ap (λ (k : NodeRecord). k.pool) same ∙ same_pool node.pool p of_pool in
      let label : e.kept.label ≡ l = ap (λ (k : NodeRecord). k.label) same ∙ same_label node.label l of_label in
      IsAtMost-trans (of_tenant c t e.kept.pool e.kept.label (tenant_of_request c request)) (part c t p l request) (plus (takes (of_tenant c t) e) (part c t p l request))
      (at_most-same (of_tenant c t e.kept.pool e.kept.label (tenant_of_request c request)) (part c t p l request) (ap₂ (λ (q : PoolId) (m : LabelId). of_tenant c t q m (tenant_of_request c request)) pool label))
      (part-at_most (takes (of_tenant c t) e) (part c t p l request)))

module _ (c : Configuration) (s : State) (ch : Changes) (t : TenantId) where
  -- what is used after a growth and then a change of requests
  abbrev used_then : RequestsChange → Growth → Amount
  used_then change g = used c t (grown c ch.maker g s).nodes (requests_changed ch.maker change (grown c ch.maker g s).requests)

  -- the node takes what the request does not wait for any more
  gain-keeps : (r : RequestId) (n : NodeId) → Gains c s ch r n → IsAtMost (used_then (RequestsChange.Edit r (RequestEdit.AddNode n)) ch.grows) (used c t s.nodes s.requests)
  gain-keeps r n gains = by gains.from where
    fewer : IsAtMost (plus (waited c t (edited_in (RequestEdit.AddNode n) r s.requests)) (part c t gains.pool gains.label gains.request)) (waited c t s.requests)
    fewer = gain-falls c t n gains.pool gains.label r gains.request s.requests gains.worked_on.stands gains.pending gains.next

    by : IsTaken c s ch gains.pool r gains.request gains.label n ⊎ IsMade c s ch gains.pool r gains.request gains.label n
        → IsAtMost (used_then (RequestsChange.Edit r (RequestEdit.AddNode n)) ch.grows) (used c t s.nodes s.requests)
    by (inl given) =
        subst (λ (g : Growth). IsAtMost (used_then (RequestsChange.Edit r (RequestEdit.AddNode n)) g) (used c t s.nodes s.requests)) (sym given.grows)
        (traded _ _ _ _ (part c t gains.pool gains.label gains.request) (allocate-rises c t ch.maker n r gains.pool gains.label gains.request given.node s.nodes given.stands given.of_pool given.of_label) fewer)
    by (inr made) =
        subst (λ (g : Growth). IsAtMost (used_then (RequestsChange.Edit r (RequestEdit.AddNode n)) g) (used c t s.nodes s.requests)) (sym made.grows)
        (traded (taken (of_tenant c t) (grown c ch.maker (Growth.Node (new_node c s r gains.pool gains.request gains.label)) s).nodes) _ (taken (of_tenant c t) s.nodes) _ (part c t gains.pool gains.label gains.request)
        (at_most-same _ _ (sum_of-push (takes (of_tenant c t)) s.nodes (record { id = record { 0 = s.next_node }; kept = new_node c s r gains.pool gains.request gains.label; queue = by_maker ch.maker (λ session queue. queue ++ session ∷ []) [] }))) fewer)

  -- ## a pool begins to serve a request

  serve-fits : (r : RequestId) (p : PoolId) (limit : Limit) → limit_of_tenant c t ≡ limit → fits (used c t s.nodes s.requests) limit ≡ true → Invariant c s → MayServe c s ch r p
      → fits (used_then (RequestsChange.Edit r (RequestEdit.Serve p)) ch.grows) limit ≡ true
  serve-fits r p limit is old invariant serves =
      subst (λ (g : Growth). fits (used_then (RequestsChange.Edit r (RequestEdit.Serve p)) g) limit ≡ true) (sym serves.same_size)
      (fits-less (used_then (RequestsChange.Edit r (RequestEdit.Serve p)) Growth.Nothing) (plus (used c t s.nodes s.requests) (whole c t p serves.request)) limit
      (second-rises _ _ _ (whole c t p serves.request) (serve-rises c t p r serves.request s.requests serves.worked_on.stands))
      (fits-if (used c t s.nodes s.requests) (amount_of_all c p serves.request.labels) limit (is_tenant t (tenant_of_request c serves.request)) old (λ own.
      subst₂ (λ (a : Amount) (m : Limit). fits (plus a (amount_of_all c p serves.request.labels)) m ≡ true) (count-used c s t) is
      (served-room c s p serves.request t (invariant.owned.whose r serves.request serves.worked_on.stands) serves.offered serves.fits_pool serves.fits_tenant serves.unblocked own))))

  -- ## all changes of requests

  module _ (limit : Limit) (is : limit_of_tenant c t ≡ limit) (old : fits (used c t s.nodes s.requests) limit ≡ true) (invariant : Invariant c s) where
    -- after a growth that takes no more, requests that wait for no more
    lower-fits : (rows : List RequestEntry) → IsAtMost (used c t (grown c ch.maker ch.grows s).nodes (grown c ch.maker ch.grows s).requests) (used c t s.nodes s.requests)
        → IsAtMost (waited c t rows) (waited c t (grown c ch.maker ch.grows s).requests) → fits (used c t (grown c ch.maker ch.grows s).nodes rows) limit ≡ true
    lower-fits rows less lower = grind (arith, nat_tests)

    gain-fits : (r : RequestId) (n : NodeId) → Gains c s ch r n → fits (used_then (RequestsChange.Edit r (RequestEdit.AddNode n)) ch.grows) limit ≡ true
    gain-fits r n gains = fits-less (used_then (RequestsChange.Edit r (RequestEdit.AddNode n)) ch.grows) (used c t s.nodes s.requests) limit (gain-keeps r n gains) old

    change-fits : (change : RequestsChange) → RequestsPremise c s ch change → IsAtMost (used c t (grown c ch.maker ch.grows s).nodes (grown c ch.maker ch.grows s).requests) (used c t s.nodes s.requests)
        → fits (used_then change ch.grows) limit ≡ true
    change-fits RequestsChange.Same premise less = lower-fits (grown c ch.maker ch.grows s).requests less (IsAtMost-refl (waited c t (grown c ch.maker ch.grows s).requests))
    change-fits (RequestsChange.Edit r (RequestEdit.Serve p)) premise less = serve-fits r p limit is old invariant premise
    change-fits (RequestsChange.Edit r (RequestEdit.AddNode n)) premise less = gain-fits r n premise.0
    change-fits (RequestsChange.Edit r how) premise less = lower-fits (edited_in how r (grown c ch.maker ch.grows s).requests) less (edit-keeps c t how r (grown c ch.maker ch.grows s).requests refl)
    change-fits (RequestsChange.Remove r) premise less =
        lower-fits (requests_changed ch.maker (RequestsChange.Remove r) (grown c ch.maker ch.grows s).requests) less (remove-keeps c t r (grown c ch.maker ch.grows s).requests)
    change-fits (RequestsChange.Leave r) premise less =
        lower-fits (requests_changed ch.maker (RequestsChange.Leave r) (grown c ch.maker ch.grows s).requests) less (Waits.queue-keeps c t ch.maker left r (grown c ch.maker ch.grows s).requests)

    then-fits : Premises c s ch → AGain c s ch t ⊎ IsAtMost (used_after c s ch t ch.grows) (used c t s.nodes s.requests) → fits (used_then ch.requests ch.grows) limit ≡ true
    then-fits premises (inl gain) =
        subst (λ (change : RequestsChange). fits (used_then change ch.grows) limit ≡ true) (sym gain.gains.edits) (gain-fits gain.request gain.node gain.gains)
    then-fits premises (inr less) = change-fits ch.requests premises.requests less

    changed-fits : Premises c s ch → fits (used c t (changed c ch s).nodes (changed c ch s).requests) limit ≡ true
    changed-fits premises =
        fits-less (used c t (changed c ch s).nodes (changed c ch s).requests) (used_then ch.requests ch.grows) limit
        (IsAtMost-plus _ _ _ _ (settled-keeps (of_tenant c t) (least-free c t) c s ch premises) (left-keeps c t ch.sessions (requests_changed ch.maker ch.requests (grown c ch.maker ch.grows s).requests)))
        (then-fits premises (growth-keeps c s ch t ch.grows premises.grows))

pub within-tenant_quota : (c : Configuration) (s : State) (ch : Changes) → Invariant c s → Premises c s ch → WithinTenantQuota c (changed c ch s)
within-tenant_quota c s ch invariant premises = λ t tenant row.
    subst (λ (a : Amount). fits a tenant.limit ≡ true) (sym (count-used c (changed c ch s) t))
    (changed-fits c s ch t tenant.limit (limit-is c t tenant row) (subst (λ (a : Amount). fits a tenant.limit ≡ true) (count-used c s t) (invariant.within.tenant_quota t tenant row)) invariant premises)

pub within-tenant_quota_first : (c : Configuration) → WithinTenantQuota c (start c)
within-tenant_quota_first c = λ t tenant row. fits-nothing tenant.limit

-- # a node has no more attempts than its pool's provider allows

module _ (c : Configuration) where
  abbrev AreAttempted : List NodeEntry → Type 0
  AreAttempted rows = AllByRecursion (λ e. IsAttempted c e.kept) rows

  -- the same for the node that is found
  found-attempted : (n : NodeId) (node : NodeRecord) (rows : List NodeEntry) → AreAttempted rows → node_in n rows ≡ Some node → IsAttempted c node
  found-attempted n node rows all is =
      let found = from-map_some (λ (e : NodeEntry). e.kept) (node_entry n rows) node is in
      subst (IsAttempted c) found.2 (all-find (λ (x : NodeEntry). IsAttempted c x.kept) (λ x. x.id.0 == n.0) rows found.0 all found.1)

  -- ## a node's record that is put

  put-attempted : (s : State) (ch : Changes) (n : NodeId) (kept : NodeRecord) (put : PutsNode c s ch n kept) → IsAttempted c put.node → IsAttempted c kept
  put-attempted s ch n kept put old = grind (arith, nat_tests)

  -- ## growth

  attempted-grown : (s : State) (ch : Changes) (maker : Option Maker) (growth : Growth) → ch.grows ≡ growth → GrowthPremise c s ch growth → AreAttempted s.nodes → AreAttempted (grown c maker growth s).nodes
  attempted-grown s ch maker (Growth.Registration p) at premise old = grind (arith, nat_tests)
  attempted-grown s ch maker (Growth.Node kept) at premise old = all-push (λ (e : NodeEntry). IsAttempted c e.kept) s.nodes _ old (let gains = premise.gains in grind (arith, nat_tests))
  attempted-grown s ch (Some maker) (Growth.JoinNode n) at premise old =
      all-change_first (λ (e : NodeEntry). IsAttempted c e.kept) (λ e. e.id.0 == n.0) (λ e. record e { queue = joined maker.session (node_queue n s.nodes) }) s.nodes (λ e is. is) old
  attempted-grown s ch (Some maker) (Growth.Allocate n r tenant) at premise old =
      all-change_first (λ (e : NodeEntry). IsAttempted c e.kept) (λ e. e.id.0 == n.0) (allocated r tenant maker.session) s.nodes (λ e is. record { idle = is.idle; running = is.running; failed = is.failed }) old
  attempted-grown s ch maker _ at premise old = old

  -- ## what happens to nodes

  attempted-in_use : (tick : ℕ) (numbers : List NodeId) (rows : List NodeEntry) → AreAttempted rows → AreAttempted (all_in_use tick numbers rows)
  attempted-in_use tick [] rows old = old
  attempted-in_use tick (n ∷ numbers) rows old =
      attempted-in_use tick numbers (change_first (λ e. e.id.0 == n.0) (in_use tick) rows)
      (all-change_first (λ (e : NodeEntry). IsAttempted c e.kept) (λ e. e.id.0 == n.0) (in_use tick) rows (λ e is. record { idle = λ building idle some. absurd cc; running = is.running; failed = λ fails. absurd cc }) old)

  attempted-settled : (s : State) (ch : Changes) (maker : Option Maker) (tick : ℕ) (change : NodesChange) (rows : List NodeEntry) → NodesPremise c s ch change → AreAttempted s.nodes → AreAttempted rows → AreAttempted (nodes_changed maker tick change rows)
  attempted-settled s ch maker tick (NodesChange.Put n kept) rows premise first old =
      let new : IsAttempted c kept = put-attempted s ch n kept premise (found-attempted n premise.node s.nodes first premise.held.stands) in
      all-change_first (λ (e : NodeEntry). IsAttempted c e.kept) (λ e. e.id.0 == n.0) (λ e. record e { kept = kept }) rows (λ e is. new) old
  attempted-settled s ch maker tick (NodesChange.Remove n) rows premise first old = all-remove_first (λ (e : NodeEntry). IsAttempted c e.kept) (λ e. e.id.0 == n.0) rows old
  attempted-settled s ch (Some maker) tick (NodesChange.Leave n) rows premise first old =
      all-change_first (λ (e : NodeEntry). IsAttempted c e.kept) (λ e. e.id.0 == n.0) (λ e. record e { queue = left maker.session (node_queue n rows) }) rows (λ e is. is) old
  attempted-settled s ch maker tick (NodesChange.FreeAll r) rows premise first old = all-mapped (λ (e : NodeEntry). IsAttempted c e.kept) (λ (e : NodeEntry). IsAttempted c e.kept) (freed_from r) rows (λ e is. grind (arith, nat_tests)) old
  attempted-settled s ch maker tick (NodesChange.TakeOver numbers) rows premise first old = attempted-in_use tick numbers rows old
  attempted-settled s ch maker tick _ rows premise first old = old

  attempted-after_end : (change : SessionsChange) (rows : List NodeEntry) → AreAttempted rows → AreAttempted (nodes_left change rows)
  attempted-after_end (SessionsChange.End over) rows old = all-mapped (λ (e : NodeEntry). IsAttempted c e.kept) (λ (e : NodeEntry). IsAttempted c e.kept) (node_left over) rows (λ e is. is) old
  attempted-after_end _ rows old = old

  pub attempts-few : (s : State) (ch : Changes) → AreAttempted s.nodes → Premises c s ch → AreAttempted (changed c ch s).nodes
  attempts-few s ch old premises =
      let t : State = grown c ch.maker ch.grows s in
      attempted-after_end ch.sessions (nodes_changed ch.maker t.tick ch.nodes t.nodes)
      (attempted-settled s ch ch.maker t.tick ch.nodes t.nodes premises.nodes old (attempted-grown s ch ch.maker ch.grows refl premises.grows old))
