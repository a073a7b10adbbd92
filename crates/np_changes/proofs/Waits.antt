-- what the pending requests of a tenant wait for, after a change
use Rattle.np_changes.proofs.Prelude.{Amount, Bool, Configuration, IsAtMost, IsAtMost-refl, IsAtMost-trans, LabelId, List, Maker, NodeId, None, Option, PoolId, RequestEdit, RequestEntry, RequestId, RequestRecord, SessionId, SessionsChange, Some, TenantId, [], amount_of, amount_of_all, and_parts, ap, arith, by_maker, change_first, cond, drop, edited, false, insert_request, is_id_before, is_pending, is_pending_by, is_pool, is_tenant, length, length-append, nat_tests, next_label, nothing, nothing-plus, option_map_or, plus, plus-comm, put_request_queue, refl, remove_request, request_entry, request_in, request_left, request_queue, requests_left, same_request, slice_get, subst, suc, sym, tenant_of_request, true, with_node, ℕ, ◌&&◌, ◌++◌, ◌∙◌, ◌∷◌, ◌≡◌}
use Rattle.np_changes.proofs.Lookups.{same_pool, row-of, kept-is}
use Rattle.np_changes.proofs.NodeAmounts.{at_most-same, nothing-at_most, part-at_most, plus-nothing, sum_of, sum_of-insert_before, sum_of-remove_first, sum_of-drop, sum_of-next, sum_of-map, sum_of-rise, sum_of-keep, sum_of-fall}

-- what the labels from a place on take of the pool that serves, if the request is pending and of
-- the tenant
abbrev pub rest_by : Configuration → Bool → Bool → List LabelId → ℕ → Option PoolId → Amount
rest_by c pending own labels at pool = cond (pending && own) (option_map_or (λ p. amount_of_all c p (drop at labels)) pool nothing) nothing

-- what a request waits for
abbrev pub waits : Configuration → TenantId → RequestRecord → Amount
waits c t k = rest_by c (is_pending k.state) (is_tenant t (tenant_of_request c k)) k.labels (length k.nodes) k.pool

abbrev pub waits_in : Configuration → TenantId → RequestEntry → Amount
waits_in c t e = waits c t e.kept

-- what the requests wait for together
abbrev pub waited : Configuration → TenantId → List RequestEntry → Amount
waited c t rows = sum_of (waits_in c t) rows

-- what all labels of a request take, if it is of the tenant
abbrev pub whole : Configuration → TenantId → PoolId → RequestRecord → Amount
whole c t p k = cond (is_tenant t (tenant_of_request c k)) (amount_of_all c p k.labels) nothing

-- what a node of the label takes, if the request is of the tenant
abbrev pub part : Configuration → TenantId → PoolId → LabelId → RequestRecord → Amount
part c t p l k = cond (is_tenant t (tenant_of_request c k)) (amount_of c p l) nothing

-- the rows, one of them edited
abbrev pub edited_in : RequestEdit → RequestId → List RequestEntry → List RequestEntry
edited_in change r rows = change_first (λ e. same_request e.id r) (λ e. record e { kept = edited change e.kept }) rows

-- a request that is declined, fulfilled, given back or failed waits for nothing, and a revised one
-- for as much as before
abbrev pub keeps_wait : RequestEdit → Bool
keeps_wait (RequestEdit.Serve p) = false
keeps_wait (RequestEdit.AddNode n) = false
keeps_wait _ = true

-- ## one record

-- a pool that serves is the one in the option
pub served-by : (p : PoolId) (o : Option PoolId) → is_pool p o ≡ true → o ≡ Some p
served-by p o is = grind (arith, nat_tests, same_pool)

module _ (c : Configuration) (t : TenantId) where
  -- without its next label it waits for that much less
  falls-by : (rest amount all : Amount) (own : Bool) → all ≡ plus amount rest → IsAtMost (plus (cond own rest nothing) (cond own amount nothing)) (cond own all nothing)
  falls-by rest amount all true same = at_most-same (plus rest amount) all (plus-comm rest amount ∙ sym same)
  falls-by rest amount all false same = at_most-same (plus nothing nothing) nothing (plus-nothing nothing)

  falls-next : (pending own : Bool) (labels : List LabelId) (at later : ℕ) (pool : Option PoolId) (p : PoolId) (l : LabelId) → pending ≡ true → pool ≡ Some p → later ≡ suc at → slice_get labels at ≡ Some l
      → IsAtMost (plus (rest_by c pending own labels later pool) (cond own (amount_of c p l) nothing)) (rest_by c pending own labels at pool)
  falls-next pending own labels at later pool p l is served next there =
      rw (is, served, next)
      (falls-by (amount_of_all c p (drop (suc at) labels)) (amount_of c p l) (amount_of_all c p (drop at labels)) own (sum_of-next (amount_of c p) at labels l there))

  gains-falls : (k : RequestRecord) (n : NodeId) (p : PoolId) (l : LabelId) → is_pending_by p k ≡ true → next_label k ≡ Some l → IsAtMost (plus (waits c t (with_node k n)) (part c t p l k)) (waits c t k)
  gains-falls k n p l pending next =
      let both = and_parts (is_pending k.state) (is_pool p k.pool) pending in
      let longer : length (k.nodes ++ n ∷ []) ≡ suc (length k.nodes) = omega (arith, length-append k.nodes (n ∷ [])) in
      falls-next (is_pending k.state) (is_tenant t (tenant_of_request c k)) k.labels (length k.nodes) (length (k.nodes ++ n ∷ [])) k.pool p l
      both.0 (served-by p k.pool both.1) longer next

  -- a request that is served waits for no more than all its labels
  serves-by : (old rest all : Amount) (own : Bool) → IsAtMost rest all → IsAtMost (cond own rest nothing) (plus old (cond own all nothing))
  serves-by old rest all true least = IsAtMost-trans rest all (plus old all) least (part-at_most old all)
  serves-by old rest all false least = nothing-at_most (plus old nothing)

  serves-rises : (k : RequestRecord) (p : PoolId) → IsAtMost (waits c t (edited (RequestEdit.Serve p) k)) (plus (waits c t k) (whole c t p k))
  serves-rises k p =
      serves-by (waits c t k) (amount_of_all c p (drop (length k.nodes) k.labels)) (amount_of_all c p k.labels) (is_tenant t (tenant_of_request c k))
      (sum_of-drop (amount_of c p) (length k.nodes) k.labels)

  -- ## the rows

  -- a new request that is not pending waits for nothing
  pub insert-keeps : (new : RequestEntry) (rows : List RequestEntry) → is_pending new.kept.state ≡ false → IsAtMost (waited c t (insert_request new rows)) (waited c t rows)
  insert-keeps new rows idle =
      let none : waits_in c t new ≡ nothing = rw idle refl in
      at_most-same (waited c t (insert_request new rows)) (waited c t rows)
      (sum_of-insert_before (waits_in c t) (λ (e : RequestEntry). is_id_before new.id e.id) new rows ∙ ap (λ (a : Amount). plus a (waited c t rows)) none ∙ nothing-plus (waited c t rows))

  -- the maker's session joins or leaves a queue
  pub queue-keeps : (maker : Option Maker) (change : SessionId → List SessionId → List SessionId) (r : RequestId) (rows : List RequestEntry)
      → IsAtMost (waited c t (by_maker maker (λ session old. put_request_queue r (change session (request_queue r old)) old) rows)) (waited c t rows)
  queue-keeps None change r rows = IsAtMost-refl (waited c t rows)
  queue-keeps (Some maker) change r rows =
      sum_of-keep (waits_in c t) (λ (e : RequestEntry). same_request e.id r) (λ e. record e { queue = change maker.session (request_queue r rows) }) rows (λ e _. IsAtMost-refl (waits_in c t e))

  pub left-keeps : (change : SessionsChange) (rows : List RequestEntry) → IsAtMost (waited c t (requests_left change rows)) (waited c t rows)
  left-keeps (SessionsChange.End session) rows = sum_of-map (waits_in c t) (request_left session) rows (λ e. IsAtMost-refl (waits_in c t e))
  left-keeps _ rows = IsAtMost-refl (waited c t rows)

  pub remove-keeps : (r : RequestId) (rows : List RequestEntry) → IsAtMost (waited c t (remove_request r rows)) (waited c t rows)
  remove-keeps r rows = sum_of-remove_first (waits_in c t) (λ (e : RequestEntry). same_request e.id r) rows

  -- an edit of one request that waits for no more afterwards
  each-keeps : (change : RequestEdit) (k : RequestRecord) → keeps_wait change ≡ true → IsAtMost (waits c t (edited change k)) (waits c t k)
  each-keeps change k is = grind (arith, nat_tests, nothing-at_most (waits c t k), IsAtMost-refl (waits c t k))

  pub edit-keeps : (change : RequestEdit) (r : RequestId) (rows : List RequestEntry) → keeps_wait change ≡ true → IsAtMost (waited c t (edited_in change r rows)) (waited c t rows)
  edit-keeps change r rows is = sum_of-keep (waits_in c t) (λ (e : RequestEntry). same_request e.id r) (λ e. record e { kept = edited change e.kept }) rows (λ e _. each-keeps change e.kept is)

  -- a request that gets its next node waits for that much less
  pub gain-falls : (n : NodeId) (p : PoolId) (l : LabelId) (r : RequestId) (k : RequestRecord) (rows : List RequestEntry) → request_in r rows ≡ Some k → is_pending_by p k ≡ true → next_label k ≡ Some l
      → IsAtMost (plus (waited c t (edited_in (RequestEdit.AddNode n) r rows)) (part c t p l k)) (waited c t rows)
  gain-falls n p l r k rows has pending next =
      let row = row-of (λ (x : RequestEntry). x.kept) (request_entry r rows) k has in
      let same : row.0.kept ≡ k = kept-is (λ (x : RequestEntry). x.kept) (request_entry r rows) k row.0 has row.1 in
      sum_of-fall (waits_in c t) (λ (e : RequestEntry). same_request e.id r) (λ e. record e { kept = edited (RequestEdit.AddNode n) e.kept }) rows row.0 (part c t p l k) row.1
      (subst (λ (z : RequestRecord). IsAtMost (plus (waits c t (with_node z n)) (part c t p l k)) (waits c t z)) (sym same) (gains-falls k n p l pending next))

  -- a request that a pool begins to serve waits for no more than all its labels
  pub serve-rises : (p : PoolId) (r : RequestId) (k : RequestRecord) (rows : List RequestEntry) → request_in r rows ≡ Some k
      → IsAtMost (waited c t (edited_in (RequestEdit.Serve p) r rows)) (plus (waited c t rows) (whole c t p k))
  serve-rises p r k rows has =
      sum_of-rise (waits_in c t) (λ (e : RequestEntry). same_request e.id r) (λ e. record e { kept = edited (RequestEdit.Serve p) e.kept }) rows (whole c t p k)
      (λ e is.
      let same : e.kept ≡ k = kept-is (λ (x : RequestEntry). x.kept) (request_entry r rows) k e has is in
      subst (λ (z : RequestRecord). IsAtMost (waits c t (edited (RequestEdit.Serve p) z)) (plus (waits c t z) (whole c t p k))) (sym same) (serves-rises k p))
