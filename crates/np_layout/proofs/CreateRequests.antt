-- a create of a request's record, and then of its lock
use Rattle.np_layout.proofs.Prelude.{AllByRecursion, AllZip, Bool, Equal, Greater, HasGoodIds, HasParts-below, HasQueue, HasRoomFor, IsGood, IsWait, IsWhole, LaysOut, Less, List, Nodepool, None, NonePass, Op, PartsLayOut, Persistent, PersistentSequential, Place, Request, RequestEntry, RequestId, RequestLock, RequestLocks, RequestRecord, Requests, Row, Seen, Some, State, TreeState, [], after_part, all-insert_before, ap, append_assoc, arith, below, bytes_eq, cond, counter_after, decimal, false, insert_request, is_element, is_id_before, is_in, is_lt, is_named, is_path-below, length, make, map, nat_cmp, nat_lt, nat_tests, next_id, none-find, option_map, ordering_then, owner_at, path_of, persistent, place_name, refl, request_entry, request_lock_row, request_parts, request_prefix, request_record_text, request_row, request_text_of, room-falls, room-gives, row_before, same_request, slice_cmp, slice_cmp-request_text, subst, sym, ten_digits_of, true, with_row, ℕ, ◌++◌, ◌+◌, ◌==◌, ◌∙◌, ◌∷◌, ◌≡◌, ◌≤◌}
use Rattle.np_layout.proofs.Names.{is_element-plain, is_path-of, plain_name-append, plain_name-decimal}
use Rattle.np_layout.proofs.Rows.{none-mapped}
use Rattle.np_layout.proofs.Steps.{Step, make-new, create-step, free-named, owner-there}
use Rattle.np_layout.proofs.Elsewhere.{IsApart, Says, Stays, Table, all-tables, beside-apart, each-table, of_request_locks, of_requests, request_queues-stay, stays-more, table-stays}
use Rattle.np_layout.proofs.Deletes.{request-named}
use Rattle.np_lists.proofs.Plain.{by_bool}

-- ## rows in the order of requests

order-by : (a b c d : Bool) → (a ≡ true → b ≡ false) → is_lt (ordering_then (cond a Less (cond b Equal Greater)) (cond c Less (cond d Equal Greater))) ≡ cond b c a
order-by a b c d apart = grind (arith, nat_tests)

-- the order of names is that of requests
id-before : (a b : RequestId) → IsGood (Request a) → IsGood (Request b) → row_before (persistent (Request a) []) (persistent (Request b) []) ≡ is_id_before a b
id-before a b a_good b_good = ap is_lt (slice_cmp-request_text a b a_good b_good) ∙ order-by (nat_lt a.priority b.priority) (a.priority == b.priority) (nat_lt a.seq b.seq) (a.seq == b.seq) (λ is. grind (arith, nat_tests))

-- rows with the names of requests have one more where the request is put
insert-rows : (row : RequestEntry → Row) → ((e : RequestEntry) → (row e).name ≡ request_text_of e.id) → (new : RequestEntry) (list : List RequestEntry) → IsGood (Request new.id) → AllByRecursion (λ e. IsGood (Request e.id)) list →
    with_row (row new) (map row list) ≡ map row (insert_request new list)
insert-rows row names new [] new_good good = refl
insert-rows row names new (e ∷ list) new_good good =
    let same : row_before (row new) (row e) ≡ is_id_before new.id e.id =
    ap (λ (name : List ℕ). is_lt (slice_cmp nat_cmp name (row e).name)) (names new) ∙ ap (λ (name : List ℕ). is_lt (slice_cmp nat_cmp (request_text_of new.id) name)) (names e) ∙ id-before new.id e.id new_good good.0 in
    grind (arith, same, insert-rows row names new list new_good good.1)

-- ## the prefix of a request's name

pub is_element-prefix : (r : RequestId) → IsGood (Request r) → is_element (request_prefix r) ≡ true
is_element-prefix r good = let most = good.most in is_element-plain (request_prefix r) (plain_name-append (decimal r.priority) (45 ∷ []) (plain_name-decimal r.priority (omega arith)) refl)

prefix-name : (r : RequestId) → request_prefix r ++ ten_digits_of r.seq ≡ place_name (Request r)
unfolding request_text_of
prefix-name r = append_assoc (decimal r.priority) (45 ∷ []) (ten_digits_of r.seq)

module _ (s : State) (t : TreeState) (w priority : ℕ) (kept : RequestRecord) (whole : IsWhole t.nodes) (good : HasGoodIds s) (lays : LaysOut s t) (live : is_in t.live w ≡ true) (room : HasRoomFor 2 t)
    (r_good : IsGood (Request (next_id priority s))) (short : length (request_record_text kept) ≤ 65_536) (new : request_entry (next_id priority s) s.requests ≡ None) where
  abbrev r : RequestId
  r = next_id priority s

  abbrev entry : RequestEntry
  entry = record { id = r; kept = kept; queue = [] }

  abbrev bytes : List ℕ
  bytes = request_record_text kept

  abbrev part : Op
  part = Op.Create (below (path_of Requests) (request_prefix r)) bytes PersistentSequential

  -- no other request has its name
  others : (row : RequestEntry → Row) → ((e : RequestEntry) → (row e).name ≡ place_name (Request e.id)) → (list : List RequestEntry) → AllByRecursion (λ e. IsGood (Request e.id)) list → NonePass (λ (e : RequestEntry). same_request e.id r) list →
      NonePass (is_named (place_name (Request r))) (map row list)
  others row names list all_good none =
      none-mapped (λ (e : RequestEntry). IsGood (Request e.id)) row (is_named (place_name (Request r))) (λ e. same_request e.id r)
      (λ e e_good other. ap (λ (name : List ℕ). bytes_eq name (place_name (Request r))) (names e) ∙ request-named r e.id false other r_good e_good) list all_good none

  none : NonePass (λ (e : RequestEntry). same_request e.id r) s.requests
  none = none-find (λ (e : RequestEntry). same_request e.id r) s.requests new

  owner : owner_at t (path_of Requests) ≡ Some None
  owner = owner-there t Nodepool Requests _ whole tt refl lays.frame.nodepool refl (refl, (refl, (refl, (refl, tt))))

  first : Step Requests (Request r) PersistentSequential (request_row entry) t w part
  first =
      let parts = HasParts-below (path_of Requests) (request_prefix r) (is_path-of Requests tt) (is_element-prefix r r_good) in
      subst (λ (name : List ℕ). Step Requests (Request r) PersistentSequential (record { name = name; bytes = bytes; owner = None }) t w part) (prefix-name r)
      (create-step t w Requests (Request r) (below (path_of Requests) (request_prefix r)) (request_prefix r) bytes PersistentSequential s.next_request r_good refl refl
      (is_path-below (path_of Requests) (request_prefix r) (is_path-of Requests tt) (is_element-prefix r r_good)) parts.above parts.last (prefix-name r) short
      (let free = free-named t Requests (Request r) whole r_good refl (subst (λ (rows : List Row). NonePass (is_named (place_name (Request r))) rows) (sym lays.requests.rows) (others request_row (λ e. refl) s.requests good.requests none)) in
      assumption (owner, lays.requests.gives, room-gives t 1 room)))

  abbrev v : TreeState
  v = after_part t w part

  second : Step RequestLocks (RequestLock r) Persistent (request_lock_row entry) v w (make [] (RequestLock r))
  second =
      let v_owner : owner_at v (path_of RequestLocks) ≡ Some None = ap (option_map (λ (seen : Seen). seen.owner)) (first.creates.other_seen RequestLocks tt (λ same. absurd cc)) ∙ owner-there t Nodepool RequestLocks _ whole tt refl lays.frame.nodepool refl (refl, (refl, (refl, (refl, tt)))) in
      make-new v w RequestLocks (RequestLock r) _ [] Persistent v_owner r_good refl refl (λ counter. refl) (omega arith) first.creates.whole (ap (λ (list : List ℕ). is_in list w) first.creates.live ∙ live) (room-gives v 0 (room-falls t w part 1 room))
      (first.creates.stays.rows RequestLocks tt (beside-apart RequestLocks (Requests ∷ []) refl) ∙ lays.request_locks.rows) (others request_lock_row (λ e. refl) s.requests good.requests none)

  abbrev u : TreeState
  u = after_part v w (make [] (RequestLock r))

  stays : Stays (Requests ∷ RequestLocks ∷ []) t u
  stays = stays-more Requests (RequestLocks ∷ []) t v u first.creates.stays second.creates.stays

  request-lays : LaysOut (record s { requests = insert_request entry s.requests; next_request = s.next_request + 1 }) u
  request-lays = all-tables _ _ each where
    dirs : List Place
    dirs = Requests ∷ RequestLocks ∷ []

    aside : IsApart Requests (RequestLocks ∷ [])
    aside = beside-apart Requests (RequestLocks ∷ []) refl

    each : (k : Table) → Says (record s { requests = insert_request entry s.requests; next_request = s.next_request + 1 }) u k
    each of_requests = record {
      rows =
          second.creates.stays.rows Requests tt aside ∙ first.creates.rows ∙ ap (with_row (request_row entry)) lays.requests.rows
          ∙ insert-rows request_row (λ e. refl) entry s.requests r_good good.requests;
      leaves = second.creates.stays.leaves Requests tt refl aside (first.creates.leaves lays.requests.leaves);
      gives = second.creates.stays.counters Requests (s.next_request + 1) tt refl aside (first.creates.counter ∙ ap (option_map (counter_after PersistentSequential)) lays.requests.gives);
    }
    each of_request_locks = record {
      rows =
          second.creates.rows ∙ ap (with_row (request_lock_row entry)) (first.creates.stays.rows RequestLocks tt (beside-apart RequestLocks (Requests ∷ []) refl) ∙ lays.request_locks.rows)
          ∙ insert-rows request_lock_row (λ e. refl) entry s.requests r_good good.requests;
      queues = all-insert_before (λ (e : RequestEntry). HasQueue (RequestLock e.id) e.queue u) (λ (e : RequestEntry). is_id_before r e.id) entry s.requests (record { next = 0; gives = second.creates.new; waits = subst (λ (rows : List Row). AllZip (IsWait 0) rows []) (sym second.creates.empty) tt })
          (request_queues-stay dirs t u stays s.requests good.requests refl lays.request_locks.queues);
    }
    each k = table-stays s dirs t u good stays (second.creates.live ∙ first.creates.live) (second.creates.begun ∙ first.creates.begun) k refl (each-table s t lays k)

  -- creates of a request's record and of its lock lay out the state in which the request is
  pub grown_requests-lay-out : PartsLayOut (record s { requests = insert_request entry s.requests; next_request = s.next_request + 1 }) t w (request_parts r bytes)
  grown_requests-lay-out = record { goes = (first.ok, (second.ok, refl)); lays = request-lays }
