-- the lines of requests: their ranks one after another, in runs, how many are past one, and which a search passes over
use Rattle.np_lookups.proofs.Prelude.{AllByRecursion, AreOpen, AreRequested, Bool, Configuration, Decides, Group, IsLeast, IsLineFrom, IsOpenFrom, IsRunEnd, IsWaiting, Job, JobId, LabelId, List, Member, None, OpenOf, Option, PoolId, Rank, RequestEntry, RequestRecord, Requested, Rises, Rises-filter, Some, State, TenantId, all-weaker, and-first, and-second, and_from, ap, arith, blocking, by_bool, closed_group, cond, count_before, count_by, count_by-le-length, drop, eqb-false, equal-numbers, false, false_from_ne_true, filter, filter-nothing, find, find-alike, first_line, first_unoffered, group-equal, group_from, has_limit, has_member, holder, ids-has, ids-rise, ids_in, if◌then◌else◌, inl, inr, is_closed_rank, is_declined_by, is_found_in, is_group_before, is_like, is_member_before, is_none, is_of_line, is_open_to, is_pinned_away, is_rank_before, is_requested, is_requested_at, is_run, is_tenant, least-found, length, length-filter_at_most, length-take-le, limit_of_tenant, line_after, line_if, line_of, list_any, list_any-there, map, nat_tests, never_fits, none-after, none-find, none-is, not, open_group, option_and_then, option_map, option_map_or, passes_tenant, past-end as end-past, past-rank, prefix-rank, prefix_len, rank_equal, rank_one_way, rank_some_way, rank_transitive, ranks_of, refl, request_entry, request_in, same-list, same_group, same_labels, same_number, same_rank, short_tenant, slice_eq-Decides, slice_get, slice_get_within, subst, suc, sum_by-cons, sym, take, tenant_of_request, true, zero, ℕ, [], ◌&&◌, ◌+◌, ◌-◌, ◌<◌, ◌==◌, ◌||◌, ◌∙◌, ◌∷◌, ◌≡◌, ◌≤◌, ◌⊎◌}
use Rattle.np_lookups.proofs.Members.{is_open}

-- # the lines that have ranks, one after another, and that the requests of a line are alike

-- ## the requests of a line

-- a request with these labels and nothing else
abbrev bare : List LabelId → RequestRecord
bare labels = record {
  declined = [];
  job = None;
  labels = labels;
  nodes = [];
  pinned = None;
  pool = None;
  relative_priority = 0;
  state = Requested;
}

-- the tenant that has no room now for a request that is pinned so, has these labels, and is the tenant's
abbrev blocks_as : Configuration → State → PoolId → Option PoolId → List LabelId → Option TenantId → Option TenantId
blocks_as c s p pinned labels tenant =
    if is_none pinned && (is_none (first_unoffered c p (bare labels)) && not (never_fits c p (bare labels)) && not (is_none pinned && option_map_or (passes_tenant c p (bare labels)) tenant false))
    then option_and_then (short_tenant c s p (bare labels)) tenant
    else None

tenant-is : (t : TenantId) (o : Option TenantId) → is_tenant t o ≡ true → o ≡ Some t
tenant-is t None is = absurd cc
tenant-is t (Some other) is = ap (λ (n : ℕ). Some (record { 0 = n })) (equal-numbers other.0 t.0 is)

label-decides : (a b : LabelId) → Decides (a.0 == b.0) (a ≡ b)
label-decides a b = (λ is. ap (λ (n : ℕ). record { 0 = n }) (equal-numbers a.0 b.0 is), λ is. same_number a.0 b.0 (ap (λ (l : LabelId). l.0) is))

-- a request of the line of a job is blocked as the job says
line-blocking : (c : Configuration) (s : State) (p : PoolId) (k : RequestRecord) (i : JobId) → is_of_line c k i ≡ true
    → blocking c s p k ≡ option_and_then (λ job. blocks_as c s p None job.labels (Some job.tenant)) (slice_get c.jobs i.0)
line-blocking c s p k i of = by (slice_get c.jobs i.0) (and-second (is_none k.pinned) (option_map_or (is_like c k) (slice_get c.jobs i.0) false) of) where
  by : (o : Option Job) → option_map_or (is_like c k) o false ≡ true → blocking c s p k ≡ option_and_then (λ job. blocks_as c s p None job.labels (Some job.tenant)) o
  by None like = absurd cc
  by (Some job) like =
      let free = and-first (is_none k.pinned) (option_map_or (is_like c k) (slice_get c.jobs i.0) false) of in
      let limited = and-first (is_tenant job.tenant (tenant_of_request c k) && has_limit (limit_of_tenant c job.tenant)) (same_labels job.labels k.labels) like in
      let labels = and-second (is_tenant job.tenant (tenant_of_request c k) && has_limit (limit_of_tenant c job.tenant)) (same_labels job.labels k.labels) like in
      ap (λ (pinned : Option PoolId). blocks_as c s p pinned k.labels (tenant_of_request c k)) (none-is k.pinned free)
      ∙ ap (λ (list : List LabelId). blocks_as c s p None list (tenant_of_request c k)) (sym ((slice_eq-Decides label-decides job.labels k.labels (same_labels job.labels k.labels) refl).0 labels))
      ∙ ap (blocks_as c s p None job.labels) (tenant-is job.tenant (tenant_of_request c k) (and-first (is_tenant job.tenant (tenant_of_request c k)) (has_limit (limit_of_tenant c job.tenant)) limited))

-- a line after the common one is that of a job
line-job : (c : Configuration) (lines : List JobId) (k : RequestRecord) (line : ℕ) → line_of c lines k ≡ suc line → is_of_line c k (record { 0 = line }) ≡ true
line-job c lines k line is = of (option_and_then (λ j. slice_get lines j.0) k.job) is where
  of : (o : Option JobId) → option_map_or (λ i. if is_of_line c k i then suc i.0 else 0) o 0 ≡ suc line → is_of_line c k (record { 0 = line }) ≡ true
  of None is = absurd (omega arith)
  of (Some i) is =
      by_bool (λ (b : Bool). cond b (suc i.0) 0 ≡ suc line → is_of_line c k (record { 0 = line }) ≡ true) (is_of_line c k i)
      (λ like same. let number : i.0 ≡ line = omega arith in subst (λ (j : JobId). is_of_line c k j ≡ true) (ap (λ (n : ℕ). record { 0 = n }) number) like)
      (λ other same. absurd (omega arith)) is

-- the same tenant, or none, has no room for each request of a line after the common one
pub line-blocks : (c : Configuration) (s : State) (p : PoolId) (lines : List JobId) (k other : RequestRecord) (line : ℕ)
    → line_of c lines k ≡ suc line → line_of c lines other ≡ suc line → blocking c s p k ≡ blocking c s p other
line-blocks c s p lines k other line is also =
    line-blocking c s p k (record { 0 = line }) (line-job c lines k line is) ∙ sym (line-blocking c s p other (record { 0 = line }) (line-job c lines other line also))

-- ## the lines one after another

-- ### groups of lines

-- what comes after the group of a line is what is not before that of the next
after-is : (line : ℕ) (g : Group) → is_group_before (open_group line) g ≡ not (is_group_before g (open_group (suc line)))
after-is line g = grind (arith, nat_tests)

open-is : (g : Group) → is_open g ≡ true → open_group g.third ≡ g
open-is g is = group-equal (open_group g.third) g is

-- an earlier group is not that of a later line
earlier-other : (g : Group) (line n : ℕ) → line ≤ n → not (is_group_before g (open_group line)) ≡ false → same_group g (open_group n) ≡ false
earlier-other g line n low first = grind (arith, nat_tests)

-- nor is one that is before that of the line, or not before a group that is after that of the later line
least-other : (g h : Group) (line n : ℕ) → line ≤ n → is_group_before (open_group n) g ≡ true → (not (not (is_group_before h (open_group line))) || not (is_group_before h g)) ≡ true → same_group h (open_group n) ≡ false
least-other g h line n low after least = false_from_ne_true (same_group h (open_group n)) (λ is.
    let it : h ≡ open_group n = group-equal h (open_group n) is in
    let first : (not (not (is_group_before (open_group n) (open_group line))) || not (is_group_before (open_group n) g)) ≡ true = rw it at least in
    let past : is_group_before (open_group n) (open_group line) ≡ false = grind (arith, nat_tests) in
    absurd (grind (arith, first, past, after)))

-- a group of requested requests that is not before that of a line is of that line or a later one
from-line : (g : Group) (line : ℕ) → not (is_group_before g (open_group line)) ≡ true → is_open g ≡ true → line ≤ g.third
from-line g line passes is = grind (arith, nat_tests)

-- it is after those of all earlier lines
before-open : (g : Group) (n : ℕ) → is_open g ≡ true → n < g.third → is_group_before (open_group n) g ≡ true
before-open g n is high = grind (arith, nat_tests)

-- any other group that is not before that of a line is after those of all later lines
before-other : (g : Group) (line n : ℕ) → not (is_group_before g (open_group line)) ≡ true → is_open g ≡ false → line ≤ n → is_group_before (open_group n) g ≡ true
before-other g line n passes out low = grind (arith, nat_tests)

-- ### members in order

-- no member is in the line's group
none-of : (n : ℕ) (ms : List (Member Rank)) → AllByRecursion (λ m. same_group m.group (open_group n) ≡ false) ms → ranks_of n ms ≡ []
none-of n ms none = ap (map (λ (m : Member Rank). m.id)) (filter-nothing (λ m. same_group m.group (open_group n)) ms none)

-- a member is in the group
some-of : (g : Group) (ms : List (Member Rank)) → list_any (λ m. same_group m.group g) ms ≡ true → 0 < length (ids_in g ms)
some-of g [] is = absurd cc
some-of g (x ∷ xs) is = grind (arith, some-of g xs)

line-from : (line : ℕ) (ms : List (Member Rank)) → Rises (is_member_before is_rank_before) ms → IsLineFrom ms line (line_if (group_from (open_group line) ms))
line-from line ms rises = by (find (λ m. not (is_group_before m.group (open_group line))) ms) refl where
  by : (o : Option (Member Rank)) → find (λ m. not (is_group_before m.group (open_group line))) ms ≡ o → IsLineFrom ms line (line_if (option_map (λ m. m.group) o))
  by None none = λ n low. none-of n ms
      (all-weaker (λ (m : Member Rank). not (is_group_before m.group (open_group line)) ≡ false) (λ (m : Member Rank). same_group m.group (open_group n) ≡ false) (λ m first. earlier-other m.group line n low first) ms
      (none-find (λ m. not (is_group_before m.group (open_group line))) ms none))
  by (Some first) found =
      by_bool (λ (b : Bool). IsLineFrom ms line (cond b (Some first.group.third) None)) (is_open first.group)
      (λ is. record {
        from = from-line first.group line least.passes is;
        some = subst (λ (g : Group). 0 < length (ids_in g ms)) (sym (open-is first.group is)) (some-of first.group ms least.member);
        none_before = λ n low high. none-least n low (before-open first.group n is high);
      })
      (λ out n low. none-least n low (before-other first.group line n least.passes out low))
    where
      least : IsLeast (λ g. not (is_group_before g (open_group line))) ms first.group
      least = least-found is_rank_before (λ g. not (is_group_before g (open_group line))) ms rises first.group (ap (option_map (λ (m : Member Rank). m.group)) found)

      none-least : (n : ℕ) → line ≤ n → is_group_before (open_group n) first.group ≡ true → ranks_of n ms ≡ []
      none-least n low after = none-of n ms
          (all-weaker (λ (m : Member Rank). (not (not (is_group_before m.group (open_group line))) || not (is_group_before m.group first.group)) ≡ true) (λ (m : Member Rank). same_group m.group (open_group n) ≡ false)
          (λ m is. least-other first.group m.group line n low after is) ms least.least)

module _ (c : Configuration) (s : State) (kept : OpenOf) (are : AreOpen c s kept) where
  -- the first line is the least that has a rank
  pub first-line : IsLineFrom kept.members 0 (first_line kept.members)
  first-line = line-from 0 kept.members are.rises

  -- and each next one is the least above
  pub next-line : (line : ℕ) → IsLineFrom kept.members (suc line) (line_after line kept.members)
  next-line line =
      subst (IsLineFrom kept.members (suc line))
      (ap (λ (o : Option (Member Rank)). line_if (option_map (λ (m : Member Rank). m.group) o))
      (sym (find-alike (λ m. is_group_before (open_group line) m.group) (λ m. not (is_group_before m.group (open_group (suc line)))) kept.members (λ m. after-is line m.group))))
      (line-from (suc line) kept.members are.rises)

-- # runs by counts

-- ## how many pass up to a place

module _ {X : Type 0} (p : X → Bool) where
  abbrev pub counted : List X → ℕ → ℕ
  counted xs at = length (filter p (take at xs))

  counted-next : (xs : List X) (at : ℕ) (x : X) → slice_get xs at ≡ Some x → counted xs (suc at) ≡ counted xs at + cond (p x) 1 0
  counted-next [] at x there = absurd cc
  counted-next (y ∷ ys) zero x there = let here : y ≡ x = cc in rw here (grind arith)
  counted-next (y ∷ ys) (suc at) x there = grind (arith, counted-next ys at x there)

  counted-most : (xs : List X) (at : ℕ) → at ≤ length xs → counted xs at ≤ at
  counted-most xs at within = omega (arith, length-filter_at_most p (take at xs), length-take-le at xs within)

  -- as many as there are places: all pass
  pub run-all : (xs : List X) (at after k : ℕ) (x : X) → after ≤ length xs → counted xs after ≡ counted xs at + (after - at)
      → at ≤ k → k < after → slice_get xs k ≡ Some x → p x ≡ true
  run-all [] at after k x within all low high there = absurd cc
  run-all (y ∷ ys) zero (suc after) zero x within all low high there = grind (arith, counted-most ys after)
  run-all (y ∷ ys) zero (suc after) (suc k) x within all low high there = grind (arith, counted-most ys after, run-all ys zero after k x)
  run-all (y ∷ ys) (suc at) (suc after) (suc k) x within all low high there = grind (arith, run-all ys at after k x)
  run-all (y ∷ ys) at after k x within all low high there = absurd (omega arith)

-- ## the closed ranks are a part of all

pub same_rank-itself : (a : Rank) → same_rank a a ≡ true
same_rank-itself a = grind (arith, nat_tests)

-- the rank is among those that pass if it passes and is there
pub has-passes : (q : Rank → Bool) (x : Rank) (ranks : List Rank) → list_any (λ k. same_rank k x) (filter q ranks) ≡ (q x && list_any (λ k. same_rank k x) ranks)
has-passes q x [] = grind arith
has-passes q x (k ∷ ks) = grind (arith, rank_equal k x, has-passes q x ks)

-- a record that is in the group of a pool is in the line's open group
found-open : (pools : ℕ) (of : RequestRecord → ℕ) (line : ℕ) (p : PoolId) (x : Rank) (found : Option RequestRecord)
    → is_found_in pools of (closed_group line p) x found ≡ true → is_found_in pools of (open_group line) x found ≡ true
found-open pools of line p x None is = is
found-open pools of line p x (Some k) is = grind (arith, nat_tests)

module _ (c : Configuration) (s : State) (kept : OpenOf) (are : AreOpen c s kept) (line : ℕ) (p : PoolId) where
  abbrev closed : Rank → Bool
  closed x = is_closed_rank line p x kept.members

  both : (x : Rank) → (closed x && has_member same_rank (open_group line) x kept.members) ≡ closed x
  both x = grind (arith, are.each (open_group line) x, are.each (closed_group line p) x, found-open (length c.pools) (line_of c kept.lines) line p x (request_in x.request s.requests))

  pub closed-part : ids_in (closed_group line p) kept.members ≡ filter closed (ranks_of line kept.members)
  closed-part =
      same-list is_rank_before same_rank rank_one_way rank_equal same_rank-itself
      (ids_in (closed_group line p) kept.members) (filter closed (ranks_of line kept.members))
      (ids-rise (closed_group line p) is_rank_before kept.members are.rises)
      (Rises-filter is_rank_before closed (ranks_of line kept.members) (ids-rise (open_group line) is_rank_before kept.members are.rises))
      (λ x. ids-has same_rank (closed_group line p) x kept.members
      ∙ sym (has-passes closed x (ranks_of line kept.members) ∙ ap (λ (b : Bool). closed x && b) (ids-has same_rank (open_group line) x kept.members) ∙ both x))

  -- so the count before a place is that of the closed ranks up to it
  count-is : (at : ℕ) → count_before line (closed_group line p) kept.members at ≡ counted closed (ranks_of line kept.members) at
  count-is at = by (slice_get (ranks_of line kept.members) at) refl where
    by : (o : Option Rank) → slice_get (ranks_of line kept.members) at ≡ o
        → option_map_or (λ rank. prefix_len (λ k. is_rank_before k rank) (ids_in (closed_group line p) kept.members)) o (length (ids_in (closed_group line p) kept.members)) ≡ counted closed (ranks_of line kept.members) at
    by None none = ap length closed-part ∙ sym (past-rank closed (ranks_of line kept.members) at (end-past (ranks_of line kept.members) at none))
    by (Some rank) there =
        ap (prefix_len (λ k. is_rank_before k rank)) closed-part
        ∙ prefix-rank is_rank_before rank_one_way closed (ranks_of line kept.members) at rank (ids-rise (open_group line) is_rank_before kept.members are.rises) there

  module _ (place : ℕ) (rank : Rank) (there : slice_get (ranks_of line kept.members) place ≡ Some rank) (is_closed : closed rank ≡ true)
      (after : ℕ) (ends : IsRunEnd line (closed_group line p) kept.members place after) where
    abbrev ranks : List Rank
    ranks = ranks_of line kept.members

    -- as many are closed up to the end as there are places
    run : counted closed ranks after ≡ counted closed ranks place + (after - place)
    run = by ends.run where
      by : (after ≡ place + 1) ⊎ (is_run line (closed_group line p) kept.members place after ≡ true) → counted closed ranks after ≡ counted closed ranks place + (after - place)
      by (inl one) =
          let next : after ≡ suc place = omega arith in
          let less : suc place - place ≡ 1 = omega arith in
          rw (next, less) (counted-next closed ranks place rank there ∙ rw is_closed refl)
      by (inr is) = sym (count-is after) ∙ equal-numbers _ _ is ∙ ap (λ (n : ℕ). n + (after - place)) (count-is place)

    -- so one more would be one more run
    not-there : (x : Rank) → slice_get ranks after ≡ Some x → closed x ≡ false
    not-there x here = by (closed x) refl ends.longest where
      by : (b : Bool) → closed x ≡ b → (after ≡ length ranks) ⊎ (is_run line (closed_group line p) kept.members place (after + 1) ≡ false) → b ≡ false
      by false is longest = refl
      by true is (inl last) = absurd (omega (arith, slice_get_within ranks after x here, last))
      by true is (inr out) =
          let next : after + 1 ≡ suc after = omega arith in
          let one : counted closed ranks (suc after) ≡ counted closed ranks after + 1 = counted-next closed ranks after x here ∙ rw is refl in
          let some : place < after = ends.some in
          absurd (eqb-false _ _ out (count-is (after + 1) ∙ ap (counted closed ranks) next ∙ omega (arith, one, run, count-is place)))

    pub open-after : IsOpenFrom kept.members line p place after
    open-after =
        let some : place < after = ends.some in
        let within : after ≤ length ranks = ends.within in
        record { from = omega arith; within = omega arith; closed_before = λ at x low high here. run-all closed ranks place after at x ends.within run low high here; open_there = not-there }

-- # what the ranks of a line say of the requests of a state, and which of them a search passes over

-- ## the ranks

found-requested : (c : Configuration) (lines : List JobId) (line : ℕ) (x : Rank) (found : Option RequestRecord)
    → is_found_in (length c.pools) (line_of c lines) (open_group line) x found ≡ is_requested_at c lines line x found
found-requested c lines line x None = refl
found-requested c lines line x (Some k) = grind (arith, nat_tests)

module _ (c : Configuration) (s : State) (kept : OpenOf) (are : AreOpen c s kept) (line : ℕ) where
  -- they are those of the line's requested requests
  pub ranks-are : AreRequested c s kept.lines line (ranks_of line kept.members)
  ranks-are = record {
    rises = ids-rise (open_group line) is_rank_before kept.members are.rises;
    each = λ x.
        ids-has same_rank (open_group line) x kept.members
        ∙ are.each (open_group line) x
        ∙ found-requested c kept.lines line x (request_in x.request s.requests);
    once = are.once;
  }

  -- a requested request waits in its line
  pub waits-there : (x : Rank) (k : RequestRecord) → IsWaiting c s kept.lines line x k → list_any (λ other. same_rank other x) (ranks_of line kept.members) ≡ true
  waits-there x k waits =
      ranks-are.each x
      ∙ ap (is_requested_at c kept.lines line x) waits.there
      ∙ rw (waits.requested) (and_from _ _ (same_number k.relative_priority x.relative waits.relative) (same_number (line_of c kept.lines k) line waits.of_line))

  -- and each rank of the line is that of such a request
  pub rank-waits : (at : ℕ) (x : Rank) → slice_get (ranks_of line kept.members) at ≡ Some x → (k : RequestRecord) × IsWaiting c s kept.lines line x k
  rank-waits at x is = by (request_in x.request s.requests) refl (sym (ranks-are.each x) ∙ list_any-there (λ other. same_rank other x) (ranks_of line kept.members) at x is (same_rank-itself x)) where
    by : (o : Option RequestRecord) → request_in x.request s.requests ≡ o → is_requested_at c kept.lines line x o ≡ true → (k : RequestRecord) × IsWaiting c s kept.lines line x k
    by None none all = absurd cc
    by (Some k) there all =
        let both = and-first (is_requested k.state && (k.relative_priority == x.relative)) (line_of c kept.lines k == line) all in (
          k,
          record {
            there = there;
            requested = and-first (is_requested k.state) (k.relative_priority == x.relative) both;
            relative = equal-numbers k.relative_priority x.relative (and-second (is_requested k.state) (k.relative_priority == x.relative) both);
            of_line = equal-numbers (line_of c kept.lines k) line (and-second (is_requested k.state && (k.relative_priority == x.relative)) (line_of c kept.lines k == line) all);
          },
        )

-- ## closed ranks

found-closed : (pools : ℕ) (of : RequestRecord → ℕ) (line : ℕ) (p : PoolId) (x : Rank) (o : Option RequestEntry)
    → is_found_in pools of (closed_group line p) x (option_map (λ e. e.kept) o) ≡ true → option_map_or (is_open_to p) o false ≡ false
found-closed pools of line p x None is = refl
found-closed pools of line p x (Some e) is =
    by (e.kept.relative_priority == x.relative) (is_requested e.kept.state) (same_group (closed_group (of e.kept) p) (closed_group line p)) _
    (is_declined_by p e.kept.declined) (is_pinned_away p e.kept) (is_none (holder e.queue)) is where
      by : (a b g w d q h : Bool) → (a && (b && (g && (w && (d || q))))) ≡ true → (b && h && not d && not q) ≡ false
      by a b g w d q h is = grind (arith, nat_tests)

-- the request of a closed rank is not open to the pool
pub closed-shut : (c : Configuration) (s : State) (kept : OpenOf) → AreOpen c s kept → (line : ℕ) (p : PoolId) (x : Rank) → is_closed_rank line p x kept.members ≡ true
    → option_map_or (is_open_to p) (request_entry x.request s.requests) false ≡ false
closed-shut c s kept are line p x is =
    found-closed (length c.pools) (line_of c kept.lines) line p x (request_entry x.request s.requests) (sym (are.each (closed_group line p) x) ∙ is)

-- ## a search

module _ {X : Type 0} (q : X → Bool) where
  filter-run : (xs : List X) (at found : ℕ) → at ≤ found → ((k : ℕ) (x : X) → at ≤ k → k < found → slice_get xs k ≡ Some x → q x ≡ false) → filter q (drop at xs) ≡ filter q (drop found xs)
  filter-run [] zero zero low none = refl
  filter-run [] zero (suc found) low none = refl
  filter-run [] (suc at) (suc found) low none = refl
  filter-run xs (suc at) zero low none = absurd (omega arith)
  filter-run (y ∷ ys) zero zero low none = refl
  filter-run (y ∷ ys) zero (suc found) low none =
      rw (none 0 y (omega arith) (omega arith) refl) (filter-run ys zero found (omega arith) (λ k x from high there. none (suc k) x (omega arith) (omega arith) there))
  filter-run (y ∷ ys) (suc at) (suc found) low none = filter-run ys at found (omega arith) (λ k x from high there. none (suc k) x (omega arith) (omega arith) there)

-- what passes from a place on passes from where the search ends on, if no closed rank passes
pub filter-open_from : (q : Rank → Bool) (line : ℕ) (p : PoolId) (members : List (Member Rank)) → ((x : Rank) → is_closed_rank line p x members ≡ true → q x ≡ false)
    → (place found : ℕ) → IsOpenFrom members line p place found → filter q (drop place (ranks_of line members)) ≡ filter q (drop found (ranks_of line members))
filter-open_from q line p members shut place found is =
    filter-run q (ranks_of line members) place found is.from (λ k x low high there. shut x (is.closed_before k x low high there))

-- # how many ranks of a line do not come after a rank

module _ (x : Rank) where
  abbrev earlier : Rank → Bool
  earlier k = is_rank_before k x

  abbrev is_past : Rank → Bool
  is_past k = not (is_rank_before x k)

  abbrev is_it : Rank → Bool
  is_it k = same_rank k x

  count-cons : (k : Rank) (ks : List Rank) → count_by is_past (k ∷ ks) ≡ cond (not (is_rank_before x k)) 1 0 + count_by is_past ks
  count-cons k ks = sum_by-cons (λ y. cond (is_past y) 1 0) k ks

  -- if all come after it, none of them is counted
  none-counted : (ks : List Rank) → AllByRecursion (λ k. is_rank_before x k ≡ true) ks → count_by is_past ks ≡ 0
  none-counted [] later = refl
  none-counted (k ∷ ks) later = count-cons k ks ∙ rw (later.0) (omega (arith, none-counted ks later.1))

  -- they are those before it, and the rank itself if it is there
  past-count : (ks : List Rank) → Rises is_rank_before ks → count_by is_past ks ≡ prefix_len earlier ks + cond (list_any is_it ks) 1 0
  past-count [] rises = refl
  past-count (k ∷ ks) rises =
      count-cons k ks
      ∙ grind (arith, rank_equal k x, rank_one_way x k, rank_one_way k x, rank_some_way k x, rank_one_way x x, none, other, own, past-count ks rises.1)
    where
      later : is_rank_before x k ≡ true → AllByRecursion (λ y. is_rank_before x y ≡ true) ks
      later first = all-weaker (λ y. is_rank_before k y ≡ true) (λ y. is_rank_before x y ≡ true) (λ y next. rank_transitive x k y first next) ks rises.0

      none : is_rank_before x k ≡ true → count_by is_past ks ≡ 0
      none first = none-counted ks (later first)

      other : is_rank_before x k ≡ true → list_any is_it ks ≡ false
      other first = none-after is_rank_before same_rank rank_one_way rank_equal x ks (later first)

      own : same_rank k x ≡ true → count_by is_past ks ≡ 0
      own is = none-counted ks (subst (λ (y : Rank). AllByRecursion (λ z. is_rank_before y z ≡ true) ks) (rank_equal k x is) rises.0)

-- the same, by what is found of a group in the members
module _ (line : ℕ) (x : Rank) (ms : List (Member Rank)) (rises : Rises (is_member_before is_rank_before) ms) (own : List (Member Rank)) (seen : own ≡ ms)
    (n : ℕ) (g : Group) (group : g ≡ open_group line) (before : n ≡ prefix_len (λ k. is_rank_before k x) (ids_in g own)) where
  abbrev tallied : ℕ
  tallied = count_by (λ k. not (is_rank_before x k)) (ranks_of line ms)

  all-counted : tallied ≡ n + cond (has_member same_rank g x own) 1 0
  all-counted = rw (before, group, seen) (
      past-count x (ranks_of line ms) (ids-rise (open_group line) is_rank_before ms rises)
      ∙ ap (λ (there : Bool). prefix_len (λ k. is_rank_before k x) (ranks_of line ms) + cond there 1 0) (ids-has same_rank (open_group line) x ms))

  pub past-there : has_member same_rank g x own ≡ true → n + 1 ≡ tallied
  past-there there = sym (rw there at all-counted)

  pub past-not_there : has_member same_rank g x own ≡ false → n ≡ tallied
  past-not_there out = let all : tallied ≡ n + 0 = rw out at all-counted in omega (arith, all)

  -- if all come before it, it is not there
  pub past-end : (all : ℕ) → all ≡ length (ids_in g own) → all ≤ n → n ≡ tallied
  past-end all is less = by (has_member same_rank g x own) refl where
    long : all ≡ length (ranks_of line ms)
    long = is ∙ rw (group, seen) refl

    by : (b : Bool) → has_member same_rank g x own ≡ b → n ≡ tallied
    by true there = absurd (omega (arith, past-there there, count_by-le-length (λ (k : Rank). not (is_rank_before x k)) (ranks_of line ms), long, less))
    by false out = past-not_there out
