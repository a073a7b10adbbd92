-- an object without an optional key reads as the object with its default put in
use Rattle.np_config_read.proofs.Prelude.{AllStand, Data, Equal, Greater, JOBS, JobsOf, Label, Less, List, Members, None, Offer, Option, Ordering, PoolsOf, Providers, Requesters, Sem, Some, StandsFor, Tenant, ap, arith, boolean, bytes_eq, codes, configuration_at, count, default, demand_at, false, get_member, is-at_most, is_eq, items_from, job_at, job_defaults, job_keys, job_row, jobs_at, label_at, label_defaults, label_keys, label_row, length, limit_at, list_any, list_at, list_maybe, list_required, match_ordering, member, name_at, named_at, nat_cmp, no_members, no_rows, offer_amount, offer_at, offer_defaults, offer_keys, offer_label, offers_at, only_keys, pool_at, pool_defaults, pool_keys, pool_row, pools_at, provider_at, provider_defaults, provider_keys, provider_row, put, refl, requester_at, requester_defaults, requester_keys, requester_row, semaphore_at, semaphore_defaults, semaphore_keys, slice_cmp, starts_at, string, takes_at, top_defaults, top_keys, true, wants_at, word_value, ℕ, ◌&&◌, ◌+◌, ◌∙◌, ◌≡◌, ◌≤◌}

-- # what is found in an object with a member put in

abbrev pub other : List ℕ → List ℕ → Type 0
other k l = is_eq (slice_cmp nat_cmp k l) ≡ false

pub passed : (r : Ordering) (a b : Option Data) → is_eq r ≡ false → match_ordering r a b a ≡ a
passed Less a b e = refl
passed Equal a b e = absurd (cc)
passed Greater a b e = refl

pub reached : (r : Ordering) (a b : Option Data) → is_eq r ≡ true → match_ordering r a b a ≡ b
reached Less a b e = absurd (cc)
reached Equal a b e = refl
reached Greater a b e = absurd (cc)

module _ (k : List ℕ) (d : Data) where
  pub get-put : (ms : Members) → is_eq (slice_cmp nat_cmp k k) ≡ true → get_member k (put k d ms) ≡ Some d
  get-put no_members same = reached (slice_cmp nat_cmp k k) None (Some d) same
  get-put (member l e ms) same = by (slice_cmp nat_cmp k l) refl (get-put ms same)
    where
      by : (r : Ordering) → slice_cmp nat_cmp k l ≡ r → get_member k (put k d ms) ≡ Some d
          → get_member k (match_ordering r (member k d (member l e ms)) (member l d ms) (member l e (put k d ms))) ≡ Some d
      by Less is rest = reached (slice_cmp nat_cmp k k) (get_member k (member l e ms)) (Some d) same
      by Equal is rest = reached (slice_cmp nat_cmp k l) (get_member k ms) (Some d) (ap is_eq is)
      by Greater is rest = passed (slice_cmp nat_cmp k l) (get_member k (put k d ms)) (Some e) (ap is_eq is) ∙ rest

  -- another key finds what it found, if the key was absent
  pub get-put_other : (j : List ℕ) (ms : Members) → other j k → get_member k ms ≡ None → get_member j (put k d ms) ≡ get_member j ms
  get-put_other j no_members apart absent = passed (slice_cmp nat_cmp j k) None (Some d) apart
  get-put_other j (member l e ms) apart absent = by (slice_cmp nat_cmp k l) absent (get-put_other j ms apart)
    where
      by : (r : Ordering) → match_ordering r (get_member k ms) (Some e) (get_member k ms) ≡ None → (get_member k ms ≡ None → get_member j (put k d ms) ≡ get_member j ms)
          → get_member j (match_ordering r (member k d (member l e ms)) (member l d ms) (member l e (put k d ms))) ≡ get_member j (member l e ms)
      by Less absent rest = passed (slice_cmp nat_cmp j k) (get_member j (member l e ms)) (Some d) apart
      by Equal absent rest = absurd (cc)
      by Greater absent rest = ap (λ o. match_ordering (slice_cmp nat_cmp j l) o (Some e) o) (rest absent)

  pub keys-put : (keys : List (List ℕ)) (ms : Members) → list_any (bytes_eq k) keys ≡ true → only_keys keys (put k d ms) ≡ only_keys keys ms
  keys-put keys no_members known = rw known refl
  keys-put keys (member l e ms) known = by (slice_cmp nat_cmp k l) (keys-put keys ms known)
    where
      by : (r : Ordering) → only_keys keys (put k d ms) ≡ only_keys keys ms
          → only_keys keys (match_ordering r (member k d (member l e ms)) (member l d ms) (member l e (put k d ms))) ≡ only_keys keys (member l e ms)
      by Less rest = rw known refl
      by Equal rest = refl
      by Greater rest = ap (λ b. list_any (bytes_eq l) keys && b) rest

-- # an object without an optional key reads as the object with its default put in

module _ (at : List ℕ) (earlier : List Label) where
  pub label-defaults : AllStand (label_at at earlier) label_defaults
  unfolding label_at label_row named_at name_at
  label-defaults = (
    λ ms absent. rw (keys-put (codes "min-ready") (count 0) label_keys ms refl, get-put_other (codes "min-ready") (count 0) (codes "name") ms refl absent, get-put_other (codes "min-ready") (count 0) (codes "max-ready-age") ms refl absent, get-put (codes "min-ready") (count 0) ms refl, absent) refl,
    (
      λ ms absent. rw (keys-put (codes "max-ready-age") (count 0) label_keys ms refl, get-put_other (codes "max-ready-age") (count 0) (codes "name") ms refl absent, get-put_other (codes "max-ready-age") (count 0) (codes "min-ready") ms refl absent, get-put (codes "max-ready-age") (count 0) ms refl, absent) refl,
      tt,
    ),
  )

module _ (labels : List Label) (at : List ℕ) (s : Providers) where
  pub provider-defaults : AllStand (provider_at labels at s) provider_defaults
  unfolding provider_at provider_row pools_at list_required named_at name_at
  provider-defaults = (λ ms absent. rw (keys-put (codes "launch-retries") (count 3) provider_keys ms refl, get-put_other (codes "launch-retries") (count 3) (codes "name") ms refl absent, get-put_other (codes "launch-retries") (count 3) (codes "max-concurrency") ms refl absent, get-put_other (codes "launch-retries") (count 3) (codes "pools") ms refl absent, get-put (codes "launch-retries") (count 3) ms refl, absent) refl, tt)

module _ (labels : List Label) (at : List ℕ) (s : PoolsOf) where
  pub pool-defaults : AllStand (pool_at labels at s) pool_defaults
  unfolding pool_at pool_row limit_at offers_at starts_at list_required list_maybe list_at items_from named_at name_at
  pool-defaults = (λ ms absent. rw (keys-put (codes "fail-starts") no_rows pool_keys ms refl, get-put_other (codes "fail-starts") no_rows (codes "name") ms refl absent, get-put_other (codes "fail-starts") no_rows (codes "max-servers") ms refl absent, get-put_other (codes "fail-starts") no_rows (codes "max-cores") ms refl absent, get-put_other (codes "fail-starts") no_rows (codes "max-ram") ms refl absent, get-put_other (codes "fail-starts") no_rows (codes "labels") ms refl absent, get-put (codes "fail-starts") no_rows ms refl, absent) refl, tt)

module _ (labels : List Label) (at : List ℕ) (earlier : List Offer) where
  pub offer-defaults : AllStand (offer_at labels at earlier) offer_defaults
  unfolding offer_at offer_label offer_amount
  offer-defaults = (
    λ ms absent. rw (keys-put (codes "cores") (count 1) offer_keys ms refl, get-put_other (codes "cores") (count 1) (codes "name") ms refl absent, get-put_other (codes "cores") (count 1) (codes "ram") ms refl absent, get-put (codes "cores") (count 1) ms refl, absent) refl,
    (
      λ ms absent. rw (keys-put (codes "ram") (count 1024) offer_keys ms refl, get-put_other (codes "ram") (count 1024) (codes "name") ms refl absent, get-put_other (codes "ram") (count 1024) (codes "cores") ms refl absent, get-put (codes "ram") (count 1024) ms refl, absent) refl,
      tt,
    ),
  )

module _ (at : List ℕ) (earlier : List Sem) where
  pub semaphore-defaults : AllStand (semaphore_at at earlier) semaphore_defaults
  unfolding semaphore_at named_at name_at
  semaphore-defaults = (λ ms absent. rw (keys-put (codes "max") (count 1) semaphore_keys ms refl, get-put_other (codes "max") (count 1) (codes "name") ms refl absent, get-put (codes "max") (count 1) ms refl, absent) refl, tt)

module _ (labels : List Label) (semaphores : List Sem) (tenants : List Tenant) (at : List ℕ) (s : Requesters) (few : length s.jobs ≤ JOBS) where
  pub requester-defaults : AllStand (requester_at labels semaphores tenants at s) requester_defaults
  unfolding requester_at requester_row jobs_at list_maybe list_at items_from named_at name_at
  requester-defaults = (
    λ ms absent. rw (keys-put (codes "window") (count 20) requester_keys ms refl, get-put_other (codes "window") (count 20) (codes "name") ms refl absent, get-put_other (codes "window") (count 20) (codes "jobs") ms refl absent, get-put (codes "window") (count 20) ms refl, absent) refl,
    (
      λ ms absent. rw (keys-put (codes "jobs") no_rows requester_keys ms refl, get-put_other (codes "jobs") no_rows (codes "name") ms refl absent, get-put_other (codes "jobs") no_rows (codes "window") ms refl absent, get-put (codes "jobs") no_rows ms refl, absent, is-at_most (length s.jobs + 0) JOBS (omega arith)) refl,
      tt,
    ),
  )

module _ (labels : List Label) (semaphores : List Sem) (tenants : List Tenant) (at : List ℕ) (s : JobsOf) where
  pub job-defaults : AllStand (job_at labels semaphores tenants at s) job_defaults
  unfolding job_at demand_at job_row wants_at takes_at list_required list_maybe list_at items_from word_value named_at name_at
  job-defaults = (
    λ ms absent. rw (keys-put (codes "priority") (string (codes "normal")) job_keys ms refl, get-put_other (codes "priority") (string (codes "normal")) (codes "name") ms refl absent, get-put_other (codes "priority") (string (codes "normal")) (codes "labels") ms refl absent, get-put_other (codes "priority") (string (codes "normal")) (codes "relative-priority") ms refl absent, get-put_other (codes "priority") (string (codes "normal")) (codes "semaphores") ms refl absent, get-put_other (codes "priority") (string (codes "normal")) (codes "resources-first") ms refl absent, get-put_other (codes "priority") (string (codes "normal")) (codes "end") ms refl absent, get-put_other (codes "priority") (string (codes "normal")) (codes "tenant") ms refl absent, get-put (codes "priority") (string (codes "normal")) ms refl, absent) refl,
    (
      λ ms absent. rw (keys-put (codes "relative-priority") (count 0) job_keys ms refl, get-put_other (codes "relative-priority") (count 0) (codes "name") ms refl absent, get-put_other (codes "relative-priority") (count 0) (codes "labels") ms refl absent, get-put_other (codes "relative-priority") (count 0) (codes "priority") ms refl absent, get-put_other (codes "relative-priority") (count 0) (codes "semaphores") ms refl absent, get-put_other (codes "relative-priority") (count 0) (codes "resources-first") ms refl absent, get-put_other (codes "relative-priority") (count 0) (codes "end") ms refl absent, get-put_other (codes "relative-priority") (count 0) (codes "tenant") ms refl absent, get-put (codes "relative-priority") (count 0) ms refl, absent) refl,
      (
        λ ms absent. rw (keys-put (codes "semaphores") no_rows job_keys ms refl, get-put_other (codes "semaphores") no_rows (codes "name") ms refl absent, get-put_other (codes "semaphores") no_rows (codes "labels") ms refl absent, get-put_other (codes "semaphores") no_rows (codes "priority") ms refl absent, get-put_other (codes "semaphores") no_rows (codes "relative-priority") ms refl absent, get-put_other (codes "semaphores") no_rows (codes "resources-first") ms refl absent, get-put_other (codes "semaphores") no_rows (codes "end") ms refl absent, get-put_other (codes "semaphores") no_rows (codes "tenant") ms refl absent, get-put (codes "semaphores") no_rows ms refl, absent) refl,
        (
          λ ms absent. rw (keys-put (codes "resources-first") (boolean false) job_keys ms refl, get-put_other (codes "resources-first") (boolean false) (codes "name") ms refl absent, get-put_other (codes "resources-first") (boolean false) (codes "labels") ms refl absent, get-put_other (codes "resources-first") (boolean false) (codes "priority") ms refl absent, get-put_other (codes "resources-first") (boolean false) (codes "relative-priority") ms refl absent, get-put_other (codes "resources-first") (boolean false) (codes "semaphores") ms refl absent, get-put_other (codes "resources-first") (boolean false) (codes "end") ms refl absent, get-put_other (codes "resources-first") (boolean false) (codes "tenant") ms refl absent, get-put (codes "resources-first") (boolean false) ms refl, absent) refl,
          (
            λ ms absent. rw (keys-put (codes "end") (string (codes "used")) job_keys ms refl, get-put_other (codes "end") (string (codes "used")) (codes "name") ms refl absent, get-put_other (codes "end") (string (codes "used")) (codes "labels") ms refl absent, get-put_other (codes "end") (string (codes "used")) (codes "priority") ms refl absent, get-put_other (codes "end") (string (codes "used")) (codes "relative-priority") ms refl absent, get-put_other (codes "end") (string (codes "used")) (codes "semaphores") ms refl absent, get-put_other (codes "end") (string (codes "used")) (codes "resources-first") ms refl absent, get-put_other (codes "end") (string (codes "used")) (codes "tenant") ms refl absent, get-put (codes "end") (string (codes "used")) ms refl, absent) refl,
            (
              λ ms absent. rw (keys-put (codes "tenant") (string (codes "default")) job_keys ms refl, get-put_other (codes "tenant") (string (codes "default")) (codes "name") ms refl absent, get-put_other (codes "tenant") (string (codes "default")) (codes "labels") ms refl absent, get-put_other (codes "tenant") (string (codes "default")) (codes "priority") ms refl absent, get-put_other (codes "tenant") (string (codes "default")) (codes "relative-priority") ms refl absent, get-put_other (codes "tenant") (string (codes "default")) (codes "semaphores") ms refl absent, get-put_other (codes "tenant") (string (codes "default")) (codes "resources-first") ms refl absent, get-put_other (codes "tenant") (string (codes "default")) (codes "end") ms refl absent, get-put (codes "tenant") (string (codes "default")) ms refl, absent) refl,
              tt,
            ),
          ),
        ),
      ),
    ),
  )

pub top-defaults : AllStand (configuration_at) top_defaults
unfolding configuration_at list_required list_maybe list_at items_from
top-defaults = (
  λ ms absent. rw (keys-put (codes "max-hold-age") (count 0) top_keys ms refl, get-put_other (codes "max-hold-age") (count 0) (codes "labels") ms refl absent, get-put_other (codes "max-hold-age") (count 0) (codes "providers") ms refl absent, get-put_other (codes "max-hold-age") (count 0) (codes "semaphores") ms refl absent, get-put_other (codes "max-hold-age") (count 0) (codes "requesters") ms refl absent, get-put_other (codes "max-hold-age") (count 0) (codes "faults") ms refl absent, get-put_other (codes "max-hold-age") (count 0) (codes "tenants") ms refl absent, get-put (codes "max-hold-age") (count 0) ms refl, absent) refl,
  (
    λ ms absent. rw (keys-put (codes "semaphores") no_rows top_keys ms refl, get-put_other (codes "semaphores") no_rows (codes "labels") ms refl absent, get-put_other (codes "semaphores") no_rows (codes "max-hold-age") ms refl absent, get-put_other (codes "semaphores") no_rows (codes "providers") ms refl absent, get-put_other (codes "semaphores") no_rows (codes "requesters") ms refl absent, get-put_other (codes "semaphores") no_rows (codes "faults") ms refl absent, get-put_other (codes "semaphores") no_rows (codes "tenants") ms refl absent, get-put (codes "semaphores") no_rows ms refl, absent) refl,
    (
      λ ms absent. rw (keys-put (codes "tenants") no_rows top_keys ms refl, get-put_other (codes "tenants") no_rows (codes "labels") ms refl absent, get-put_other (codes "tenants") no_rows (codes "max-hold-age") ms refl absent, get-put_other (codes "tenants") no_rows (codes "providers") ms refl absent, get-put_other (codes "tenants") no_rows (codes "semaphores") ms refl absent, get-put_other (codes "tenants") no_rows (codes "requesters") ms refl absent, get-put_other (codes "tenants") no_rows (codes "faults") ms refl absent, get-put (codes "tenants") no_rows ms refl, absent) refl,
      (
        λ ms absent. rw (keys-put (codes "requesters") no_rows top_keys ms refl, get-put_other (codes "requesters") no_rows (codes "labels") ms refl absent, get-put_other (codes "requesters") no_rows (codes "max-hold-age") ms refl absent, get-put_other (codes "requesters") no_rows (codes "providers") ms refl absent, get-put_other (codes "requesters") no_rows (codes "semaphores") ms refl absent, get-put_other (codes "requesters") no_rows (codes "faults") ms refl absent, get-put_other (codes "requesters") no_rows (codes "tenants") ms refl absent, get-put (codes "requesters") no_rows ms refl, absent) refl,
        (
          λ ms absent. rw (keys-put (codes "faults") no_rows top_keys ms refl, get-put_other (codes "faults") no_rows (codes "labels") ms refl absent, get-put_other (codes "faults") no_rows (codes "max-hold-age") ms refl absent, get-put_other (codes "faults") no_rows (codes "providers") ms refl absent, get-put_other (codes "faults") no_rows (codes "semaphores") ms refl absent, get-put_other (codes "faults") no_rows (codes "requesters") ms refl absent, get-put_other (codes "faults") no_rows (codes "tenants") ms refl absent, get-put (codes "faults") no_rows ms refl, absent) refl,
          tt,
        ),
      ),
    ),
  ),
)
