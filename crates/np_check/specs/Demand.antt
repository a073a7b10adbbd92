-- which pools could serve a request, as the configuration alone says
use Rattle.std.specs.Prelude.{ℕ, zero, suc, ◌==◌, ◌*◌, Bool, false, ◌&&◌, ◌||◌, not, is_none, length, slice_get, nat_lt, if◌then◌else◌}
use Rattle.std.specs.List.{list_any}
use Rattle.std.specs.Option.{option_map_or}
use Rattle.np_check.specs.Lower.{Configuration, Job, JobId, LabelId, Offer, PoolId, RequestRecord, amount_of, asked_by, first_unoffered, fits, is_offered, limit_of, may_fit, never_fits, offers_of, ready_age, times}

-- a place below this one passes the test
abbrev pub any_below : (ℕ → Bool) → ℕ → Bool
any_below test zero = false
any_below test (suc n) = any_below test n || test n

-- a pool passes the test
abbrev pub some_pool : Configuration → (PoolId → Bool) → Bool
some_pool c test = any_below (λ n. test (record { 0 = n })) (length c.pools)

-- how many places below this one pass the test
abbrev pub number_below : (ℕ → Bool) → ℕ → ℕ
number_below test zero = 0
number_below test (suc n) = if test n then suc (number_below test n) else number_below test n

-- how many pools offer the label
abbrev pub pools_with : Configuration → LabelId → ℕ
pools_with c l = number_below (λ n. is_offered c (record { 0 = n }) l) (length c.pools)

-- the record of the job's request when it is submitted
abbrev pub request_of : JobId → Job → RequestRecord
request_of j job = (asked_by (record { priority = job.priority; seq = 0 }) j job).kept

-- the pool offers each label of the request
abbrev pub offers_all : Configuration → RequestRecord → PoolId → Bool
offers_all c request p = is_none (first_unoffered c p request)

-- and its limits allow all of them at once
abbrev pub has_room : Configuration → RequestRecord → PoolId → Bool
has_room c request p = offers_all c request p && not (never_fits c p request)

-- no pool offers each label
abbrev pub is_unoffered : Configuration → RequestRecord → Bool
is_unoffered c request = not (some_pool c (offers_all c request))

-- some pool offers each label, and none of these allows all of them at once
abbrev pub is_too_large : Configuration → RequestRecord → Bool
is_too_large c request = not (some_pool c (has_room c request)) && some_pool c (offers_all c request)

-- some pool allows all of them at once, and the tenant of the job allows it at none of these
abbrev pub is_above_tenant : Configuration → RequestRecord → Bool
is_above_tenant c request = not (some_pool c (λ p. may_fit c p request)) && some_pool c (has_room c request)

-- the job exists, and its request is so
abbrev pub asks : Configuration → JobId → (RequestRecord → Bool) → Bool
asks c j test = option_map_or (λ job. test (request_of j job)) (slice_get c.jobs j.0) false

abbrev pub min_ready_of : Configuration → LabelId → ℕ
min_ready_of c l = option_map_or (λ label. label.min_ready) (slice_get c.labels l.0) 0

-- another label, which is kept ready too
abbrev pub is_another_kept : Configuration → LabelId → Offer → Bool
is_another_kept c l o = not (o.label.0 == l.0) && nat_lt 0 (min_ready_of c o.label)

-- the pool offers the label, keeps no other ready, and its limits allow as many nodes of it as are to be kept ready
abbrev pub keeps_ready : Configuration → LabelId → PoolId → Bool
keeps_ready c l p = is_offered c p l && not (list_any (is_another_kept c l) (offers_of c p)) && fits (times (min_ready_of c l) (amount_of c p l)) (limit_of c p)

-- max-ready-age is so low that the first of the nodes to be kept ready is old long before the last is made: in a run each pool makes about two of them between two ticks, so that a site does not come to rest at an age below half of min-ready by the number of pools (measured); this is half of that (own)
abbrev pub is_restless : Configuration → LabelId → Bool
is_restless c l = nat_lt 0 (ready_age c l) && nat_lt (4 * pools_with c l * ready_age c l) (min_ready_of c l) && some_pool c (keeps_ready c l)
