-- the kinds of events, and what is counted of a run
use Rattle.std.specs.Prelude.{ℕ, Bool, true, false, List, [], ◌∷◌, ◌==◌, ◌&&◌, not, codes, slice_get, unwrap_or, ◌+◌, ◌-◌, max, ◌++◌, length, map, if◌then◌else◌, Option}
use Rattle.np_listing.specs.Lower.{Entry, Event, Outcome, is_done, Amount, Configuration, PoolId, SemId, State, TenantId, count_by, count_of, count_of_tenant, is_full, list_all, nothing, option_map, option_map_or, range_with_len, turns}
use Rattle.np_listing.specs.declared.rows.KindCount.{KindCount}
use Rattle.np_listing.specs.declared.rows.PoolPeak.{PoolPeak}
use Rattle.np_listing.specs.declared.rows.TenantPeak.{TenantPeak}
use Rattle.np_listing.specs.declared.rows.FullTime.{FullTime}

-- the kinds of events: each has a number, its place in the list of their words

-- the words with which the lines of events begin
abbrev pub kind_words : List (List ℕ)
kind_words =
    codes "tick" ∷ codes "open" ∷ codes "crash" ∷ codes "expire" ∷ codes "register" ∷ codes "submit" ∷ codes "revise" ∷ codes "min-ready"
    ∷ codes "lock-request" ∷ codes "unlock-request" ∷ codes "accept" ∷ codes "decline" ∷ codes "take-ready" ∷ codes "create" ∷ codes "start"
    ∷ codes "done" ∷ codes "fulfil" ∷ codes "lock-node" ∷ codes "unlock-node" ∷ codes "acquire" ∷ codes "take" ∷ codes "end-node"
    ∷ codes "finish" ∷ codes "withdraw" ∷ codes "release" ∷ codes "mark-deleting" ∷ codes "gone" ∷ codes "reset" ∷ codes "free-node"
    ∷ codes "fail-declined" ∷ codes "sweep" ∷ []

abbrev pub kind_word : ℕ → List ℕ
kind_word kind = unwrap_or (slice_get kind_words kind) []

abbrev pub kind_of : Event → ℕ
kind_of Event.Tick = 0
kind_of (Event.OpenSession role) = 1
kind_of (Event.Crash s) = 2
kind_of (Event.Expire s) = 3
kind_of (Event.Register s) = 4
kind_of (Event.Submit s j) = 5
kind_of (Event.Revise s j relative) = 6
kind_of (Event.MinReady s l) = 7
kind_of (Event.LockRequest s r) = 8
kind_of (Event.UnlockRequest s r) = 9
kind_of (Event.Accept s r) = 10
kind_of (Event.Decline s r why) = 11
kind_of (Event.TakeReady s r n) = 12
kind_of (Event.Create s r) = 13
kind_of (Event.Start s n) = 14
kind_of (Event.Done s n attempt what) = 15
kind_of (Event.Fulfil s r) = 16
kind_of (Event.LockNode s n) = 17
kind_of (Event.UnlockNode s n) = 18
kind_of (Event.Acquire s j) = 19
kind_of (Event.Take s j) = 20
kind_of (Event.EndNode s n end) = 21
kind_of (Event.Finish s j) = 22
kind_of (Event.Withdraw s j) = 23
kind_of (Event.Release s j) = 24
kind_of (Event.MarkDeleting s n) = 25
kind_of (Event.Gone s n) = 26
kind_of (Event.Reset s r) = 27
kind_of (Event.FreeNode s n) = 28
kind_of (Event.FailDeclined s r) = 29
kind_of (Event.Sweep s n server) = 30

-- ## what is asked of an entry

abbrev pub is_refused : Entry → Bool
is_refused entry = not (is_done entry.reply)

-- an event of this kind was accepted
abbrev pub is_of_kind : ℕ → Entry → Bool
is_of_kind kind entry = is_done entry.reply && (kind_of entry.event == kind)

abbrev pub reports_server : Event → Bool
reports_server (Event.Done s n attempt (Outcome.Launched server)) = true
reports_server _ = false

abbrev pub reports_failure : Event → Bool
reports_failure (Event.Done s n attempt Outcome.Failed) = true
reports_failure _ = false

-- a launch that succeeded was reported, and the report accepted
abbrev pub is_launched : Entry → Bool
is_launched entry = is_done entry.reply && reports_server entry.event

-- the same of a launch that failed
abbrev pub is_failed : Entry → Bool
is_failed entry = is_done entry.reply && reports_failure entry.event

-- what a run took: what is counted in its journal, and in the states after its entries

-- the states after each entry
abbrev pub states : Configuration → List Entry → List State
states c journal = map (λ turn. turn.later) (turns c journal)

-- ## the most that was used

-- of each part the larger
abbrev pub larger : Amount → Amount → Amount
larger a b = record { instances = max a.instances b.instances; cores = max a.cores b.cores; ram = max a.ram b.ram }

-- of each part the largest
abbrev pub largest : List Amount → Amount
largest [] = nothing
largest (a ∷ amounts) = larger a (largest amounts)

-- the most that the pool used after any entry
abbrev pub pool_peak : Configuration → List Entry → PoolId → Amount
pool_peak c journal p = largest (map (λ s. count_of c s p) (states c journal))

abbrev pub tenant_peak : Configuration → List Entry → TenantId → Amount
tenant_peak c journal t = largest (map (λ s. count_of_tenant c s t) (states c journal))

-- ## how long a semaphore was full

-- the longest end of the list of which all pass
abbrev pub last_row : {X : Type 0} → (X → Bool) → List X → List X
last_row p [] = []
last_row p (x ∷ xs) = if list_all p (x ∷ xs) then x ∷ xs else last_row p xs

-- since which tick it has passed: that of the first of the last states in a row that pass
abbrev pub since : (State → Bool) → List State → Option ℕ
since p states = option_map (λ s. s.tick) (slice_get (last_row p states) 0)

-- for how many ticks it has passed in this state, which comes after the earlier ones
abbrev pub ticks_in : (State → Bool) → List State → State → ℕ
ticks_in p earlier s = option_map_or (λ tick. s.tick - tick) (since p (earlier ++ s ∷ [])) 0

-- in which of the states it has passed the longest: for how many ticks
abbrev pub most_ticks : (State → Bool) → List State → List State → ℕ
most_ticks p earlier [] = 0
most_ticks p earlier (s ∷ states) = max (ticks_in p earlier s) (most_ticks p (earlier ++ s ∷ []) states)

abbrev pub full_in : Configuration → SemId → State → Bool
full_in c x s = is_full c s x

-- ## all of it

pub record Counted : Type 0 where
  -- of each kind of events how many were accepted
  pub kinds : List KindCount
  pub refused : ℕ
  -- how many launches were reported, by their outcome
  pub launched : ℕ
  pub failed : ℕ
  pub pools : List PoolPeak
  pub tenants : List TenantPeak
  pub semaphores : List FullTime

abbrev pub kind_count : List Entry → ℕ → KindCount
kind_count journal n = record { kind = n; count = count_by (is_of_kind n) journal }

abbrev pub pool_row : Configuration → List Entry → ℕ → PoolPeak
pool_row c journal n = record { pool = record { 0 = n }; most = pool_peak c journal (record { 0 = n }) }

abbrev pub tenant_row : Configuration → List Entry → ℕ → TenantPeak
tenant_row c journal n = record { tenant = record { 0 = n }; most = tenant_peak c journal (record { 0 = n }) }

abbrev pub semaphore_row : Configuration → List Entry → ℕ → FullTime
semaphore_row c journal n = record {
  semaphore = record { 0 = n };
  since = since (full_in c (record { 0 = n })) (states c journal);
  longest = most_ticks (full_in c (record { 0 = n })) [] (states c journal);
}

-- what the run of a journal took; tenant 0 is the tenant `default`
abbrev pub counted : Configuration → List Entry → Counted
counted c journal = record {
  kinds = map (kind_count journal) (range_with_len 0 31);
  refused = count_by is_refused journal;
  launched = count_by is_launched journal;
  failed = count_by is_failed journal;
  pools = map (pool_row c journal) (range_with_len 0 (length c.pools));
  tenants = map (tenant_row c journal) (range_with_len 0 (length c.tenants + 1));
  semaphores = map (semaphore_row c journal) (range_with_len 0 (length c.semaphores));
}
