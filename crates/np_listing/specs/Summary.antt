-- how what was counted changes with an entry, and the text of what a run took
use Rattle.std.specs.Prelude.{ℕ, ◌+◌, ◌-◌, ◌^◌, max, min, Bool, map, if◌then◌else◌, Option, Some, None, true, false, ◌==◌, List, [], ◌++◌, codes, decimal, length}
use Rattle.np_listing.specs.declared.rows.KindCount.{KindCount}
use Rattle.np_listing.specs.declared.rows.PoolPeak.{PoolPeak}
use Rattle.np_listing.specs.declared.rows.TenantPeak.{TenantPeak}
use Rattle.np_listing.specs.declared.rows.FullTime.{FullTime}
use Rattle.np_listing.specs.Tally.{is_failed, is_launched, is_of_kind, is_refused, kind_word, Counted, larger, counted}
use Rattle.np_listing.specs.Lower.{Configuration, Entry, State, count_of, count_of_tenant, is_full, option_map_or, Ending, after, amount_words, count_by, flat_map, limit_of, limit_of_tenant, pool_words, semaphore_words, tenant_words}
use Rattle.np_listing.specs.declared.fates.Fate.{Fate}

-- one entry more: how what was counted changes, given the state after it

-- one more, if it is counted and there is room for one more
abbrev pub one_more : ℕ → Bool → ℕ
one_more count is_counted = if is_counted then min (count + 1) (2 ^ 32 - 1) else count

abbrev pub more_of_kind : Entry → KindCount → KindCount
more_of_kind entry row = record { kind = row.kind; count = one_more row.count (is_of_kind row.kind entry) }

abbrev pub raised_pool : Configuration → State → PoolPeak → PoolPeak
raised_pool c s row = record { pool = row.pool; most = larger row.most (count_of c s row.pool) }

abbrev pub raised_tenant : Configuration → State → TenantPeak → TenantPeak
raised_tenant c s row = record { tenant = row.tenant; most = larger row.most (count_of_tenant c s row.tenant) }

-- since which tick it has been full, if it is full now
abbrev pub since_now : Bool → ℕ → Option ℕ → Option ℕ
since_now full tick None = if full then Some tick else None
since_now full tick (Some before) = if full then Some before else None

abbrev pub watched : Configuration → State → FullTime → FullTime
watched c s row = record {
  semaphore = row.semaphore;
  since = since_now (is_full c s row.semaphore) s.tick row.since;
  longest = max row.longest (option_map_or (λ tick. s.tick - tick) (since_now (is_full c s row.semaphore) s.tick row.since) 0);
}

abbrev pub noted : Configuration → State → Entry → Counted → Counted
noted c s entry t = record {
  kinds = map (more_of_kind entry) t.kinds;
  refused = one_more t.refused (is_refused entry);
  launched = one_more t.launched (is_launched entry);
  failed = one_more t.failed (is_failed entry);
  pools = map (raised_pool c s) t.pools;
  tenants = map (raised_tenant c s) t.tenants;
  semaphores = map (watched c s) t.semaphores;
}

-- the text of what a run took

-- a number and what there are so many of
abbrev pub count_words : ℕ → List ℕ → List ℕ
count_words n words = decimal n ++ codes " " ++ words

-- ## what became of the jobs

-- a job that ended so has this fate
abbrev pub has_fate : Fate → Option Ending → Bool
has_fate Fate.Served (Some Ending.Served) = true
has_fate Fate.Failed (Some Ending.Failed) = true
has_fate Fate.Lost (Some Ending.Lost) = true
has_fate Fate.Withdrawn (Some Ending.Withdrawn) = true
has_fate Fate.Open None = true
has_fate _ _ = false

-- how many jobs have it
abbrev pub fate_count : State → Fate → ℕ
fate_count s what = count_by (λ job. has_fate what job.ending) s.jobs

abbrev pub fates_line : State → List ℕ
fates_line s =
    codes "jobs: " ++ count_words (length s.jobs) (codes "in all, ") ++ count_words (fate_count s Fate.Served) (codes "served, ")
    ++ count_words (fate_count s Fate.Failed) (codes "failed, ") ++ count_words (fate_count s Fate.Lost) (codes "lost, ")
    ++ count_words (fate_count s Fate.Withdrawn) (codes "withdrawn, ") ++ count_words (fate_count s Fate.Open) (codes "not over\n")

-- ## the other lines

abbrev pub ticks_line : ℕ → List ℕ
ticks_line tick = codes "ticks: " ++ decimal tick ++ codes "\n"

-- kinds of which there was no event are left out
abbrev pub kind_text : KindCount → List ℕ
kind_text row = if row.count == 0 then [] else kind_word row.kind ++ codes " " ++ decimal row.count ++ codes ", "

abbrev pub events_line : List KindCount → ℕ → List ℕ
events_line kinds refused = codes "events: " ++ flat_map kind_text kinds ++ count_words refused (codes "refused\n")

abbrev pub launches_line : ℕ → ℕ → List ℕ
launches_line launched failed = codes "launches: " ++ count_words launched (codes "succeeded, ") ++ count_words failed (codes "failed\n")

-- the most that was used, beside the limit
abbrev pub pool_line : Configuration → PoolPeak → List ℕ
pool_line c row = codes "pool " ++ pool_words c row.pool ++ codes ": at most " ++ amount_words row.most (limit_of c row.pool) ++ codes "\n"

abbrev pub tenant_line : Configuration → TenantPeak → List ℕ
tenant_line c row = codes "tenant " ++ tenant_words c row.tenant ++ codes ": at most " ++ amount_words row.most (limit_of_tenant c row.tenant) ++ codes "\n"

abbrev pub semaphore_line : Configuration → FullTime → List ℕ
semaphore_line c row = codes "semaphore " ++ semaphore_words c row.semaphore ++ codes ": full for at most " ++ count_words row.longest (codes "ticks\n")

-- ## all of them

-- what was counted, in the state at the end
unfoldable pub text_of : Configuration → State → Counted → List ℕ
text_of c s t =
    fates_line s ++ ticks_line s.tick ++ events_line t.kinds t.refused ++ launches_line t.launched t.failed
    ++ flat_map (pool_line c) t.pools ++ flat_map (tenant_line c) t.tenants ++ flat_map (semaphore_line c) t.semaphores

-- the summary of the run of a journal
abbrev pub summary_of : Configuration → List Entry → List ℕ
summary_of c journal = text_of c (after c journal) (counted c journal)
