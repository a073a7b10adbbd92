-- the driver of a pool, with hosts or without, and the lists of server numbers that are sound for it
use Rattle.std.proofs.Common.{◌≡◌, ℕ, suc, ◌+◌, ◌<◌, ◌≤◌, ◌==◌, nat_lt, true, List, [], ◌∷◌, length, refl, arith}
use Rattle.std.specs.Prelude.{slice_index, Bool, if◌then◌else◌, sum, Option, Some, None}
use Rattle.std.specs.List.{AllByRecursion}
use Rattle.std.proofs.lemmas.Bool.{and_from}
use Rattle.std.proofs.lemmas.Bool.Decides.{nat_tests}
use Rattle.np_static.specs.Loads.{host_of, load_of, none_above, have_hosts, is_sound, KeepsLoads, first_free, server_number}
use Rattle.np_static.specs.Counts.{count-fewer, all-fewer}
use Rattle.np_static.specs.declared.driver.HostDriver.{HostDriver}
use Rattle.np_static.specs.declared.site.SiteDriver.{SiteDriver}
use Rattle.np_static.specs.Lower.{DistinctNumbers, DriverFacts, MOST_LAUNCHES, Outcome, PoolId, Simulation, Soundness, Tag, Told, after_launch, after_removal, every_list, facts_of, is_number, numbers_of, simulated_outcome, simulation_facts, simulation_plan, soundness_of_every_list, told_nothing}

-- the lists of server numbers that are sound: what a driver's law of them needs

pub none_above-each : (h : ℕ) (hosts numbers : List ℕ) → ((k i : ℕ) → i ≡ h + k → k < length hosts → load_of i numbers ≤ slice_index hosts k) → none_above h hosts numbers ≡ true
none_above-each h [] numbers each = refl
none_above-each h (most ∷ hosts) numbers each =
    grind (arith, nat_tests, each 0 h (omega arith) (omega arith), none_above-each (suc h) hosts numbers (λ k i same less. each (suc k) i (omega arith) (omega arith)))

none_above-less : (h : ℕ) (hosts numbers fewer : List ℕ) → ((i : ℕ) → load_of i fewer ≤ load_of i numbers) → none_above h hosts numbers ≡ true → none_above h hosts fewer ≡ true
none_above-less h [] numbers fewer less above = refl
none_above-less h (most ∷ hosts) numbers fewer less above = grind (arith, nat_tests, less h, none_above-less (suc h) hosts numbers fewer less)

-- the servers of a driver that keeps its loads are sound
pub sound-kept : (hosts loads : List ℕ) (from : ℕ) (numbers : List ℕ) → KeepsLoads hosts loads from numbers → is_sound hosts numbers ≡ true
sound-kept hosts loads from numbers keeps =
    and_from (none_above 0 hosts numbers) (have_hosts (length hosts) numbers)
    (none_above-each 0 hosts numbers (λ k i same less. grind (arith, keeps.counted k less, keeps.carried k less))) keeps.known

-- so is a list without repeats of members of a sound one
pub sound-fewer : (hosts numbers fewer : List ℕ) → is_sound hosts numbers ≡ true → DistinctNumbers fewer → AllByRecursion (λ x. is_number x numbers ≡ true) fewer → is_sound hosts fewer ≡ true
sound-fewer hosts numbers fewer sound distinct within =
    grind (arith, none_above-less 0 hosts numbers fewer (λ i. count-fewer (λ x. host_of x == i) numbers fewer distinct within), all-fewer (λ x. nat_lt (host_of x) (length hosts)) numbers fewer)

-- the hosts of a pool, as contracts see their driver

-- the hosts of a pool (Nodepool: a pool of the static driver)
pub record Hosting : Type 0 where
  -- the pool that they serve
  pub pool : PoolId
  -- how many servers each host carries at once
  pub hosts : List ℕ
  pub told : Told

-- a driver as contracts see it (own)
abbrev pub hosting : HostDriver → Hosting
hosting d = record { pool = d.pool; hosts = d.hosts.items; told = d.inventory }

-- these hosts of a pool, before the first launch (own)
abbrev pub hosting_of : PoolId → List ℕ → Hosting
hosting_of p hosts = record { pool = p; hosts = hosts; told = told_nothing }

-- a launch of this number takes the host, if there is one (own)
abbrev pub launch_on : ℕ → Option ℕ → Outcome
launch_on k (Some h) = Outcome.Launched (server_number k h)
launch_on k None = Outcome.Failed

-- the next launch takes the first host that has fewer servers than it carries; after so many launches each fails (own)
abbrev pub hosted_outcome : Hosting → Outcome
hosted_outcome d =
    if nat_lt (length d.told.answered) MOST_LAUNCHES
    then launch_on (suc (length d.told.answered)) (first_free 0 d.hosts (numbers_of d.told.servers))
    else Outcome.Failed

-- it reports everything, and none of its removals fails (own)
abbrev pub host_facts : HostDriver → DriverFacts
host_facts d = facts_of d.inventory 0

-- the lists of server numbers that are sound for its hosts (own)
abbrev pub host_sound : HostDriver → List ℕ → Bool
host_sound d = is_sound d.hosts.items

-- its servers are sound
pub host_soundness : (d : HostDriver) → Soundness (host_facts d) (host_sound d)
host_soundness d = record {
  servers = sound-kept d.hosts.items d.loads.items d.from (numbers_of d.inventory.servers) d.keeps;
  fewer = sound-fewer d.hosts.items;
}

-- how many servers its hosts carry together (own)
abbrev pub host_room : HostDriver → ℕ
host_room d = sum d.hosts.items

-- the driver of a pool, with hosts or without, as contracts see it

-- the driver of a pool (own)
pub data Site : Type 0 where
  -- a pool without hosts has its simulated cloud
  simulated : Simulation → Site
  hosted : Hosting → Site

-- a driver as contracts see it (own)
abbrev pub site_of : SiteDriver → Site
site_of (SiteDriver.Sim cloud) = simulated cloud
site_of (SiteDriver.Hosts hosts) = hosted (hosting hosts)

-- what it reports (own)
abbrev pub told_of : Site → Told
told_of (simulated cloud) = cloud.told
told_of (hosted hosts) = hosts.told

-- the same driver, with this to report (own)
abbrev pub with_told : Told → Site → Site
with_told told (simulated cloud) = simulated (record cloud { told = told })
with_told told (hosted hosts) = hosted (record hosts { told = told })

-- what becomes of the next launch (own)
abbrev pub site_outcome : Site → Tag → Outcome
site_outcome (simulated cloud) tag = simulated_outcome cloud tag.start
site_outcome (hosted hosts) tag = hosted_outcome hosts

-- what is planned for a launch: hosts follow no plan (own)
abbrev pub site_planned : Site → Tag → Option Outcome
site_planned (simulated cloud) tag = simulation_plan cloud tag
site_planned (hosted hosts) tag = None

-- the lists of server numbers that are sound (own)
abbrev pub sound_at : Site → List ℕ → Bool
sound_at (simulated cloud) numbers = every_list numbers
sound_at (hosted hosts) numbers = is_sound hosts.hosts numbers

-- for how many servers there is room; the cloud of a pool without hosts has no number (own)
abbrev pub room_at : Site → ℕ
room_at (simulated cloud) = 0
room_at (hosted hosts) = sum hosts.hosts

-- ## a driver, by its variant

-- it reports everything, and none of its removals fails (own)
abbrev pub site_facts : SiteDriver → DriverFacts
site_facts d = facts_of (told_of (site_of d)) 0

abbrev pub site_plan : SiteDriver → Tag → Option Outcome
site_plan d = site_planned (site_of d)

abbrev pub site_sound : SiteDriver → List ℕ → Bool
site_sound d = sound_at (site_of d)

-- its servers are sound
pub site_soundness : (d : SiteDriver) → Soundness (site_facts d) (site_sound d)
site_soundness (SiteDriver.Sim cloud) = soundness_of_every_list (simulation_facts cloud)
site_soundness (SiteDriver.Hosts hosts) = host_soundness hosts

abbrev pub site_room : SiteDriver → ℕ
site_room d = room_at (site_of d)

-- a worked driver: what its calls leave

-- after a launch of this tag
abbrev pub launched : Hosting → Tag → Hosting
launched d tag = record d { told = after_launch d.told tag (hosted_outcome d) }

-- after a removal of the servers of this number
abbrev pub removed : Hosting → ℕ → Hosting
removed d x = record d { told = after_removal d.told x }
