-- what a driver in memory reports, and how a launch and a removal change it
use Rattle.std.specs.Prelude.{◌≡◌, ℕ, List, [], Some, Result, Ok, Err, Option, None, length, slice_get, ◌==◌, if◌then◌else◌, zero, suc, ◌∷◌, ◌++◌}
use Rattle.np_io.specs.Memory.{counted}
use Rattle.np_event.specs.declared.event.Outcome.{Outcome}
use Rattle.np_cloud.specs.declared.driver.Tag.{Tag}
use Rattle.np_cloud.specs.declared.driver.Launch.{Launch}
use Rattle.np_cloud.specs.declared.driver.Server.{Server}
use Rattle.np_cloud.specs.declared.driver.LaunchFault.{LaunchFault}
use Rattle.np_cloud.specs.Facts.{DriverFacts}
use Rattle.np_cloud.specs.Calls.{with_launch, with_launched, without_number}
use Rattle.np_machine.specs.Prelude.{Configuration, PoolId, list_any, outcome_of}
use Rattle.np_machine.specs.Plan.{fail_starts_of}

-- what a driver in memory reports (own)
pub record Told : Type 0 where
  -- the launches that returned a server's number or failed, in order
  pub answered : List Launch
  -- the servers, in the order of their launches
  pub servers : List Server
  -- how many launches failed
  pub launch_faults : ℕ

-- before the first launch (own)
abbrev pub told_nothing : Told
told_nothing = record { answered = []; servers = []; launch_faults = 0 }

-- the facts of a driver that reports all this, with this many failed removals (own)
abbrev pub facts_of : Told → ℕ → DriverFacts
facts_of told remove_faults = record {
  answered = Some told.answered;
  servers = Some told.servers;
  launch_faults = told.launch_faults;
  remove_faults = remove_faults;
}

-- the count of failed launches after this outcome (own)
abbrev pub faults_after : Outcome → ℕ → ℕ
faults_after (Outcome.Launched x) faults = faults
faults_after Outcome.Failed faults = counted faults

-- after a launch with this outcome (own)
abbrev pub after_launch : Told → Tag → Outcome → Told
after_launch told tag o = record {
  answered = with_launch tag o told.answered;
  servers = with_launched tag o told.servers;
  launch_faults = faults_after o told.launch_faults;
}

-- after a removal of the servers of this number (own)
abbrev pub after_removal : Told → ℕ → Told
after_removal told x = record told { servers = without_number x told.servers }

-- a launch has this outcome, which is returned and kept, or it runs out of memory and changes
-- nothing (own)
abbrev pub HasOutcome : Outcome → Told → Tag → Result ℕ LaunchFault → Told → Type 0
HasOutcome o before tag (Ok x) now = (o ≡ Outcome.Launched x) × (now ≡ after_launch before tag o)
HasOutcome o before tag (Err LaunchFault.Failed) now = (o ≡ Outcome.Failed) × (now ≡ after_launch before tag o)
HasOutcome o before tag (Err LaunchFault.NoMemory) now = now ≡ before

-- a script of a driver's answers, as contracts see it

-- a driver that answers from a list (own)
pub record Script : Type 0 where
  -- the answers to the launches, in order: a server's number, or that the launch fails
  pub answers : List (Option ℕ)
  -- the numbers of the removals that fail, counted from 1
  pub failing : List ℕ
  -- how many removals were made
  pub removals : ℕ
  -- how many of them failed
  pub remove_faults : ℕ
  pub told : Told

-- before the first call (own)
abbrev pub script_of : List (Option ℕ) → List ℕ → Script
script_of answers failing =
    record { answers = answers; failing = failing; removals = 0; remove_faults = 0; told = told_nothing }

-- what an answer of the list says; past its end every launch fails (own)
abbrev pub outcome_at : Option (Option ℕ) → Outcome
outcome_at (Some (Some x)) = Outcome.Launched x
outcome_at (Some None) = Outcome.Failed
outcome_at None = Outcome.Failed

-- the next launch gets the answer whose place is the number of launches answered so far (own)
abbrev pub next_outcome : Script → Outcome
next_outcome script = outcome_at (slice_get script.answers (length script.told.answered))

-- the script after a removal (own)
abbrev pub after_scripted_removal : Script → ℕ → Script
after_scripted_removal script x = record script { removals = counted script.removals; told = after_removal script.told x }

-- the script after a removal that failed: no server is gone (own)
abbrev pub after_failed_removal : Script → Script
after_failed_removal script =
    record script { removals = counted script.removals; remove_faults = counted script.remove_faults }

-- it reports everything (own)
abbrev pub script_facts : Script → DriverFacts
script_facts script = facts_of script.told script.remove_faults

-- the simulated cloud, as contracts see it

-- the simulated cloud of a pool (own)
pub record Simulation : Type 0 where
  -- the numbers of the starts that fail
  pub fail_starts : List ℕ
  pub told : Told

-- before the first launch: the starts that the pool plans to fail do (own)
abbrev pub simulation_of : Configuration → PoolId → Simulation
simulation_of c p = record { fail_starts = fail_starts_of c p; told = told_nothing }

-- a planned start fails; any other launches the server of its own number (own)
abbrev pub simulated_outcome : Simulation → ℕ → Outcome
simulated_outcome cloud m = if list_any (λ k. k == m) cloud.fail_starts then Outcome.Failed else Outcome.Launched m

-- it reports everything, and none of its removals fails (own)
abbrev pub simulation_facts : Simulation → DriverFacts
simulation_facts cloud = facts_of cloud.told 0

-- every launch is planned, by its start alone (own)
abbrev pub simulation_plan : Simulation → Tag → Option Outcome
simulation_plan cloud tag = Some (simulated_outcome cloud tag.start)

-- the clouds of all pools

-- each cloud plans its pool's starts as the configuration does; the first of them is that of the
-- pool of this number (own)
abbrev pub ArePlanned : Configuration → ℕ → List (Tag → Option Outcome) → Type 0
ArePlanned c n [] = Unit {0}
ArePlanned c n (plan ∷ plans) = ((tag : Tag) → tag.pool.0 ≡ n → plan tag ≡ Some (outcome_of c tag.pool tag.start)) × ArePlanned c (suc n) plans

-- the simulated clouds of this many pools, from the first on, before the first launch (own)
abbrev pub simulations : Configuration → ℕ → List Simulation
simulations c zero = []
simulations c (suc n) = simulations c n ++ simulation_of c (record { 0 = n }) ∷ []
