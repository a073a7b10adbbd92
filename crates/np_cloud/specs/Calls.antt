-- what the calls of a driver do
use Rattle.std.specs.Prelude.{◌≡◌, ◌≤◌, ◌==◌, not, ℕ, List, [], ◌∷◌, ◌++◌, filter, Option, Some, None, Result, Ok, Err}
use Rattle.np_machine.specs.Prelude.{Outcome, option_map}
use Rattle.np_io.specs.Memory.{Rose}
use Rattle.np_cloud.specs.declared.driver.Tag.{Tag}
use Rattle.np_cloud.specs.declared.driver.Launch.{Launch}
use Rattle.np_cloud.specs.declared.driver.Server.{Server}
use Rattle.np_cloud.specs.declared.driver.LaunchFault.{LaunchFault}
use Rattle.np_cloud.specs.declared.driver.RemoveFailed.{RemoveFailed}
use Rattle.np_cloud.specs.Facts.{DriverFacts}

-- ## launches

-- a launch and its outcome come last (own)
abbrev pub with_launch : Tag → Outcome → List Launch → List Launch
with_launch tag o launches = launches ++ record { tag = tag; outcome = o } ∷ []

-- the server that a launch made, if any, comes last (own)
abbrev pub with_launched : Tag → Outcome → List Server → List Server
with_launched tag (Outcome.Launched x) servers = servers ++ record { tag = tag; number = x } ∷ []
with_launched tag Outcome.Failed servers = servers

-- the launch was answered: it is the last that was, and its server is there (own)
pub record Answers (before : DriverFacts) (tag : Tag) (o : Outcome) (now : DriverFacts) : Type 0 where
  pub answered : now.answered ≡ option_map (with_launch tag o) before.answered
  pub servers : now.servers ≡ option_map (with_launched tag o) before.servers

-- a launch returns a server, fails and raises the count of failed launches, or runs out of memory
-- and changes nothing (own)
abbrev pub Launches : DriverFacts → Tag → Result ℕ LaunchFault → DriverFacts → Type 0
Launches before tag (Ok x) now = Answers before tag (Outcome.Launched x) now
Launches before tag (Err LaunchFault.Failed) now = Answers before tag Outcome.Failed now × Rose before.launch_faults now.launch_faults
Launches before tag (Err LaunchFault.NoMemory) now = now ≡ before

-- what became of the launch is what was planned for it, if anything was (own)
abbrev pub IsAsPlanned : Option Outcome → Result ℕ LaunchFault → Type 0
IsAsPlanned None result = Unit {0}
IsAsPlanned (Some planned) (Ok x) = planned ≡ Outcome.Launched x
IsAsPlanned (Some planned) (Err LaunchFault.Failed) = planned ≡ Outcome.Failed
IsAsPlanned (Some planned) (Err LaunchFault.NoMemory) = Unit {0}

-- ## removals

-- the servers of other numbers (own)
abbrev pub without_number : ℕ → List Server → List Server
without_number x servers = filter (λ server. not (server.number == x)) servers

-- a removal takes out each server of the number, or fails, raises the count of failed removals and
-- leaves all servers; the launches that were answered stay (own)
abbrev pub Removes : DriverFacts → ℕ → Result (Unit {0}) RemoveFailed → DriverFacts → Type 0
Removes before x (Ok _) now = (now.answered ≡ before.answered) × (now.servers ≡ option_map (without_number x) before.servers)
Removes before x (Err _) now = (now.answered ≡ before.answered) × (now.servers ≡ before.servers) × Rose before.remove_faults now.remove_faults

-- ## counts

-- no count fell (own)
pub record KeepsCounts (before now : DriverFacts) : Type 0 where
  pub launches : before.launch_faults ≤ now.launch_faults
  pub removals : before.remove_faults ≤ now.remove_faults
