-- which lists of servers are sound for a driver, and when it may fail to launch
use Rattle.std.specs.Prelude.{◌≡◌, ◌⊎◌, ◌≤◌, ◌==◌, ℕ, List, [], ◌∷◌, Bool, true, false, map, length, IsTrue, IfSome, Option, Some, None, Result, Ok, Err, refl}
use Rattle.std.specs.List.{AllByRecursion, list_any}
use Rattle.np_cloud.specs.declared.driver.Server.{Server}
use Rattle.np_cloud.specs.declared.driver.LaunchFault.{LaunchFault}
use Rattle.np_cloud.specs.declared.driver.TheConstants.{MOST_LAUNCHES}
use Rattle.np_cloud.specs.Facts.{DriverFacts}

-- ## sound lists

-- the numbers of these servers, in their order (own)
abbrev pub numbers_of : List Server → List ℕ
numbers_of servers = map (λ server. server.number) servers

-- the number is one of these (own)
abbrev pub is_number : ℕ → List ℕ → Bool
is_number x numbers = list_any (λ y. y == x) numbers

-- no number twice (own)
abbrev pub DistinctNumbers : List ℕ → Type 0
DistinctNumbers [] = Unit {0}
DistinctNumbers (x ∷ numbers) = (is_number x numbers ≡ false) × DistinctNumbers numbers

-- what always holds of the lists of server numbers that are sound for a driver (own)
pub record Soundness (facts : DriverFacts) (sound : List ℕ → Bool) : Type 0 where
  -- its servers are sound, if it reports them
  pub servers : IfSome facts.servers (λ servers. IsTrue (sound (numbers_of servers)))
  -- so is a list without repeats whose members all stand in a sound list, whatever its order
  pub fewer : (numbers fewer : List ℕ) → IsTrue (sound numbers) → DistinctNumbers fewer
      → AllByRecursion (λ x. is_number x numbers ≡ true) fewer → IsTrue (sound fewer)

-- every list is sound (own)
abbrev pub every_list : List ℕ → Bool
every_list numbers = true

-- where every list is sound, the servers are
servers_of_every_list : (o : Option (List Server)) → IfSome o (λ servers. IsTrue (every_list (numbers_of servers)))
servers_of_every_list None = tt
servers_of_every_list (Some servers) = refl

-- what always holds, holds where every list is sound
pub soundness_of_every_list : (facts : DriverFacts) → Soundness facts every_list
soundness_of_every_list facts = record {
  servers = servers_of_every_list facts.servers;
  fewer = λ numbers fewer is_sound distinct within. refl;
}

-- ## room

-- there are as many servers as the driver has room for, or as many launches were answered as may be, if it reports them (own)
abbrev pub IsFull : DriverFacts → ℕ → Type 0
IsFull facts room = IfSome facts.servers (λ servers. room ≤ length servers)
    ⊎ IfSome facts.answered (λ launches. MOST_LAUNCHES ≤ length launches)

-- a launch fails only where the driver was full (own)
abbrev pub FailsOnlyFull : DriverFacts → ℕ → Result ℕ LaunchFault → Type 0
FailsOnlyFull before room (Ok x) = Unit {0}
FailsOnlyFull before room (Err LaunchFault.Failed) = IsFull before room
FailsOnlyFull before room (Err LaunchFault.NoMemory) = Unit {0}
