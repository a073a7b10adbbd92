-- the servers of each host, told by their numbers
use Rattle.std.specs.Prelude.{◌≡◌, ◌<◌, ◌≤◌, ◌==◌, ◌&&◌, ◌%◌, ◌/◌, ◌*◌, ◌+◌, ◌^◌, ℕ, suc, nat_lt, nat_le, Bool, true, if◌then◌else◌, List, [], ◌∷◌, length, filter, slice_get, slice_index, Option, Some, None}
use Rattle.np_static.specs.declared.limit.TheConstants.{HOSTS}
use Rattle.np_static.specs.Lower.{Launch, Outcome, list_all}

-- the number of a server: the number of its launch, counted from 1 with those that failed, and its host (own)
abbrev pub server_number : ℕ → ℕ → ℕ
server_number k h = k * HOSTS + h

-- the host of the server of this number (own)
abbrev pub host_of : ℕ → ℕ
host_of x = x % HOSTS

-- how many of these servers the host has (own)
abbrev pub load_of : ℕ → List ℕ → ℕ
load_of h numbers = length (filter (λ x. host_of x == h) numbers)

-- the first host that has fewer of these servers than it carries, where the first of these hosts is h (Nodepool: `max-parallel-jobs`)
abbrev pub first_free : ℕ → List ℕ → List ℕ → Option ℕ
first_free h [] numbers = None
first_free h (most ∷ hosts) numbers = if nat_lt (load_of h numbers) most then Some h else first_free (suc h) hosts numbers

-- the host has fewer of these servers than it carries, and no host before it has (own)
pub record IsFirstHost (hosts numbers : List ℕ) (h : ℕ) : Type 0 where
  pub most : ℕ
  pub stands : slice_get hosts h ≡ Some most
  pub free : load_of h numbers < most
  pub before : (k full : ℕ) → k < h → slice_get hosts k ≡ Some full → full ≤ load_of k numbers

-- each host has as many of these servers as it carries (own)
abbrev pub AreFull : List ℕ → List ℕ → Type 0
AreFull hosts numbers = (h most : ℕ) → slice_get hosts h ≡ Some most → most ≤ load_of h numbers

-- no host has more of these servers than it carries, where the first of these hosts is h (own)
abbrev pub none_above : ℕ → List ℕ → List ℕ → Bool
none_above h [] numbers = true
none_above h (most ∷ hosts) numbers = nat_le (load_of h numbers) most && none_above (suc h) hosts numbers

-- each of these servers has one of the first n hosts (own)
abbrev pub have_hosts : ℕ → List ℕ → Bool
have_hosts n numbers = list_all (λ x. nat_lt (host_of x) n) numbers

-- the list of server numbers is sound for these hosts (own)
abbrev pub is_sound : List ℕ → List ℕ → Bool
is_sound hosts numbers = none_above 0 hosts numbers && have_hosts (length hosts) numbers

-- the server of a launch of this number tells the number (own)
abbrev pub is_numbered : ℕ → Outcome → Bool
is_numbered k (Outcome.Launched x) = x / HOSTS == k
is_numbered k Outcome.Failed = true

-- so does each server of these launches, where the first has this number (own)
abbrev pub are_numbered : ℕ → List Launch → Bool
are_numbered k [] = true
are_numbered k (launch ∷ launches) = is_numbered k launch.outcome && are_numbered (suc k) launches

-- the number of the server that a launch made, if any, before these (own)
abbrev pub numbers_with : Outcome → List ℕ → List ℕ
numbers_with (Outcome.Launched x) numbers = x ∷ numbers
numbers_with Outcome.Failed numbers = numbers

-- the numbers of the servers that these launches made, in order (own)
abbrev pub launched_numbers : List Launch → List ℕ
launched_numbers [] = []
launched_numbers (launch ∷ launches) = numbers_with launch.outcome (launched_numbers launches)

-- a place from `from` on, of hosts with these loads: all hosts before it are at their numbers, and it is not, or it is the end (own)
pub record IsFirstFree (hosts loads : List ℕ) (from at : ℕ) : Type 0 where
  pub low : from ≤ at
  pub high : at ≤ length hosts
  pub full : (h : ℕ) → from ≤ h → h < at → slice_index hosts h ≤ slice_index loads h
  pub free : at < length hosts → slice_index loads at < slice_index hosts at
  -- what a host carries is a number of 32 bits
  pub fits : at < length hosts → slice_index hosts at < 2 ^ 32

-- what a driver keeps of its hosts: how many servers each carries, how many each has, and a host before which all are at their numbers (own)
pub record KeepsLoads (hosts loads : List ℕ) (from : ℕ) (numbers : List ℕ) : Type 0 where
  pub few : length hosts ≤ HOSTS
  pub lengths : length loads ≡ length hosts
  pub counted : (h : ℕ) → h < length hosts → slice_index loads h ≡ load_of h numbers
  pub carried : (h : ℕ) → h < length hosts → slice_index loads h ≤ slice_index hosts h
  pub known : have_hosts (length hosts) numbers ≡ true
  pub passed : (h : ℕ) → h < from → slice_index hosts h ≤ slice_index loads h
  pub within : from ≤ length hosts
