-- the line of a host (own; Nodepool's static driver lists nodes with their `max-parallel-jobs`)
use Rattle.std.specs.Prelude.{ℕ, nat_lt, if◌then◌else◌, List, [], ◌∷◌, codes, Option, Some, None, Result, Ok, Err}
use Rattle.std.specs.Str.{bytes_eq}
use Rattle.np_static.specs.declared.limit.TheConstants.{HOST_SERVERS}
use Rattle.np_static.specs.declared.line.HostLine.{HostLine}
use Rattle.np_static.specs.Lower.{BadArgument, LineFault, PoolId, UnknownEvent, WrongCount, number_behind, number_of}

-- the pool of this number, if there are so many
abbrev pub pool_among : ℕ → Option ℕ → Option PoolId
pool_among pools None = None
pool_among pools (Some n) = if nat_lt n pools then Some (record { 0 = n }) else None

-- the pool that a word names, such as `p0` (own)
abbrev pub pool_in : ℕ → List ℕ → Option PoolId
pool_in pools text = pool_among pools (number_behind 112 65535 text)

-- a number from 1 on
abbrev pub from_one : Option ℕ → Option ℕ
from_one None = None
from_one (Some n) = if nat_lt 0 n then Some n else None

-- how many servers the host carries, as a word says (own)
abbrev pub servers_in : List ℕ → Option ℕ
servers_in text = from_one (number_of HOST_SERVERS text)

-- the pool comes before the number of servers: the first word that does not fit is named
abbrev pub line_with : Option PoolId → Option ℕ → Result HostLine LineFault
line_with None servers = Err (BadArgument 2)
line_with (Some pool) None = Err (BadArgument 3)
line_with (Some pool) (Some servers) = Ok (record { pool = pool; servers = servers })

-- the words after `host`: their count comes before them
abbrev pub host_with : ℕ → List (List ℕ) → Result HostLine LineFault
host_with pools (pool ∷ servers ∷ []) = line_with (pool_in pools pool) (servers_in servers)
host_with pools words = Err WrongCount

-- the host of a line's words, or their first fault, where there are so many pools (own)
abbrev pub host_in : ℕ → List (List ℕ) → Result HostLine LineFault
host_in pools [] = Err UnknownEvent
host_in pools (first ∷ rest) = if bytes_eq first (codes "host") then host_with pools rest else Err UnknownEvent
