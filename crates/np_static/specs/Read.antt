-- the drivers of all pools, by host lines
use Rattle.std.specs.Prelude.{◌≡◌, ◌==◌, ℕ, suc, nat_le, Bool, false, if◌then◌else◌, List, [], ◌∷◌, length, map, filter, sum, Option, Some, None, Result, Ok, Err}
use Rattle.np_static.specs.declared.fault.HostsFault.{HostsFault}
use Rattle.np_static.specs.declared.fault.HostsRead.{HostsRead}
use Rattle.np_static.specs.declared.limit.TheConstants.{HOSTS}
use Rattle.np_static.specs.declared.line.HostLine.{HostLine}
use Rattle.np_static.specs.Line.{host_in}
use Rattle.np_static.specs.Site.{hosting_of, Site, simulated, hosted, site_of}
use Rattle.np_static.specs.declared.fault.HostedFault.{HostedFault}
use Rattle.np_static.specs.declared.hosted.HostedSite.{HostedSite}
use Rattle.np_static.specs.Lower.{ConfigFault, Configuration, LineFault, LinesFault, Pool, PoolId, lines_of, lines_read, reads, sections_of, simulation_of, words_of}

-- ## lines

-- what a line says, where there are so many pools
abbrev pub host_said : ℕ → List ℕ → Result HostLine LineFault
host_said pools line = host_in pools (words_of line)

-- the hosts of all lines, or the first line that is at fault or one too many (own)
abbrev pub hosts_read : ℕ → List ℕ → Result (List HostLine) (LinesFault LineFault)
hosts_read pools bytes = lines_read (host_said pools) HOSTS 1 (lines_of bytes)

-- ## pools

-- a line of this pool
abbrev pub is_of : PoolId → HostLine → Bool
is_of p line = line.pool.0 == p.0

-- how many servers each host of the pool carries, in the order of its lines
abbrev pub hosts_in : PoolId → List HostLine → List ℕ
hosts_in p lines = map (λ line. line.servers) (filter (is_of p) lines)

-- there is a largest number of servers, and room for so many (Nodepool: `max-servers`)
abbrev pub is_room_for : Option ℕ → ℕ → Bool
is_room_for None room = false
is_room_for (Some most) room = nat_le most room

-- the driver of a pool with this limit and these hosts, if they have room for all of its servers
abbrev pub site_with : Configuration → PoolId → Option ℕ → List ℕ → Result Site HostsFault
site_with c p limit [] = Ok (simulated (simulation_of c p))
site_with c p limit (most ∷ hosts) =
    if is_room_for limit (sum (most ∷ hosts)) then Ok (hosted (hosting_of p (most ∷ hosts))) else Err (HostsFault.Room p (sum (most ∷ hosts)))

-- the first fault, or the first driver before the later ones
abbrev pub with_site : Result Site HostsFault → Result (List Site) HostsFault → Result (List Site) HostsFault
with_site (Err why) later = Err why
with_site (Ok site) (Err why) = Err why
with_site (Ok site) (Ok sites) = Ok (site ∷ sites)

-- the drivers of these pools, the first of which has the number n, or the first pool whose hosts lack room
abbrev pub sites_from : Configuration → List HostLine → ℕ → List Pool → Result (List Site) HostsFault
sites_from c lines n [] = Ok []
sites_from c lines n (pool ∷ pools) =
    let p : PoolId = record { 0 = n } in
    with_site (site_with c p pool.limit.instances (hosts_in p lines)) (sites_from c lines (suc n) pools)

-- ## all

-- what is wrong with the lines, as a fault of hosts
abbrev pub hosts_fault : LinesFault LineFault → HostsFault
hosts_fault (LinesFault.Line n why) = HostsFault.Line n why
hosts_fault (LinesFault.TooMany n) = HostsFault.TooMany n

-- lines come before room
abbrev pub sites_with : Configuration → Result (List HostLine) (LinesFault LineFault) → Result (List Site) HostsFault
sites_with c (Err why) = Err (hosts_fault why)
sites_with c (Ok hosts) = sites_from c hosts 0 c.pools

-- the drivers of all pools by these host lines, or the first fault (own)
abbrev pub hosts_of : Configuration → List ℕ → Result (List Site) HostsFault
hosts_of c bytes = sites_with c (hosts_read (length c.pools) bytes)

-- the fault is the one that is said, unless memory ran out (own)
abbrev pub Tells : {A : Type 0} → Result A HostsFault → HostsRead → Type 0
Tells said (HostsRead.Fault why) = said ≡ Err why
Tells said HostsRead.NoMemory = Unit {0}

-- a site with hosts: a configuration and the drivers of its pools, or the first thing that is wrong with an input

-- a configuration, and the drivers of its pools, in their order (own)
pub record Hosted : Type 0 where
  pub configuration : Configuration
  pub sites : List Site

-- a site with hosts as contracts see it
abbrev pub hosted_view : HostedSite → Hosted
hosted_view s = record { configuration = s.config; sites = map site_of s.drivers.items }

-- a configuration with the drivers that its host lines give
abbrev pub with_sites : Configuration → Result (List Site) HostsFault → Result Hosted HostedFault
with_sites c (Err why) = Err (HostedFault.Hosts why)
with_sites c (Ok sites) = Ok (record { configuration = c; sites = sites })

-- the configuration's fault first, and then what is wrong with the host lines
abbrev pub with_hosts : List ℕ → Result Configuration ConfigFault → Result Hosted HostedFault
with_hosts lines (Err why) = Err (HostedFault.Config why)
with_hosts lines (Ok c) = with_sites c (hosts_of c lines)

-- the configuration's fault first, and then that no line is the bar
abbrev pub without_bar : Result Configuration ConfigFault → Result Hosted HostedFault
without_bar (Err why) = Err (HostedFault.Config why)
without_bar (Ok c) = Err HostedFault.NoSeparator

-- if no line is the bar, the whole text is read as the configuration
abbrev pub hosted_in : List ℕ → Option (List ℕ × List ℕ) → Result Hosted HostedFault
hosted_in bytes None = without_bar (reads bytes)
hosted_in bytes (Some parts) = with_hosts parts.1 (reads parts.0)

-- the site with hosts that these bytes are, or the first thing that is wrong with them (own)
unfoldable pub hosted_of : List ℕ → Result Hosted HostedFault
hosted_of bytes = hosted_in bytes (sections_of bytes)

-- what was read, as contracts see it
abbrev pub hosted_read : Result HostedSite HostedFault → Result Hosted HostedFault
hosted_read (Ok site) = Ok (hosted_view site)
hosted_read (Err why) = Err why

-- its drivers are those that some host lines give (own)
abbrev pub HasHostLines : Hosted → Type 0
HasHostLines h = (lines : List ℕ) × (hosts_of h.configuration lines ≡ Ok h.sites)
