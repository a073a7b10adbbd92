-- the host lines of a site and the drivers that they give
use Rattle.np_static.proofs.Prelude.{All, All-cons, All-nil, ConfigFault, Configuration, Err, HasHostLines, HostLine, Hosted, HostsFault, HostsRead, IfOk, LineFault, LinesFault, List, None, Ok, Option, Pool, PoolId, Result, Simulation, Site, SiteDriver, Some, Tells, WrongCount, ap, append-nil, append_assoc, arith, drop, drop-past, drop-there, host_with, hosted_in, hosted_of, hosts_in, hosts_of, is_space, length, length-append, length-slice_split, map, map-push, member-there, reads, refl, sections_of, simulated, simulation_of, site_of, site_with, sites_from, sites_with, slice_get, slice_get_within, subst, suc, sym, told_nothing, told_of, with_hosts, with_site, with_sites, without_bar, words_of, zero, ℕ, [], ◌++◌, ◌+◌, ◌∷◌, ◌≡◌}

-- # the drivers of one pool after another

-- the drivers before, and then the rest
abbrev pub sites_before : List Site → Result (List Site) HostsFault → Result (List Site) HostsFault
sites_before before (Err why) = Err why
sites_before before (Ok sites) = Ok (before ++ sites)

before-with : (before : List Site) (site : Site) (r : Result (List Site) HostsFault) → sites_before before (with_site (Ok site) r) ≡ sites_before (before ++ site ∷ []) r
before-with before site (Ok sites) = ap Ok (sym (append_assoc before (site ∷ []) sites))
before-with before site (Err why) = refl

module _ (c : Configuration) (lines : List HostLine) where
  -- what is said of the pool at a place
  abbrev pub said_at : ℕ → Pool → Result Site HostsFault
  said_at k row = let p : PoolId = record { 0 = k } in site_with c p row.limit.instances (hosts_in p lines)

  -- what is left to say after these drivers
  abbrev pub rest_after : List SiteDriver → Result (List Site) HostsFault
  rest_after drivers = sites_before (map site_of drivers) (sites_from c lines (length drivers) (drop (length drivers) c.pools))

  pub sites-push : (drivers : List SiteDriver) (driver : SiteDriver) (row : Pool) → slice_get c.pools (length drivers) ≡ Some row → said_at (length drivers) row ≡ Ok (site_of driver) → rest_after (drivers ++ driver ∷ []) ≡ rest_after drivers
  sites-push drivers driver row at said =
      let more : length (drivers ++ driver ∷ []) ≡ suc (length drivers) = omega (arith, length-append drivers (driver ∷ [])) in
      rw (more, map-push site_of drivers driver, ← before-with (map site_of drivers) (site_of driver) (sites_from c lines (suc (length drivers)) (drop (suc (length drivers)) c.pools)), drop-there c.pools (length drivers) row at, said) refl

  pub sites-tell : (drivers : List SiteDriver) (why : HostsRead) (row : Pool) → slice_get c.pools (length drivers) ≡ Some row → Tells (said_at (length drivers) row) why → Tells (rest_after drivers) why
  sites-tell drivers (HostsRead.Fault why) row at tells = rw (drop-there c.pools (length drivers) row at, tells) refl
  sites-tell drivers HostsRead.NoMemory row at tells = tt

  pub sites-end : (drivers : List SiteDriver) → slice_get c.pools (length drivers) ≡ None → rest_after drivers ≡ Ok (map site_of drivers)
  sites-end drivers none = rw (drop-past c.pools (length drivers) none, append-nil) refl

-- # the drivers that host lines give

-- ## one driver

abbrev pub IsFresh : Site → Type 0
IsFresh site = told_of site ≡ told_nothing

site-fresh : (c : Configuration) (p : PoolId) (limit : Option ℕ) (hosts : List ℕ) (site : Site) → site_with c p limit hosts ≡ Ok site → IsFresh site
site-fresh c p limit hosts site is = grind arith

-- a pool without hosts has the simulated cloud that the configuration plans
simulated-with : (c : Configuration) (p : PoolId) (limit : Option ℕ) (hosts : List ℕ) (cloud : Simulation) → site_with c p limit hosts ≡ Ok (simulated cloud) → cloud ≡ simulation_of c p
simulated-with c p limit hosts cloud is = grind arith

-- ## all drivers

-- the drivers of these pools, of which the first has the number n
pub record AreSites (c : Configuration) (lines : List HostLine) (n : ℕ) (pools : List Pool) (sites : List Site) : Type 0 where
  pub count : length sites ≡ length pools
  pub fresh : All IsFresh sites
  pub each : (k m : ℕ) (pool : Pool) (site : Site) → m ≡ n + k → slice_get pools k ≡ Some pool → slice_get sites k ≡ Some site → said_at c lines m pool ≡ Ok site

module _ (c : Configuration) (lines : List HostLine) where
  each-at : (n : ℕ) (first : Pool) (pools : List Pool) (one : Site) (sites : List Site) → said_at c lines n first ≡ Ok one → AreSites c lines (suc n) pools sites →
      (k m : ℕ) (pool : Pool) (site : Site) → m ≡ n + k → slice_get (first ∷ pools) k ≡ Some pool → slice_get (one ∷ sites) k ≡ Some site → said_at c lines m pool ≡ Ok site
  each-at n first pools one sites is later zero m pool site same at found =
      let number : m ≡ n = omega arith in
      let here : first ≡ pool = cc in
      let there : one ≡ site = cc in
      rw (number, ← here, ← there) is
  each-at n first pools one sites is later (suc k) m pool site same at found = later.each k m pool site (omega arith) at found

  sites-more : (n : ℕ) (pool : Pool) (pools : List Pool) (r : Result Site HostsFault) (rest : Result (List Site) HostsFault) → said_at c lines n pool ≡ r → IfOk rest (AreSites c lines (suc n) pools) → IfOk (with_site r rest) (AreSites c lines n (pool ∷ pools))
  sites-more n pool pools (Ok site) (Ok sites) is later = record {
    count = ap suc later.count;
    fresh = All-cons IsFresh site sites (site-fresh c (record { 0 = n }) pool.limit.instances (hosts_in (record { 0 = n }) lines) site is) later.fresh;
    each = each-at n pool pools site sites is later;
  }
  sites-more n pool pools (Ok site) (Err why) is later = tt
  sites-more n pool pools (Err why) rest is later = tt

  are-sites : (n : ℕ) (pools : List Pool) → IfOk (sites_from c lines n pools) (AreSites c lines n pools)
  are-sites n [] = record { count = refl; fresh = All-nil IsFresh; each = λ k m pool site same at found. absurd cc }
  are-sites n (pool ∷ pools) = sites-more n pool pools (said_at c lines n pool) (sites_from c lines (suc n) pools) refl (are-sites (suc n) pools)

-- the lines that were read, and the drivers
pub read-of : (c : Configuration) (r : Result (List HostLine) (LinesFault LineFault)) (sites : List Site) → sites_with c r ≡ Ok sites → (hosts : List HostLine) × (r ≡ Ok hosts) × AreSites c hosts 0 c.pools sites
read-of c (Err why) sites are = absurd cc
read-of c (Ok hosts) sites are = (hosts, refl, subst (λ (r : Result (List Site) HostsFault). IfOk r (AreSites c hosts 0 c.pools)) are (are-sites c hosts 0 c.pools))

-- # what a site with hosts that was read is

-- ## where its drivers come from

sites-lines : (c : Configuration) (lines : List ℕ) (r : Result (List Site) HostsFault) → hosts_of c lines ≡ r → IfOk (with_sites c r) HasHostLines
sites-lines c lines (Err why) is = tt
sites-lines c lines (Ok sites) is = (lines, is)

hosts-lines : (lines : List ℕ) (r : Result Configuration ConfigFault) → IfOk (with_hosts lines r) HasHostLines
hosts-lines lines (Err why) = tt
hosts-lines lines (Ok c) = sites-lines c lines (hosts_of c lines) refl

no-bar : (r : Result Configuration ConfigFault) → IfOk (without_bar r) HasHostLines
no-bar (Err why) = tt
no-bar (Ok c) = tt

in-lines : (bytes : List ℕ) (parts : Option (List ℕ × List ℕ)) → IfOk (hosted_in bytes parts) HasHostLines
in-lines bytes None = no-bar (reads bytes)
in-lines bytes (Some parts) = hosts-lines parts.1 (reads parts.0)

pub hosted-lines : (bytes : List ℕ) (h : Hosted) → hosted_of bytes ≡ Ok h → HasHostLines h
unfolding hosted_of
hosted-lines bytes h are = subst (λ (r : Result Hosted _). IfOk r HasHostLines) are (in-lines bytes (sections_of bytes))

-- ## its drivers

module _ (h : Hosted) (has : HasHostLines h) where
  pub hosted-count : length h.sites ≡ length h.configuration.pools
  hosted-count = (read-of h.configuration _ h.sites has.1).2.count

  pub hosted-fresh : All IsFresh h.sites
  hosted-fresh = (read-of h.configuration _ h.sites has.1).2.fresh

-- a pool without hosts has the simulated cloud that the configuration plans
pub hosted-simulated : (h : Hosted) → HasHostLines h → (p : PoolId) (cloud : Simulation) → slice_get h.sites p.0 ≡ Some (simulated cloud) → cloud ≡ simulation_of h.configuration p
hosted-simulated h has p cloud at =
    let it = read-of h.configuration _ h.sites has.1 in
    let row = member-there h.configuration.pools p.0 (omega (arith, slice_get_within h.sites p.0 (simulated cloud) at, hosted-count h has)) in
    simulated-with h.configuration p row.0.limit.instances (hosts_in p it.0) cloud (it.2.each p.0 p.0 row.0 (simulated cloud) (omega arith) row.1 at)

-- # the words of a host line

-- a line of more than three words
pub more-words : (pools : ℕ) (pool servers rest : List ℕ) → host_with pools (pool ∷ servers ∷ words_of rest) ≡ Err WrongCount
more-words pools pool servers rest = grind (arith, length-slice_split is_space rest)
