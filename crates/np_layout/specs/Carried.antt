-- what a tree needs of a state so that it can carry it: the state can be read from its tree
use Rattle.std.specs.Prelude.{◌≡◌, ◌<◌, ◌^◌, ℕ, Bool, nat_lt, List, length}
use Rattle.np_layout.specs.Layout.{LaysOut}
use Rattle.np_layout.specs.Sets.{HasGoodIds}
use Rattle.np_layout.specs.Lower.{AllByRecursion, Configuration, IsJob, IsNode, IsRequest, IsRole, IsSessionRole, IsWhole, JobId, Rises, State, Swept, TreeState, is_pair_after}

-- by node, and then by server
abbrev pub is_pair_before : Swept → Swept → Bool
is_pair_before a b = is_pair_after a.node a.server b

-- the jobs with a handle are in the order of their numbers, none twice, and exist
pub record AreHolders (jobs : ℕ) (holders : List JobId) : Type 0 where
  pub rise : Rises (λ a b. nat_lt a.0 b.0) holders
  pub exist : AllByRecursion (λ j. j.0 < jobs) holders

-- what the tree keeps in the order of names is in the order of numbers in the state
pub record IsOrdered (c : Configuration) (s : State) : Type 0 where
  pub registrations : Rises (λ a b. nat_lt a.pool.0 b.pool.0) s.registrations
  pub pools : AllByRecursion (λ g. g.pool.0 < length c.pools) s.registrations
  pub handles : AllByRecursion (AreHolders (length c.jobs)) s.handles
  pub swept : Rises is_pair_before s.swept

-- each record of the state has a spelling
pub record HasSpellings (s : State) : Type 0 where
  pub requests : AllByRecursion (λ e. IsRequest e.kept) s.requests
  pub nodes : AllByRecursion (λ e. IsNode e.kept) s.nodes
  pub jobs : AllByRecursion IsJob s.jobs
  pub launchers : AllByRecursion IsRole s.launchers
  pub janitors : AllByRecursion IsRole s.janitors
  pub requesters : AllByRecursion IsRole s.requesters
  pub sessions : AllByRecursion (λ f. IsSessionRole f.role) s.sessions

-- ids and records have texts, the order of each table is that of its numbers, and there is a record for
-- each semaphore, job and role of the configuration
pub record IsCarried (c : Configuration) (s : State) : Type 0 where
  pub good : HasGoodIds s
  pub spelled : HasSpellings s
  pub ordered : IsOrdered c s
  pub semaphores : length s.handles ≡ length c.semaphores
  pub jobs : length s.jobs ≡ length c.jobs
  pub launchers : length s.launchers ≡ length c.pools
  pub janitors : length s.janitors ≡ length c.pools
  pub requesters : length s.requesters ≡ length c.requesters
  pub tick : s.tick < 2 ^ 32

-- the tree lays out a state that it can carry
pub record IsStored (c : Configuration) (s : State) (t : TreeState) : Type 0 where
  pub whole : IsWhole t.nodes
  pub lays : LaysOut s t
  pub carried : IsCarried c s
