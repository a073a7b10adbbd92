-- the numbers of a state leave room for one more event, and its rows for one more member
use Rattle.std.specs.Prelude.{◌≡◌, ◌<◌, ◌≤◌, ◌*◌, ◌==◌, ℕ, List, [], ◌∷◌, true, false, ◌&&◌, not, Some, length, slice_get}
use Rattle.np_changes.specs.Lower.{AllByRecursion, Amount, Configuration, Janitor, Job, JobId, JobRecord, LabelId, Launcher, NodeEntry, Offer, PoolId, RequestEntry, Requester, RequesterId, RoleRecord, SessionId, State, amount_of, is_building, is_declined_by, list_any, offers_of, ready_age, retries_of, role_of}

-- no number exceeds the number of entries of a full journal
abbrev pub most : ℕ
most = 262144

pub record RoleFits (role : RoleRecord) : Type 0 where
  pub acts : role.acts ≤ most
  pub starts : role.starts ≤ most
  pub strikes : role.strikes ≤ most

pub record RequestFits (c : Configuration) (s : State) (e : RequestEntry) : Type 0 where
  pub id : e.id.seq < s.next_request
  pub queue : length e.queue ≤ most
  pub labels : length e.kept.labels ≤ 32
  pub nodes : length e.kept.nodes ≤ length e.kept.labels
  -- if a pool has not declined, there is room for its decline
  pub declined : (p : PoolId) → p.0 < length c.pools → is_declined_by p e.kept.declined ≡ false → length e.kept.declined < 64

pub record NodeFits (s : State) (e : NodeEntry) : Type 0 where
  pub id : e.id.0 < s.next_node
  pub queue : length e.queue ≤ most
  pub since : e.kept.since ≤ s.tick
  pub start : e.kept.start ≤ most
  -- a node that may be started again has attempts left, at most 16
  pub attempts : (is_building e.kept.state && not e.kept.in_flight) ≡ true → e.kept.attempts < 16

pub record JobFits (job : JobRecord) : Type 0 where
  pub nodes : length job.nodes ≤ 32

-- an offer's amount, as the configuration bounds it
pub record AmountFits (a : Amount) : Type 0 where
  pub instances : a.instances ≤ 1000000
  pub cores : a.cores ≤ 1000000
  pub ram : a.ram ≤ 1000000

-- an amount that `many` offers can take together
pub record IsFew (sum : Amount) (many : ℕ) : Type 0 where
  pub instances : sum.instances ≤ many * 1000000
  pub cores : sum.cores ≤ many * 1000000
  pub ram : sum.ram ≤ many * 1000000

-- no offer has the label of an earlier one
abbrev pub AllApart : List Offer → Type 0
AllApart [] = Unit {0}
AllApart (o ∷ offers) = (list_any (λ other. other.label.0 == o.label.0) offers ≡ false) × AllApart offers

-- a pool's offers, as the configuration bounds them: not too many, and each with its own label
pub record OffersFit (offers : List Offer) : Type 0 where
  pub few : length offers ≤ 256
  pub apart : AllApart offers

-- a job's row, as the configuration bounds it
pub record JobRowFits (job : Job) : Type 0 where
  pub labels : length job.labels ≤ 32
  pub semaphores : length job.semaphores ≤ 8

pub record Fits (c : Configuration) (s : State) : Type 0 where
  pub tick : s.tick ≤ most
  pub sessions : length s.sessions ≤ most
  pub registrations : length s.registrations ≤ most
  pub requests : length s.requests ≤ most
  pub nodes : length s.nodes ≤ most
  pub swept : length s.swept ≤ most
  pub next_request : s.next_request ≤ most
  pub next_node : s.next_node ≤ most
  pub handles : AllByRecursion (λ jobs. length jobs ≤ most) s.handles
  pub jobs : AllByRecursion JobFits s.jobs
  pub launchers : AllByRecursion RoleFits s.launchers
  pub janitors : AllByRecursion RoleFits s.janitors
  pub requesters : AllByRecursion RoleFits s.requesters
  pub each_request : AllByRecursion (RequestFits c s) s.requests
  pub each_node : AllByRecursion (NodeFits s) s.nodes
  -- a launcher's pool is in the configuration
  pub launcher_pools : (session : SessionId) (p : PoolId) → role_of session s ≡ Some (Launcher p) → p.0 < length c.pools
  -- so is a janitor's, and a requester itself
  pub janitor_pools : (session : SessionId) (p : PoolId) → role_of session s ≡ Some (Janitor p) → p.0 < length c.pools
  pub requester_places : (session : SessionId) (q : RequesterId) → role_of session s ≡ Some (Requester q) → q.0 < length c.requesters
  pub amounts : (p : PoolId) (l : LabelId) → AmountFits (amount_of c p l)
  pub retries : (p : PoolId) → retries_of c p ≤ 16
  pub ready_ages : (l : LabelId) → ready_age c l ≤ 1000000
  pub hold_age : c.max_hold_age ≤ 1000000
  pub offers : (p : PoolId) → OffersFit (offers_of c p)
  pub job_rows : (j : JobId) (job : Job) → slice_get c.jobs j.0 ≡ Some job → JobRowFits job

-- what a configuration must be so that each state that a run leads to fits
pub record IsFitSite (c : Configuration) : Type 0 where
  pub amounts : (p : PoolId) (l : LabelId) → AmountFits (amount_of c p l)
  pub retries : (p : PoolId) → retries_of c p ≤ 16
  -- a node of each pool may be launched at least once
  pub some_retry : (p : PoolId) → p.0 < length c.pools → 0 < retries_of c p
  pub ready_ages : (l : LabelId) → ready_age c l ≤ 1000000
  pub hold_age : c.max_hold_age ≤ 1000000
  pub offers : (p : PoolId) → OffersFit (offers_of c p)
  pub job_rows : (j : JobId) (job : Job) → slice_get c.jobs j.0 ≡ Some job → JobRowFits job
  pub pools : length c.pools ≤ 64
