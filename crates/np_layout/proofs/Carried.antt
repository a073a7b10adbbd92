-- a tree can carry the state that an accepted event leaves, with its tables in their order
use Rattle.np_layout.proofs.Prelude.{AllByRecursion, AreHolders, Asked, AsksForJob, AsksToKeep, Bool, Changes, Configuration, Deed, Growth, GrowthPremise, HandlesChange, HasGoodIds, HasText, IsCarried, IsGood, IsOrdered, IsPriority, IsTypedGrowth, Job, JobId, JobRecord, JobsChange, Launcher, List, Maker, Node, NodeEntry, NodeId, None, Option, Registration, Request, RequestEntry, RequestsChange, Rises, Rises-filter, Role, RoleRecord, SemId, SessionFacts, SessionsChange, Some, State, StepsAreCarried, Swept, SweptPlace, [], all-change_at, all-change_first, all-filter, all-insert_before, all-mapped, all-remove_first, all-weaker, ap, arith, change_at, change_janitor, change_launcher, change_requester, changed, cond, edited, false, fold, grown, handles_changed, inl, inr, insert_before, is_among, is_id_before, is_pair, is_pair_after, is_pair_before, is_session, is_swept, jobs-grown, jobs_changed, joined, left, length, length-append, length-change_at, length-set, nat_lt, nat_tests, new_record, next_id, none-list_any, not, numbered, plan, plan-next, refl, registered-still, registrations_left, request_left, request_queue, requests_changed, requests_left, rises-insert_before, same_request, semaphores_of, sessions_changed, slice_get_within, subst, sym, true, with_deed, with_handle, with_pair, without_handle, ℕ, ◌+◌, ◌<◌, ◌==◌, ◌^◌, ◌∙◌, ◌∷◌, ◌≡◌, ◌≤◌, ◌⊎◌}
use Rattle.np_layout.proofs.Rows.{pair-trans}
use Rattle.np_layout.proofs.Spelled.{IsKnown, all-spelled, known-accepted, launcher-low, next-text, priority-text}
use Rattle.np_layout.proofs.Stands.{same-roles, same-tick}
use Rattle.np_layout.proofs.SoundRows.{JobRow, job-low, job-row, pool-low}
use Rattle.np_lists.proofs.Plain.{by_bool}

-- # the tables that the tree keeps by names stay in their order, and each keeps its length

-- ## handles

with-holders : (n : ℕ) (j : JobId) (holders : List JobId) → j.0 < n → AreHolders n holders → AreHolders n (with_handle j holders)
with-holders n j holders low old = by_bool (λ (b : Bool). AreHolders n (cond b holders (insert_before (λ (other : JobId). nat_lt j.0 other.0) j holders))) (is_among j holders) (λ _. old) (λ out. record {
  rise = rises-insert_before (λ (a b : JobId). nat_lt a.0 b.0) (λ a b k first second. grind (arith, nat_tests)) j holders
      (all-weaker (λ (other : JobId). (other.0 == j.0) ≡ false) (λ (other : JobId). nat_lt j.0 other.0 ≡ false → nat_lt other.0 j.0 ≡ true) (λ other apart out. grind (arith, nat_tests)) holders (none-list_any (λ (other : JobId). other.0 == j.0) holders out)) old.rise;
  exist = all-insert_before (λ (other : JobId). other.0 < n) (λ other. nat_lt j.0 other.0) j holders low old.exist;
})

-- lists of holders that are changed one after another
all-changed : (n : ℕ) (f : List JobId → List JobId) (semaphores : List SemId) (rows : List (List JobId)) → ((holders : List JobId) → AreHolders n holders → AreHolders n (f holders)) → AllByRecursion (AreHolders n) rows →
    AllByRecursion (AreHolders n) (fold (λ (lists : List (List JobId)) (x : SemId). change_at x.0 f lists) rows semaphores)
all-changed n f [] rows keeps all = all
all-changed n f (x ∷ semaphores) rows keeps all = all-changed n f semaphores (change_at x.0 f rows) keeps (all-change_at (AreHolders n) x.0 f rows keeps all)

handles-by : (c : Configuration) (change : HandlesChange) (rows : List (List JobId)) → AllByRecursion (AreHolders (length c.jobs)) rows → AllByRecursion (AreHolders (length c.jobs)) (handles_changed c change rows)
handles-by c HandlesChange.Same rows all = all
handles-by c (HandlesChange.Release j) rows all = all-changed (length c.jobs) (without_handle j) (semaphores_of c j) rows
    (λ holders old. record {
      rise = Rises-filter (λ (a b : JobId). nat_lt a.0 b.0) (λ other. not (other.0 == j.0)) holders old.rise;
      exist = all-filter (λ (other : JobId). other.0 < length c.jobs) (λ other. not (other.0 == j.0)) holders old.exist;
    }) all

-- ## pairs

with-pair : (n : NodeId) (x : ℕ) (pairs : List Swept) → Rises is_pair_before pairs → Rises is_pair_before (with_pair n x pairs)
with-pair n x pairs old = by_bool (λ (b : Bool). Rises is_pair_before (cond b pairs (insert_before (is_pair_after n x) (record { node = n; server = x }) pairs))) (is_swept n x pairs) (λ _. old) (λ out.
    rises-insert_before is_pair_before pair-trans (record { node = n; server = x }) pairs
    (all-weaker (λ (pair : Swept). is_pair n x pair ≡ false) (λ (pair : Swept). is_pair_before (record { node = n; server = x }) pair ≡ false → is_pair_before pair (record { node = n; server = x }) ≡ true)
    (λ pair apart out. grind (arith, nat_tests)) pairs (none-list_any (is_pair n x) pairs out)) old)

-- ## lengths

length-changed : (f : List JobId → List JobId) (semaphores : List SemId) (rows : List (List JobId)) → length (fold (λ (lists : List (List JobId)) (x : SemId). change_at x.0 f lists) rows semaphores) ≡ length rows
length-changed f [] rows = refl
length-changed f (x ∷ semaphores) rows = length-changed f semaphores (change_at x.0 f rows) ∙ length-change_at x.0 f rows

length-handles_grown : (c : Configuration) (maker : Option Maker) (growth : Growth) (s : State) → length (grown c maker growth s).handles ≡ length s.handles
length-handles_grown c maker (Growth.Handles j) s = length-changed (with_handle j) (semaphores_of c j) s.handles
length-handles_grown c None _ s = refl
length-handles_grown c (Some m) _ s = refl

length-handles_changed : (c : Configuration) (change : HandlesChange) (rows : List (List JobId)) → length (handles_changed c change rows) ≡ length rows
length-handles_changed c HandlesChange.Same rows = refl
length-handles_changed c (HandlesChange.Release j) rows = length-changed (without_handle j) (semaphores_of c j) rows

-- no job's record is added or removed
pub length-jobs : (change : JobsChange) (rows : List JobRecord) → length (jobs_changed change rows) ≡ length rows
length-jobs change rows = grind (arith, length-set, length-change_at)

-- the change of a role's record keeps the length of each table
abbrev pub KeepsLength : ((RoleRecord → RoleRecord) → Role → List RoleRecord → List RoleRecord) → Type 0
KeepsLength change = (f : RoleRecord → RoleRecord) (r : Role) (rows : List RoleRecord) → length (change f r rows) ≡ length rows

-- a deed keeps the length of a table
pub deed-length : (change : (RoleRecord → RoleRecord) → Role → List RoleRecord → List RoleRecord) → KeepsLength change → (maker : Option Maker) (what : Option Deed) (rows : List RoleRecord) → length (with_deed change maker what rows) ≡ length rows
deed-length change keeps maker what rows = grind (arith, keeps)

-- ## all changes

module _ (c : Configuration) (s : State) (ch : Changes) (known : IsKnown c s ch) where
  pools-grown : (maker : Option Maker) (growth : Growth) → GrowthPremise c s ch growth → AllByRecursion (λ g. g.pool.0 < length c.pools) (grown c maker growth s).registrations
  pools-grown None (Growth.Registration p) premise = known.carried.ordered.pools
  pools-grown (Some m) (Growth.Registration p) premise =
      all-insert_before (λ (g : Registration). g.pool.0 < length c.pools) (λ g. nat_lt p.0 g.pool.0) (record { pool = p; session = m.session }) s.registrations
      (launcher-low c s ch.maker premise.session p known.fits known.premises.maker premise.made_by) known.carried.ordered.pools
  pools-grown maker _ premise = known.carried.ordered.pools

  pools-end : (change : SessionsChange) (rows : List Registration) → AllByRecursion (λ g. g.pool.0 < length c.pools) rows → AllByRecursion (λ g. g.pool.0 < length c.pools) (registrations_left change rows)
  pools-end (SessionsChange.End session) rows all = all-filter (λ (g : Registration). g.pool.0 < length c.pools) (λ g. not (is_session g.session session)) rows all
  pools-end _ rows all = all

  handles-grown : (maker : Option Maker) (growth : Growth) → GrowthPremise c s ch growth → AllByRecursion (AreHolders (length c.jobs)) (grown c maker growth s).handles
  handles-grown maker (Growth.Handles j) premise =
      all-changed (length c.jobs) (with_handle j) (semaphores_of c j) s.handles (λ holders old. with-holders (length c.jobs) j holders (slice_get_within c.jobs j.0 premise.job premise.row) old) known.carried.ordered.handles
  handles-grown None _ premise = known.carried.ordered.handles
  handles-grown (Some m) _ premise = known.carried.ordered.handles

  swept-grown : (maker : Option Maker) (growth : Growth) → Rises is_pair_before (grown c maker growth s).swept
  swept-grown maker (Growth.Swept n x) = with-pair n x s.swept known.carried.ordered.swept
  swept-grown None _ = known.carried.ordered.swept
  swept-grown (Some m) _ = known.carried.ordered.swept

  -- the tables are in order after the changes
  pub ordered-later : IsOrdered c (changed c ch s)
  ordered-later = record {
    registrations = let later = registered-still c s ch known.invariant.registered known.premises in later.one_a_pool;
    pools = pools-end ch.sessions (grown c ch.maker ch.grows s).registrations (pools-grown ch.maker ch.grows known.premises.grows);
    handles = handles-by c ch.handles (grown c ch.maker ch.grows s).handles (handles-grown ch.maker ch.grows known.premises.grows);
    swept = swept-grown ch.maker ch.grows;
  }

-- # a tree can carry the state that an accepted event leaves

-- ## numbers

-- an event makes one node at most
next-node : (c : Configuration) (maker : Option Maker) (growth : Growth) (s : State) → (grown c maker growth s).next_node ≤ s.next_node + 1
next-node c maker growth s = grind arith

-- an event begins one session at most
sessions-grown : (c : Configuration) (maker : Option Maker) (growth : Growth) (s : State) → length (grown c maker growth s).sessions ≤ length s.sessions + 1
sessions-grown c maker growth s = grind (arith, length-append)

sessions-length : (change : SessionsChange) (rows : List SessionFacts) → length (sessions_changed change rows) ≡ length rows
sessions-length change rows = grind (arith, length-change_at)

-- ## ids of requests

-- each of the rows has an id with a text
abbrev HaveTexts : List RequestEntry → Type 0
HaveTexts rows = AllByRecursion (λ e. IsGood (Request e.id)) rows

texts-changed : (maker : Option Maker) (change : RequestsChange) (rows : List RequestEntry) → HaveTexts rows → HaveTexts (requests_changed maker change rows)
texts-changed maker (RequestsChange.Edit r change) rows all =
    all-change_first (λ (e : RequestEntry). IsGood (Request e.id)) (λ e. same_request e.id r) (λ e. record e { kept = edited change e.kept }) rows (λ e good. good) all
texts-changed maker (RequestsChange.Remove r) rows all = all-remove_first (λ (e : RequestEntry). IsGood (Request e.id)) (λ e. same_request e.id r) rows all
texts-changed (Some m) (RequestsChange.Leave r) rows all = all-change_first (λ (e : RequestEntry). IsGood (Request e.id)) (λ e. same_request e.id r) (λ e. record e { queue = left m.session (request_queue r rows) }) rows (λ e good. good) all
texts-changed None _ rows all = all
texts-changed (Some m) _ rows all = all

texts-end : (change : SessionsChange) (rows : List RequestEntry) → HaveTexts rows → HaveTexts (requests_left change rows)
texts-end (SessionsChange.End session) rows all = all-mapped (λ (e : RequestEntry). IsGood (Request e.id)) (λ (e : RequestEntry). IsGood (Request e.id)) (request_left session) rows (λ e good. good) all
texts-end _ rows all = all

-- ## pairs

-- each of the pairs has a place with a text
abbrev HavePlaces : List Swept → Type 0
HavePlaces pairs = AllByRecursion (λ pair. IsGood (SweptPlace pair.node pair.server)) pairs

module _ (c : Configuration) (s : State) (ch : Changes) (known : IsKnown c s ch) where
  -- the id of a request that grows has a text
  pub new-text : (priority : ℕ) (asked : Asked) → AsksForJob c s ch priority asked ⊎ AsksToKeep c s ch priority asked → HasText (next_id priority s)
  new-text priority asked (inl asks) = priority-text c s priority known.fits (subst IsPriority (sym asks.of_job) (job-row c known.sound asks.number asks.job asks.row).priority)
  new-text priority asked (inr asks) = let is = asks.of_keeping in next-text c s priority known.fits (omega arith) (omega arith)

  texts-grown : (maker : Option Maker) (growth : Growth) → GrowthPremise c s ch growth → HaveTexts (grown c maker growth s).requests
  texts-grown maker (Growth.Request priority asked) premise =
      all-insert_before (λ (e : RequestEntry). IsGood (Request e.id)) (λ e. is_id_before (next_id priority s) e.id) (record { id = next_id priority s; kept = new_record asked; queue = [] }) s.requests
      (new-text priority asked premise) known.carried.good.requests
  texts-grown (Some m) (Growth.JoinRequest r) premise =
      all-change_first (λ (e : RequestEntry). IsGood (Request e.id)) (λ e. same_request e.id r) (λ e. record e { queue = joined m.session (request_queue r s.requests) }) s.requests (λ e good. good) known.carried.good.requests
  texts-grown None _ premise = known.carried.good.requests
  texts-grown (Some m) _ premise = known.carried.good.requests

  places-grown : (maker : Option Maker) (growth : Growth) → IsTypedGrowth growth → HavePlaces (grown c maker growth s).swept
  places-grown maker (Growth.Swept n x) typed = by_bool (λ (b : Bool). HavePlaces (cond b s.swept (insert_before (is_pair_after n x) (record { node = n; server = x }) s.swept))) (is_swept n x s.swept) (λ _. known.carried.good.swept)
      (λ _. all-insert_before (λ (pair : Swept). IsGood (SweptPlace pair.node pair.server)) (is_pair_after n x) (record { node = n; server = x }) s.swept typed known.carried.good.swept)
  places-grown None _ typed = known.carried.good.swept
  places-grown (Some m) _ typed = known.carried.good.swept

  -- ## lengths

  handles-many : length (changed c ch s).handles ≡ length c.semaphores
  handles-many = length-handles_changed c ch.handles (grown c ch.maker ch.grows s).handles ∙ length-handles_grown c ch.maker ch.grows s ∙ known.carried.semaphores

  jobs-many : length (changed c ch s).jobs ≡ length c.jobs
  jobs-many = length-jobs ch.jobs (grown c ch.maker ch.grows s).jobs ∙ ap (λ (rows : List JobRecord). length rows) (jobs-grown c ch.maker ch.grows s) ∙ known.carried.jobs

  launchers-many : length (changed c ch s).launchers ≡ length c.pools
  launchers-many = deed-length change_launcher (λ f r rows. grind (arith, length-change_at)) ch.maker ch.deed _ ∙ ap (λ (rows : List RoleRecord). length rows) (same-roles c ch.maker ch.grows s).0 ∙ known.carried.launchers

  janitors-many : length (changed c ch s).janitors ≡ length c.pools
  janitors-many = deed-length change_janitor (λ f r rows. grind (arith, length-change_at)) ch.maker ch.deed _ ∙ ap (λ (rows : List RoleRecord). length rows) (same-roles c ch.maker ch.grows s).1.0 ∙ known.carried.janitors

  requesters-many : length (changed c ch s).requesters ≡ length c.requesters
  requesters-many = deed-length change_requester (λ f r rows. grind (arith, length-change_at)) ch.maker ch.deed _ ∙ ap (λ (rows : List RoleRecord). length rows) (same-roles c ch.maker ch.grows s).1.1 ∙ known.carried.requesters

  -- ## all of it

  -- each id has a text after the changes
  pub good-later : HasGoodIds (changed c ch s)
  good-later =
      let ordered : IsOrdered c (changed c ch s) = ordered-later c s ch known in
      let sessions : length (changed c ch s).sessions < 2 ^ 32 = omega (arith, sessions-length ch.sessions (grown c ch.maker ch.grows s).sessions, sessions-grown c ch.maker ch.grows s, known.fits.sessions) in
      let most : (changed c ch s).next_node ≤ 2 ^ 32 = omega (arith, next-node c ch.maker ch.grows s, known.fits.next_node) in
      let nodes = all-weaker (λ (e : NodeEntry). e.id.0 < (changed c ch s).next_node) (λ (e : NodeEntry). IsGood (Node e.id)) (λ e low. omega arith) (changed c ch s).nodes (numbered c s ch known.invariant.numbered).nodes_below in
      let requests = texts-end ch.sessions _ (texts-changed ch.maker ch.requests (grown c ch.maker ch.grows s).requests (texts-grown ch.maker ch.grows known.premises.grows)) in
      let registrations = all-weaker (λ (g : Registration). g.pool.0 < length c.pools) (λ (g : Registration). IsGood (Launcher g.pool)) (λ g low. pool-low c g.pool known.sound low) (changed c ch s).registrations ordered.pools in
      let handles = all-weaker (AreHolders (length c.jobs)) (λ (holders : List JobId). AllByRecursion (λ j. IsGood (Job j)) holders)
      (λ holders are. all-weaker (λ (j : JobId). j.0 < length c.jobs) (λ (j : JobId). IsGood (Job j)) (λ j low. job-low c j known.sound low) holders are.exist) (changed c ch s).handles ordered.handles in
      let swept = places-grown ch.maker ch.grows known.typed.grows in
      search (arith, handles-many, jobs-many, launchers-many, janitors-many, requesters-many, known.sound.few_semaphores, known.sound.demand.few_jobs, known.sound.supply.few_pools, known.sound.few_requesters)

  tick-later : (changed c ch s).tick < 2 ^ 32
  tick-later = grind (arith, same-tick c ch.maker ch.grows s, known.fits.tick)

  -- a tree can carry the state after the changes
  pub carried-later : IsCarried c (changed c ch s)
  carried-later = assumption (good-later, all-spelled c s ch known ch.sessions, ordered-later c s ch known, handles-many, jobs-many, launchers-many, janitors-many, requesters-many, tick-later)

-- a tree can carry the state that an accepted event leaves
pub steps-are-carried : StepsAreCarried
steps-are-carried c s e is = subst (IsCarried c) (plan-next c s e is.accepted) (carried-later c s (plan c s e) (known-accepted c s e is))
