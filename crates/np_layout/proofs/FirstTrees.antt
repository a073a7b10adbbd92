-- the first tree of a sound site, from its fixed directories on, and that it can carry the first state
use Rattle.np_layout.proofs.Prelude.{AllByRecursion, AreHolders, AreSemaphores, Bool, Configuration, Goes, HasGoodIds, HasHandles, HasLeaves, HasRoomFor, HasSpellings, IsGood, IsJob, IsOk, IsOrdered, IsPart, IsRole, IsSound, IsWhole, IsWhole-new_tree, JanitorRole, Job, JobId, Jobs, LauncherRole, Launchers, LaysOut, List, Nodepool, Nodes, None, Op, Persistent, Place, Poolsim, RequestLocks, RequesterRole, Requests, Roles, Root, Row, Seen, Semaphore, Semaphores, Sessions, Some, StartsAreCarried, SweptPairs, Tick, TreeState, Zuul, above, after_begin, after_part, after_parts, all-map, answers_from, ap, arith, below, by_name, decimal, digits, directories, false, find_named, first_directories, first_parts, first_tree, fold-append, goes-answered, goes-joined, goes-under-one-number, goes-whole, handle_row, is_in, janitor_role_row, job_row, job_text, launcher_role_row, length, length-map, make, make_each, map, new_job, new_tree, no_deeds, nothing-below_nothing, option_map, owner_at, path_of, persistent, place_name, places, range_with_len, refl, requester_role_row, role_text, room-falls, room-gives, rows_at, rows_from, seen_at, seen_in, semaphore_row, start, subst, suc, sym, true, under, with_next_number, with_row, zero, ℕ, [], ◌++◌, ◌+◌, ◌<◌, ◌^◌, ◌∙◌, ◌∷◌, ◌≡◌, ◌≤◌}
use Rattle.np_layout.proofs.Names.{IsGood-above, is_path-of, length-two}
use Rattle.np_layout.proofs.Steps.{Step, counter-there, make-step, over_leaves, seen-named}
use Rattle.np_layout.proofs.Elsewhere.{IsBeside, Says, Stays, Table, all-tables, live-stays, of_frame, of_jobs, of_launchers, of_live, of_node_locks, of_nodes, of_request_locks, of_requests, of_roles, of_semaphores, of_sessions, of_swept, rows-stay, same-lays, stays-both, stays-more, stays-same, stays-wider, table-beside}
use Rattle.np_layout.proofs.Rows.{all-range, get-empty, no_jobs, rows_from-equal, rows_put}
use Rattle.np_layout.proofs.Sets.{IsTable, janitor-table, janitor_place, job-table, job_place, launcher-table, launcher_place, place_number, requester-table, requester_place}

-- # the tree of the fixed directories alone

-- each part takes the room of one
pub room-after : (t : TreeState) (w : ℕ) (parts : List Op) (more : ℕ) → HasRoomFor (length parts + more) t → HasRoomFor more (after_parts t w parts)
room-after t w [] more room = subst (λ (k : ℕ). HasRoomFor k t) (omega arith) room
room-after t w (part ∷ parts) more room =
    room-after (after_part t w part) w parts more (room-falls t w part (length parts + more) (subst (λ (k : ℕ). HasRoomFor k t) (omega arith) room))

-- the fixed directories
pub based : TreeState
based = after_parts (after_begin new_tree) 1 (map (make []) first_directories)

-- they are all made
pub based-goes : Goes (after_begin new_tree) 1 (map (make []) first_directories) based
unfolding based path_of
based-goes = (refl, (refl, (refl, (refl, (refl, (refl, (refl, (refl, (refl, (refl, (refl, (refl, refl))))))))))))

-- they are whole
pub based-whole : IsWhole based.nodes
based-whole = goes-whole (after_begin new_tree) based 1 (map (make []) first_directories) IsWhole-new_tree
    (at Nodepool tt, (at Launchers tt, (at Nodes tt, (at Requests tt, (at RequestLocks tt, (at Poolsim tt, (at Jobs tt, (at Roles tt, (at Sessions tt, (at SweptPairs tt, (at Zuul tt, (at Semaphores tt, tt)))))))))))) based-goes where
      -- a create at a good place can be requested
      at : (p : Place) → IsGood p → IsPart (make [] p)
      at p good = record { path = is_path-of p good; numbered = refl }

-- there is room for many nodes
pub based-room : (more : ℕ) → more ≤ 1_000_000 → HasRoomFor more based
unfolding based
based-room more few = room-after (after_begin new_tree) 1 (map (make []) first_directories) more (record {
  change = omega arith;
  versions = (omega arith, tt);
  counters = (omega arith, tt);
  rows = λ dir. let none : 0 + (12 + more) ≤ 4_294_967_295 = omega arith in none;
  few = omega arith;
})

-- what they show
pub record Shows (t : TreeState) : Type 0 where
  pub root : under Root t ≡ directories (Nodepool ∷ Poolsim ∷ Zuul ∷ [])
  pub nodepool : under Nodepool t ≡ directories (Launchers ∷ Nodes ∷ Requests ∷ RequestLocks ∷ [])
  pub zuul : under Zuul t ≡ directories (Semaphores ∷ [])
  pub poolsim : under Poolsim t ≡ directories (Jobs ∷ Roles ∷ Sessions ∷ SweptPairs ∷ [])
  pub semaphores : under Semaphores t ≡ []
  pub jobs : under Jobs t ≡ []
  pub roles : under Roles t ≡ []
  pub leaf : under Tick t ≡ []
  pub free : seen_at t (path_of Tick) ≡ None
  pub owners : AllByRecursion (λ dir. owner_at t (path_of dir) ≡ Some None) (Semaphores ∷ Jobs ∷ Roles ∷ Poolsim ∷ [])
  pub live : is_in t.live 1 ≡ true

pub based-shows : Shows based
unfolding based path_of
based-shows = record { root = refl; nodepool = refl; zuul = refl; poolsim = refl; semaphores = refl; jobs = refl; roles = refl; leaf = refl; free = refl; owners = (refl, (refl, (refl, (refl, tt)))); live = refl }

-- the tables that are not empty before the first event
abbrev pub is_filled : Table → Bool
is_filled of_frame = true
is_filled of_semaphores = true
is_filled of_jobs = true
is_filled of_roles = true
is_filled other = false

-- the other ones are laid out
pub based-says : (c : Configuration) (k : Table) → is_filled k ≡ false → Says (start c) based k
unfolding based path_of
based-says c of_frame empty = absurd cc
based-says c of_semaphores empty = absurd cc
based-says c of_jobs empty = absurd cc
based-says c of_roles empty = absurd cc
based-says c k empty = assumption

-- # several parts of the first call make the nodes of one kind

-- the kinds of nodes that are made after the directories, in the order in which they are made; the last number is for the other places
abbrev pub turn : Place → ℕ
turn (Semaphore x) = 0
turn (Job j) = 1
turn (LauncherRole p) = 2
turn (JanitorRole p) = 3
turn (RequesterRole q) = 4
turn other = 5

-- the tree after these parts, which made the directories and some kinds
pub record Made (kind more : ℕ) (parts : List Op) (dirs : List Place) (t : TreeState) : Type 0 where
  pub goes : Goes (after_begin new_tree) 1 parts t
  pub whole : IsWhole t.nodes
  pub live : t.live ≡ based.live
  pub begun : t.begun ≡ based.begun
  pub stays : Stays dirs based t
  pub seen : (p : Place) → IsGood p → kind ≤ turn p → seen_at t (path_of p) ≡ seen_at based (path_of p)
  pub room : HasRoomFor more t

-- the tree after one kind more: a directory has its rows
pub record After {A : Type 0} {kind rest : ℕ} {parts : List Op} {dirs : List Place} {t : TreeState} (place : ℕ → Place) (dir : Place) (bytes : List ℕ) (list : List A) (more : ℕ) (before : Made kind rest parts dirs t) : Type 0 where
  pub u : TreeState
  pub made : Made (kind + 1) more (parts ++ make_each bytes place list) (dir ∷ dirs) u
  pub stays : Stays (dir ∷ []) t u
  pub rows : under dir u ≡ rows_put (under dir t) (map (λ n. persistent (place n) bytes) (places list))
  pub leaves : HasLeaves dir t → HasLeaves dir u

-- a directory in which the first session can make nodes
pub record Ready (dir : Place) (t : TreeState) : Type 0 where
  pub whole : IsWhole t.nodes
  pub live : is_in t.live 1 ≡ true
  pub owner : owner_at t (path_of dir) ≡ Some None

-- the tree after so many places of one kind, from a number on: a directory has their rows more
pub record Block (place : ℕ → Place) (dir : Place) (bytes : List ℕ) (kind at count more : ℕ) (t : TreeState) : Type 0 where
  pub u : TreeState
  pub goes : Goes t 1 (map (λ n. make bytes (place n)) (range_with_len at count)) u
  pub whole : IsWhole u.nodes
  pub live : u.live ≡ t.live
  pub begun : u.begun ≡ t.begun
  pub stays : Stays (dir ∷ []) t u
  pub rows : under dir u ≡ rows_put (under dir t) (map (λ n. persistent (place n) bytes) (range_with_len at count))
  pub leaves : HasLeaves dir t → HasLeaves dir u
  pub seen : (other : Place) → IsGood other → kind < turn other → seen_at u (path_of other) ≡ seen_at t (path_of other)
  pub room : HasRoomFor more u

-- a directory that was ready at first is so when kinds of nodes were made
pub ready-in : {kind more : ℕ} {parts : List Op} {dirs : List Place} {t : TreeState} (dir : Place) (before : Made kind more parts dirs t) → IsGood dir → kind ≤ turn dir → owner_at based (path_of dir) ≡ Some None → Ready dir t
ready-in dir before good later owner = record {
  whole = before.whole;
  live = ap (λ (known : List ℕ). is_in known 1) before.live ∙ based-shows.live;
  owner = ap (option_map (λ (seen : Seen). seen.owner)) (before.seen dir good later) ∙ owner;
}

-- each good place below an empty directory is free
pub free-below : (t : TreeState) (dir p : Place) → IsWhole t.nodes → under dir t ≡ [] → IsGood p → above p ≡ Some dir → seen_at t (path_of p) ≡ None
free-below t dir p whole empty good over = seen-named t dir p whole good over ∙ ap (λ (rows : List Row). option_map seen_in (find_named (place_name p) rows)) empty

module _ {A : Type 0} (place : ℕ → Place) (number : Place → ℕ) (dir : Place) (bytes : List ℕ) (list : List A) (kind : ℕ) (is : IsTable place number dir 0 list) (top : over_leaves (above dir) ≡ false) (short : length bytes ≤ 65536) (kinds : (n : ℕ) → turn (place n) ≡ kind) (early : kind < turn dir) where
  -- a place of a later kind is none of them
  apart : (p : Place) (n : ℕ) → kind < turn p → p ≡ place n → ⊥
  apart p n later same = let turns : turn p ≡ kind = ap turn same ∙ kinds n in omega arith

  -- the nodes of one kind are made, if none of them is there
  pub block : (count at more : ℕ) (t : TreeState) → at + count ≤ length list → Ready dir t → HasRoomFor (count + more) t → ((n : ℕ) → at ≤ n → n < length list → seen_at t (path_of (place n)) ≡ None) → Block place dir bytes kind at count more t
  block zero at more t within ready room free = record {
    u = t;
    goes = refl;
    whole = ready.whole;
    live = refl;
    begun = refl;
    stays = stays-same (dir ∷ []) t;
    rows = refl;
    leaves = λ leaves. leaves;
    seen = λ other good later. refl;
    room = let same : 0 + more ≡ more = omega arith in subst (λ (n : ℕ). HasRoomFor n t) same room;
  }
  block (suc count) at more t within ready room free =
      let same : suc count + more ≡ (count + more) + 1 = omega arith in
      let left = subst (λ (n : ℕ). HasRoomFor n t) same room in
      let good = is.good at (omega arith) in
      let counter = counter-there t dir ready.owner in
      let one : Step dir (place at) Persistent (persistent (place at) bytes) t 1 (make bytes (place at)) =
      make-step t 1 dir (place at) bytes Persistent counter.0 good (is.over at) top refl short
      (assumption (ready, counter.1, free at (omega arith) (omega arith), room-gives t (count + more) left)) in
      let u : TreeState = after_part t 1 (make bytes (place at)) in
      let next : Ready dir u = record {
        whole = one.creates.whole;
        live = ap (λ (known : List ℕ). is_in known 1) one.creates.live ∙ ready.live;
        owner = ap (option_map (λ (seen : Seen). seen.owner)) (one.creates.other_seen dir (IsGood-above (place at) dir good (is.over at)) (apart dir at early)) ∙ ready.owner;
      } in
      let later = block count (at + 1) more u (omega arith) next (room-falls t 1 (make bytes (place at)) (count + more) left)
      (λ n from below. one.creates.other_seen (place n) (is.good n (omega arith)) (λ equal. let numbers : n ≡ at = sym (is.numbers n) ∙ ap number equal ∙ is.numbers at in absurd (omega arith)) ∙ free n (omega arith) below) in
      record {
        u = later.u;
        goes = (one.ok, later.goes);
        whole = later.whole;
        live = later.live ∙ one.creates.live;
        begun = later.begun ∙ one.creates.begun;
        stays = stays-both (dir ∷ []) t u later.u one.creates.stays later.stays;
        rows = later.rows ∙ ap (λ (sorted : List Row). rows_put sorted (map (λ (n : ℕ). persistent (place n) bytes) (range_with_len (at + 1) count))) one.creates.rows;
        leaves = λ leaves. later.leaves (one.creates.leaves leaves);
        seen = λ other other_good after. later.seen other other_good after ∙ one.creates.other_seen other other_good (apart other at after);
        room = later.room;
      }

  -- so they are after the kinds before
  pub kind-made : (t : TreeState) (parts : List Op) (dirs : List Place) (more : ℕ) → owner_at based (path_of dir) ≡ Some None → under dir based ≡ [] → IsGood dir → (before : Made kind (length list + more) parts dirs t) → After place dir bytes list more before
  kind-made t parts dirs more owner empty dir_good before =
      let b : Block place dir bytes kind 0 (length list) more t = block (length list) 0 more t (omega arith)
      (ready-in dir before dir_good (omega arith) owner) before.room
      (λ n from low. let good = is.good n (omega arith) in let turns = kinds n in before.seen (place n) good (omega arith) ∙ free-below based dir (place n) based-whole empty good (is.over n)) in
      record {
        u = b.u;
        made = record {
          goes = goes-joined (after_begin new_tree) t b.u 1 parts (make_each bytes place list) before.goes b.goes;
          whole = b.whole;
          live = b.live ∙ before.live;
          begun = b.begun ∙ before.begun;
          stays = stays-both (dir ∷ dirs) based t b.u (stays-wider dirs (dir ∷ dirs) based t (λ other apart. apart.1) before.stays) (stays-wider (dir ∷ []) (dir ∷ dirs) t b.u (λ other apart. (apart.0, tt)) b.stays);
          seen = λ p good later. b.seen p good (omega arith) ∙ before.seen p good (omega arith);
          room = b.room;
        };
        stays = b.stays;
        rows = b.rows;
        leaves = b.leaves;
      }

-- # the first tree of a sound site

-- the place of each semaphore
abbrev semaphore_at : ℕ → Place
semaphore_at n = Semaphore (record { 0 = n })

-- the first records of roles and of jobs are short
short-records : (length (role_text no_deeds) ≤ 65536) × (length (job_text new_job) ≤ 65536)
unfolding digits
short-records = (omega arith, omega arith)

-- nothing is below what is not there
bare : (dir : Place) (t : TreeState) → under dir t ≡ [] → HasLeaves dir t
bare dir t empty = subst (AllByRecursion (λ (row : Row). rows_at t (below (path_of dir) row.name) ≡ [])) (sym empty) tt

module _ (c : Configuration) (sound : IsSound c) where
  -- each id of the state before the first event has a text
  pub start-good : HasGoodIds (start c)
  start-good =
      let semaphores : length (map (λ _. no_jobs) c.semaphores) ≤ 2 ^ 16 = omega (arith, length-map c.semaphores (λ _. no_jobs), sound.few_semaphores) in
      let handles = all-map (λ holders. AllByRecursion (λ j. IsGood (Job j)) holders) (λ _. no_jobs) c.semaphores (λ row. tt) in
      let pools : length (map (λ _. no_deeds) c.pools) ≤ 2 ^ 16 = omega (arith, length-map c.pools (λ _. no_deeds), sound.supply.few_pools) in
      let jobs : length (map (λ _. new_job) c.jobs) ≤ 2 ^ 32 = omega (arith, length-map c.jobs (λ _. new_job), sound.demand.few_jobs) in
      let requesters : length (map (λ _. no_deeds) c.requesters) ≤ 2 ^ 16 = omega (arith, length-map c.requesters (λ _. no_deeds), sound.few_requesters) in
      search arith

  -- ## the tree after each kind

  are-semaphores : IsTable semaphore_at place_number Semaphores 0 c.semaphores
  are-semaphores = record { good = λ n low. let few = sound.few_semaphores in omega arith; over = λ n. refl; numbers = λ n. refl }

  -- nothing but the directories is made at first
  directories-made : Made 0 (length c.semaphores + (length c.jobs + (length c.pools + (length c.pools + (length c.requesters + 1))))) (map (make []) first_directories) [] based
  directories-made = record {
    goes = based-goes;
    whole = based-whole;
    live = refl;
    begun = refl;
    stays = stays-same [] based;
    seen = λ p good later. refl;
    room = based-room (length c.semaphores + (length c.jobs + (length c.pools + (length c.pools + (length c.requesters + 1))))) (omega (arith, sound.few_semaphores, sound.demand.few_jobs, sound.supply.few_pools, sound.few_requesters));
  }

  semaphores : After semaphore_at Semaphores [] c.semaphores (length c.jobs + (length c.pools + (length c.pools + (length c.requesters + 1)))) directories-made
  semaphores = kind-made semaphore_at place_number Semaphores [] c.semaphores 0 are-semaphores refl (omega arith) (λ n. refl) (omega arith) based _ _ (length c.jobs + (length c.pools + (length c.pools + (length c.requesters + 1)))) based-shows.owners.0 based-shows.semaphores tt directories-made

  jobs : After job_place Jobs (job_text new_job) c.jobs (length c.pools + (length c.pools + (length c.requesters + 1))) semaphores.made
  jobs = kind-made job_place place_number Jobs (job_text new_job) c.jobs 1 (job-table c.jobs (omega (arith, sound.demand.few_jobs))) refl short-records.1 (λ n. refl) (omega arith) semaphores.u _ _ _ based-shows.owners.1.0 based-shows.jobs tt semaphores.made

  launchers : After launcher_place Roles (role_text no_deeds) c.pools (length c.pools + (length c.requesters + 1)) jobs.made
  launchers = kind-made launcher_place place_number Roles (role_text no_deeds) c.pools 2 (launcher-table c.pools (omega (arith, sound.supply.few_pools))) refl short-records.0 (λ n. refl) (omega arith) jobs.u _ _ _ based-shows.owners.1.1.0 based-shows.roles tt jobs.made

  janitors : After janitor_place Roles (role_text no_deeds) c.pools (length c.requesters + 1) launchers.made
  janitors = kind-made janitor_place place_number Roles (role_text no_deeds) c.pools 3 (janitor-table c.pools (omega (arith, sound.supply.few_pools))) refl short-records.0 (λ n. refl) (omega arith) launchers.u _ _ _ based-shows.owners.1.1.0 based-shows.roles tt launchers.made

  requesters : After requester_place Roles (role_text no_deeds) c.requesters 1 janitors.made
  requesters = kind-made requester_place place_number Roles (role_text no_deeds) c.requesters 4 (requester-table c.requesters (omega (arith, sound.few_requesters))) refl short-records.0 (λ n. refl) (omega arith) janitors.u _ _ _ based-shows.owners.1.1.0 based-shows.roles tt janitors.made

  -- the tick is made last
  ticked : Step Poolsim Tick Persistent (persistent Tick (decimal 0)) requesters.u 1 (make (decimal 0) Tick)
  ticked =
      let before = requesters.made in
      let ready : Ready Poolsim requesters.u = ready-in Poolsim before tt (omega arith) based-shows.owners.1.1.1.0 in
      let short = length-two 0 (omega arith) in
      let counter = counter-there requesters.u Poolsim ready.owner in
      let room : HasRoomFor (0 + 1) requesters.u = before.room in
      make-step requesters.u 1 Poolsim Tick (decimal 0) Persistent counter.0 tt refl refl refl (omega arith)
      (record { whole = ready.whole; live = ready.live; owner = ready.owner; gives = counter.1; free = before.seen Tick tt (omega arith) ∙ based-shows.free; room = room-gives requesters.u 0 room })

  -- all that is made
  abbrev made : TreeState
  made = after_part requesters.u 1 (make (decimal 0) Tick)

  -- each part of the first call is accepted, and all of them leave what is made
  made-goes : Goes (after_begin new_tree) 1 (first_parts c) made
  made-goes =
      let parts : List Op =
      map (make []) first_directories ++ make_each [] semaphore_at c.semaphores ++ make_each (job_text new_job) job_place c.jobs ++ make_each (role_text no_deeds) launcher_place c.pools
      ++ make_each (role_text no_deeds) janitor_place c.pools ++ make_each (role_text no_deeds) requester_place c.requesters in
      goes-joined (after_begin new_tree) requesters.u made 1 parts (make (decimal 0) Tick ∷ []) requesters.made.goes (ticked.ok, refl)

  -- ## the tree lays out the state

  from-jobs : Stays (Roles ∷ Roles ∷ Roles ∷ Poolsim ∷ []) jobs.u made
  from-jobs = stays-more Roles _ jobs.u launchers.u made launchers.stays (stays-more Roles _ launchers.u janitors.u made janitors.stays (stays-more Roles _ janitors.u requesters.u made requesters.stays ticked.creates.stays))

  from-semaphores : Stays (Jobs ∷ Roles ∷ Roles ∷ Roles ∷ Poolsim ∷ []) semaphores.u made
  from-semaphores = stays-more Jobs _ semaphores.u jobs.u made jobs.stays from-jobs

  from-based : Stays (Semaphores ∷ Jobs ∷ Roles ∷ Roles ∷ Roles ∷ Poolsim ∷ []) based made
  from-based = stays-more Semaphores _ based semaphores.u made semaphores.stays from-semaphores

  -- the directory of roles is empty before the first of them
  no-roles : under Roles jobs.u ≡ []
  no-roles = rows-stay (Jobs ∷ Semaphores ∷ []) based jobs.u jobs.made.stays Roles tt refl ∙ based-shows.roles

  -- a semaphore has no handles
  semaphore-empty : (n : ℕ) → n < length c.semaphores → HasHandles (start c).handles semaphores.u (record { 0 = n })
  semaphore-empty n low =
      let good = are-semaphores.good n (omega arith) in
      let empty : under (semaphore_at n) semaphores.u ≡ [] =
      rows-stay (Semaphores ∷ []) based semaphores.u semaphores.stays (semaphore_at n) good refl ∙ nothing-below_nothing based (path_of (semaphore_at n)) based-whole (free-below based Semaphores (semaphore_at n) based-whole based-shows.semaphores good refl) in
      record { rows = empty ∙ sym (ap (λ (list : List JobId). by_name (map (λ j. handle_row (record { 0 = n }) j) list)) (get-empty c.semaphores n)); leaves = bare (semaphore_at n) semaphores.u empty }

  -- the semaphores are laid out
  semaphores-lie : AreSemaphores (start c).handles semaphores.u
  semaphores-lie =
      let many : length (map (λ _. no_jobs) c.semaphores) ≡ length c.semaphores = length-map c.semaphores (λ _. no_jobs) in
      record {
        rows =
            semaphores.rows ∙ ap (λ (sorted : List Row). rows_put sorted (map semaphore_row (range_with_len 0 (length c.semaphores)))) based-shows.semaphores
            ∙ sym (ap (λ (n : ℕ). by_name (map semaphore_row (range_with_len 0 n))) many);
        each = subst (λ (n : ℕ). AllByRecursion (λ at. HasHandles (start c).handles semaphores.u (record { 0 = at })) (range_with_len 0 n)) (sym many)
            (all-range (λ at. HasHandles (start c).handles semaphores.u (record { 0 = at })) (length c.semaphores) 0 (length c.semaphores) (omega arith) semaphore-empty);
      }

  -- the rows of each kind of role
  abbrev role_rows : (ℕ → Place) → ℕ → List Row
  role_rows place count = map (λ n. persistent (place n) (role_text no_deeds)) (range_with_len 0 count)

  -- the roles' rows are put one kind after another
  roles-made : under Roles requesters.u ≡ by_name (rows_from launcher_role_row 0 (start c).launchers ++ rows_from janitor_role_row 0 (start c).janitors ++ rows_from requester_role_row 0 (start c).requesters)
  roles-made =
      let put : List Row → Row → List Row = λ before row. with_row row before in
      let a : List Row = role_rows launcher_place (length c.pools) in
      let b : List Row = role_rows janitor_place (length c.pools) in
      let d : List Row = role_rows requester_place (length c.requesters) in
      requesters.rows
      ∙ ap (λ (sorted : List Row). rows_put sorted d) (janitors.rows ∙ ap (λ (sorted : List Row). rows_put sorted b) (launchers.rows ∙ ap (λ (sorted : List Row). rows_put sorted a) no-roles) ∙ sym (fold-append put [] a b))
      ∙ sym (fold-append put [] (a ++ b) d)
      ∙ ap (λ (rows : List Row). by_name (rows ++ b ++ d)) (rows_from-equal launcher_role_row no_deeds c.pools 0)
      ∙ ap (λ (rows : List Row). by_name (rows_from launcher_role_row 0 (start c).launchers ++ rows ++ d)) (rows_from-equal janitor_role_row no_deeds c.pools 0)
      ∙ ap (λ (rows : List Row). by_name (rows_from launcher_role_row 0 (start c).launchers ++ rows_from janitor_role_row 0 (start c).janitors ++ rows)) (rows_from-equal requester_role_row no_deeds c.requesters 0)

  -- what is made lays out the state before the first event
  made-lays : LaysOut (start c) made
  made-lays = all-tables _ _ each where
    stay : (p : Place) → IsGood p → IsBeside p (Semaphores ∷ Jobs ∷ Roles ∷ Roles ∷ Roles ∷ Poolsim ∷ []) → under p made ≡ under p based
    stay = rows-stay _ based made from-based

    no_jobs_yet : under Jobs semaphores.u ≡ []
    no_jobs_yet = rows-stay (Semaphores ∷ []) based semaphores.u semaphores.stays Jobs tt refl ∙ based-shows.jobs

    each : (k : Table) → Says (start c) made k
    each of_frame = record {
      root = stay Root tt refl ∙ based-shows.root;
      nodepool = stay Nodepool tt refl ∙ based-shows.nodepool;
      zuul = stay Zuul tt refl ∙ based-shows.zuul;
      poolsim = ticked.creates.rows ∙ ap (with_row (persistent Tick (decimal 0))) (rows-stay (Roles ∷ Roles ∷ Roles ∷ Jobs ∷ Semaphores ∷ []) based requesters.u requesters.made.stays Poolsim tt refl ∙ based-shows.poolsim);
      leaf = stay Tick tt refl ∙ based-shows.leaf;
    }
    each of_semaphores = table-beside (start c) (Jobs ∷ Roles ∷ Roles ∷ Roles ∷ Poolsim ∷ []) semaphores.u made start-good from-semaphores of_semaphores refl refl semaphores-lie
    each of_jobs = table-beside (start c) (Roles ∷ Roles ∷ Roles ∷ Poolsim ∷ []) jobs.u made start-good from-jobs of_jobs refl refl (record {
      rows = jobs.rows ∙ ap (λ (sorted : List Row). rows_put sorted (map (λ n. persistent (job_place n) (job_text new_job)) (range_with_len 0 (length c.jobs)))) no_jobs_yet ∙ ap by_name (rows_from-equal job_row new_job c.jobs 0);
      leaves = jobs.leaves (bare Jobs semaphores.u no_jobs_yet);
    })
    each of_roles = table-beside (start c) (Poolsim ∷ []) requesters.u made start-good ticked.creates.stays of_roles refl refl (record {
      rows = roles-made;
      leaves = requesters.leaves (janitors.leaves (launchers.leaves (bare Roles jobs.u no-roles)));
    })
    each of_live = live-stays based made (ticked.creates.live ∙ requesters.made.live) (ticked.creates.begun ∙ requesters.made.begun) [] (based-says c of_live refl)
    each k = table-beside (start c) (Semaphores ∷ Jobs ∷ Roles ∷ Roles ∷ Roles ∷ Poolsim ∷ []) based made start-good from-based k refl refl (based-says c k refl)

  -- the first tree lays out the state before the first event: the change number is not seen
  pub first-lays : LaysOut (start c) (first_tree c)
  first-lays = subst (λ (t : TreeState). LaysOut (start c) t) (sym (goes-under-one-number (after_begin new_tree) made 1 (first_parts c) made-goes refl))
      (same-lays (start c) made (with_next_number made) start-good refl refl (record { rows = λ other good apart. refl; leaves = λ other good has apart leaves. leaves; counters = λ other next good has apart is. is }) made-lays)

  -- the call that makes it is accepted
  pub first-goes : IsOk (answers_from 0 (after_begin new_tree) 1 (first_parts c))
  first-goes = goes-answered 0 (after_begin new_tree) made 1 (first_parts c) made-goes

-- # a tree can carry the state before the first event

roles-spelled : {A : Type 0} (rows : List A) → AllByRecursion IsRole (map (λ _. no_deeds) rows)
roles-spelled rows = all-map IsRole (λ _. no_deeds) rows (λ row. search arith)

-- a tree can carry the state before the first event of a sound site
pub starts-are-carried : StartsAreCarried
starts-are-carried c sound =
    let spelled : HasSpellings (start c) = assumption (all-map IsJob (λ _. new_job) c.jobs (λ row. search arith), roles-spelled c.pools, roles-spelled c.requesters) in
    let ordered : IsOrdered c (start c) = assumption (all-map (AreHolders (length c.jobs)) (λ _. no_jobs) c.semaphores (λ row. record { rise = tt; exist = tt })) in
    search (arith, start-good c sound, length-map c.semaphores (λ _. no_jobs), length-map c.jobs (λ _. new_job), length-map c.pools (λ _. no_deeds), length-map c.requesters (λ _. no_deeds))
