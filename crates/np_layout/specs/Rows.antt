-- the row of each record, lock and mark among its siblings
use Rattle.std.specs.Prelude.{ℕ, ◌+◌, List, [], ◌∷◌, codes, ◌++◌, fold, length, Some, None, map}
use Rattle.np_layout.specs.Place.{place_name, path_of}
use Rattle.np_layout.specs.declared.place.Place.{Place}
use Rattle.np_layout.specs.declared.place.Place.TheVariants.{Request, RequestLock, Launcher, Semaphore, Handle, Job, LauncherRole, JanitorRole, RequesterRole, Session, Swept as SweptPlace, Nodepool, Requests, RequestLocks, Nodes, Launchers, Zuul, Semaphores, Poolsim, Jobs, Roles, Sessions, SweptPairs, Tick}
use Rattle.np_tree.specs.Calls.{after_begin}
use Rattle.np_tree.specs.Multi.{after_multi}
use Rattle.std.specs.Fmt.{decimal}
use Rattle.np_tree.specs.TreeState.{TreeState}
use Rattle.np_layout.specs.Lower.{Configuration, JobId, JobRecord, Op, Persistent, Registration, RequestEntry, RoleRecord, Row, SemId, SessionFacts, SessionId, Swept, job_text, new_job, new_tree, no_deeds, range_with_len, request_record_text, role_text, session_text, ten_digits_of, with_row}

-- a session of the machine is the tree's session of the next number, since the tree's first session
-- makes what no party makes (own)
abbrev pub tree_session : SessionId → ℕ
tree_session session = session.0 + 1

-- a persistent node: no session owns it (ZooKeeper Programmer's Guide)
abbrev pub persistent : Place → List ℕ → Row
persistent p bytes = record { name = place_name p; bytes = bytes; owner = None }

-- an ephemeral node without bytes: it goes with its session (ZooKeeper Programmer's Guide)
abbrev pub ephemeral : List ℕ → SessionId → Row
ephemeral name session = record { name = name; bytes = []; owner = Some (tree_session session) }

-- ## one row each

abbrev pub request_row : RequestEntry → Row
request_row e = persistent (Request e.id) (request_record_text e.kept)

abbrev pub request_lock_row : RequestEntry → Row
request_lock_row e = persistent (RequestLock e.id) []

-- a wait in the queue of a lock (ZooKeeper Recipes, Locks: ephemeral and sequential under `lock-`)
abbrev pub wait_row : ℕ → SessionId → Row
wait_row number session = ephemeral (codes "lock-" ++ ten_digits_of number) session

-- a launcher's registration for its pool (Nodepool: ephemeral)
abbrev pub launcher_row : Registration → Row
launcher_row r = ephemeral (place_name (Launcher r.pool)) r.session

abbrev pub semaphore_row : ℕ → Row
semaphore_row at = persistent (Semaphore (record { 0 = at })) []

abbrev pub handle_row : SemId → JobId → Row
handle_row x j = persistent (Handle x j) []

abbrev pub job_row : ℕ → JobRecord → Row
job_row at kept = persistent (Job (record { 0 = at })) (job_text kept)

abbrev pub launcher_role_row : ℕ → RoleRecord → Row
launcher_role_row at kept = persistent (LauncherRole (record { 0 = at })) (role_text kept)

abbrev pub janitor_role_row : ℕ → RoleRecord → Row
janitor_role_row at kept = persistent (JanitorRole (record { 0 = at })) (role_text kept)

abbrev pub requester_role_row : ℕ → RoleRecord → Row
requester_role_row at kept = persistent (RequesterRole (record { 0 = at })) (role_text kept)

abbrev pub session_row : ℕ → SessionFacts → Row
session_row number facts = persistent (Session (record { 0 = number })) (session_text (record { mute = facts.mute; role = facts.role }))

abbrev pub swept_row : Swept → Row
swept_row pair = persistent (SweptPlace pair.node pair.server) []

-- ## the rows of a directory

-- the places of a list
abbrev pub places : {A : Type 0} → List A → List ℕ
places list = range_with_len 0 (length list)

-- the rows of a list, the first of which has this number
abbrev pub rows_from : {A : Type 0} → (ℕ → A → Row) → ℕ → List A → List Row
rows_from row number [] = []
rows_from row number (a ∷ list) = row number a ∷ rows_from row (number + 1) list

-- the rows in byte order of their names: each is put at its place among those before it
abbrev pub by_name : List Row → List Row
by_name rows = fold (λ sorted row. with_row row sorted) [] rows

-- the tree before the first event: one call makes all that is there from the start

abbrev pub make : List ℕ → Place → Op
make bytes p = Op.Create (path_of p) bytes Persistent

-- the directories, each after the one that it is in
abbrev pub first_directories : List Place
first_directories = Nodepool ∷ Launchers ∷ Nodes ∷ Requests ∷ RequestLocks ∷ Poolsim ∷ Jobs ∷ Roles ∷ Sessions ∷ SweptPairs ∷ Zuul ∷ Semaphores ∷ []

-- one node for each member of a list, by its place there
abbrev pub make_each : {A : Type 0} → List ℕ → (ℕ → Place) → List A → List Op
make_each bytes place list = map (λ at. make bytes (place at)) (places list)

-- the directories, a semaphore for each that the configuration has, a new record for each job and each
-- role, and the tick
abbrev pub first_parts : Configuration → List Op
first_parts c =
    map (make []) first_directories
    ++ make_each [] (λ at. Semaphore (record { 0 = at })) c.semaphores
    ++ make_each (job_text new_job) (λ at. Job (record { 0 = at })) c.jobs
    ++ make_each (role_text no_deeds) (λ at. LauncherRole (record { 0 = at })) c.pools
    ++ make_each (role_text no_deeds) (λ at. JanitorRole (record { 0 = at })) c.pools
    ++ make_each (role_text no_deeds) (λ at. RequesterRole (record { 0 = at })) c.requesters
    ++ make (decimal 0) Tick ∷ []

-- the tree's first session makes them
abbrev pub first_tree : Configuration → TreeState
first_tree c = after_multi (after_begin new_tree) 1 (first_parts c)
