-- the record of one member of a table is set, and the tree lays out the changed state
use Rattle.np_layout.proofs.Prelude.{AllByRecursion, AllZip, AreLive, AreRequestLocks, Bool, HasGoodIds, HasNodeLock, HasQueue, IsGood, IsNodeRow, IsWhole, JanitorRole, Job, JobId, JobRecord, Jobs, JobsLayOut, Launcher, LauncherRole, LaysOut, List, Node, NodeEntry, NodeId, NodeRecord, Nodes, None, Option, Place, PoolId, Poolsim, Request, RequestEntry, RequestId, RequestLock, RequestRecord, RequesterId, RequesterRole, Requests, Role, RoleRecord, Roles, RolesLayOut, Row, Semaphore, Session, SessionFacts, SessionId, Sessions, SetLaysOut, Some, SpellsNode, State, Tick, TicksLayOut, TreeState, [], above, after_part, all-change_first, all-weaker, ap, arith, by_name, change_at, change_at-set, change_first, change_role, change_session, cond, decimal, eqb-false, false, from-map_some, inr, is_in, is_named, janitor_role_row, job_row, job_text, launcher_role_row, length, length-change_at, list_any, list_any-append, map, map-append, muted, node_entry, node_in, option_map, or_true, persistent, place_name, range_with_len, refl, request_entry, request_in, request_lock_row, request_record_text, request_row, requester_role_row, role_text, row_with, rows_from, session_of, session_text, set, slice_get, slice_get_within, some_injective, subst, suc, sym, true, under, zero, ℕ, ◌++◌, ◌+◌, ◌-◌, ◌<◌, ◌==◌, ◌^◌, ◌||◌, ◌∙◌, ◌∷◌, ◌≡◌, ◌≤◌}
use Rattle.np_layout.proofs.Rows.{Tells, any-by_name, any-mapped, any-told, by_name-each, found-any, map-change_first, mapped-zip, put-name, put_bytes, rows_from-any, rows_from-change, rows_from-others, tells-mapped, zip-change_found, zip-mapped}
use Rattle.np_layout.proofs.Steps.{named-here, named-other, SetsRow, set-goes, sets-row}
use Rattle.np_layout.proofs.Elsewhere.{Says, Table, all-tables, each-table, is_touched, of_frame, of_jobs, of_live, of_node_locks, of_nodes, of_request_locks, of_requests, of_roles, of_sessions, table-stays, tick-stays}
use Rattle.np_layout.proofs.Deletes.{is_node_it, is_request_it, lock-names, node-good, node-tells, request-good}
pub use Rattle.np_layout.proofs.Deletes.{node-named as named-by, request-named as request-named-by}

-- # the rows of a list when the record of one member changes

-- the members' places are good, in one directory, and have numbers from the first one on
pub record IsTable {A : Type 0} (place : ℕ → Place) (number : Place → ℕ) (dir : Place) (first : ℕ) (list : List A) : Type 0 where
  pub good : (n : ℕ) → n < first + length list → IsGood (place n)
  pub over : (n : ℕ) → above (place n) ≡ Some dir
  pub numbers : (n : ℕ) → number (place n) ≡ n

-- the places of the records of jobs and of roles, by their numbers
abbrev pub job_place : ℕ → Place
job_place n = Job (record { 0 = n })

abbrev pub launcher_place : ℕ → Place
launcher_place n = LauncherRole (record { 0 = n })

abbrev pub janitor_place : ℕ → Place
janitor_place n = JanitorRole (record { 0 = n })

abbrev pub requester_place : ℕ → Place
requester_place n = RequesterRole (record { 0 = n })

-- the number of such a place, or of a semaphore's
abbrev pub place_number : Place → ℕ
place_number (Semaphore x) = x.0
place_number (Job j) = j.0
place_number (LauncherRole p) = p.0
place_number (JanitorRole p) = p.0
place_number (RequesterRole q) = q.0
place_number other = 0

-- the records of jobs are a table, and so are those of each kind of role
pub job-table : {A : Type 0} (list : List A) → length list ≤ 2 ^ 32 → IsTable job_place place_number Jobs 0 list
job-table list few = record { good = λ n low. omega arith; over = λ n. refl; numbers = λ n. refl }

pub launcher-table : {A : Type 0} (list : List A) → length list ≤ 2 ^ 16 → IsTable launcher_place place_number Roles 0 list
launcher-table list few = record { good = λ n low. omega arith; over = λ n. refl; numbers = λ n. refl }

pub janitor-table : {A : Type 0} (list : List A) → length list ≤ 2 ^ 16 → IsTable janitor_place place_number Roles 0 list
janitor-table list few = record { good = λ n low. omega arith; over = λ n. refl; numbers = λ n. refl }

pub requester-table : {A : Type 0} (list : List A) → length list ≤ 2 ^ 16 → IsTable requester_place place_number Roles 0 list
requester-table list few = record { good = λ n low. omega arith; over = λ n. refl; numbers = λ n. refl }

-- what is among the rows of one table is among those of several
pub any-first : (test : Row → Bool) (a b : List Row) → list_any test a ≡ true → list_any test (a ++ b) ≡ true
any-first test a b is = list_any-append test a b ∙ ap (λ (x : Bool). x || list_any test b) is

pub any-last : (test : Row → Bool) (a b : List Row) → list_any test b ≡ true → list_any test (a ++ b) ≡ true
any-last test a b is = list_any-append test a b ∙ ap (λ (x : Bool). list_any test a || x) is ∙ or_true (list_any test a)

module _ {A : Type 0} (place : ℕ → Place) (number : Place → ℕ) (dir : Place) (first : ℕ) (list : List A) (is : IsTable place number dir first list) (text : A → List ℕ) where
  abbrev row_of : ℕ → A → Row
  row_of n a = persistent (place n) (text a)

  -- a place of another kind is none of theirs
  pub table-others : (p : Place) (bytes : List ℕ) → IsGood p → above p ≡ Some dir → ((n : ℕ) → place n ≡ p → ⊥) → map (put_bytes (place_name p) bytes) (rows_from row_of first list) ≡ rows_from row_of first list
  table-others p bytes good over apart =
      rows_from-others row_of (place_name p) bytes (first + length list) (first + length list)
      (λ n a low other. named-other p (place n) good (is.good n low) (is.over n ∙ sym over) (apart n)) list first (omega arith) (inr (omega arith))

  module _ (at k : ℕ) (old : A) (same : first + at ≡ k) (there : slice_get list at ≡ Some old) where
    -- the place of a member is good
    pub table-good : IsGood (place k)
    table-good = let low = slice_get_within list at old there in is.good k (omega arith)

    -- its row is there
    pub table-any : list_any (is_named (place_name (place k))) (rows_from row_of first list) ≡ true
    table-any = rows_from-any row_of (is_named (place_name (place k))) list first at k old same there (named-here (place k))

    -- its row alone changes
    pub table-change : (change : A → A) → map (put_bytes (place_name (place k)) (text (change old))) (rows_from row_of first list) ≡ rows_from row_of first (change_at at change list)
    table-change change =
        rows_from-change row_of (place_name (place k)) (text (change old)) (first + length list) k
        (λ n a low other. named-other (place k) (place n) table-good (is.good n low) (is.over n ∙ sym (is.over k)) (λ equal. other (sym (is.numbers n) ∙ ap number equal ∙ is.numbers k)))
        change list first at old (omega arith) same there
        (ap (λ (b : Bool). cond b (row_with (text (change old)) (row_of k old)) (row_of k old)) (named-here (place k)))

-- # a set of one row's bytes

-- a set at a good place whose row is there lays out a state, if its tables say so where those of other directories stay
sets-lay-out : (s later : State) (t : TreeState) (dir p : Place) (bytes : List ℕ) → IsWhole t.nodes → HasGoodIds s → LaysOut s t → IsGood p → above p ≡ Some dir → list_any (is_named (place_name p)) (under dir t) ≡ true →
    ((u : TreeState) → SetsRow dir p bytes t u → ((k : Table) → is_touched (dir ∷ []) k ≡ false → Says s u k) → (k : Table) → Says later u k) → SetLaysOut later t p bytes
sets-lay-out s later t dir p bytes whole good lays p_good over any says = record {
  lays = λ w.
      let sets : SetsRow dir p bytes t (after_part t w (set bytes p)) = sets-row t w dir p bytes p_good over whole in
      all-tables _ _ (says _ sets (λ k none. table-stays s (dir ∷ []) t _ good sets.stays sets.live sets.begun k none (each-table s t lays k)));
  goes = set-goes t dir p bytes p_good over whole any;
}

-- # a set of a job's record

module _ (s : State) (t : TreeState) (j : JobId) (change : JobRecord → JobRecord) (old : JobRecord) (whole : IsWhole t.nodes) (good : HasGoodIds s) (lays : LaysOut s t) (there : slice_get s.jobs j.0 ≡ Some old) where
  abbrev job_bytes : List ℕ
  job_bytes = job_text (change old)

  job-first : 0 + j.0 ≡ j.0
  job-first = omega arith

  job-good : IsGood (Job j)
  job-good = table-good job_place place_number Jobs 0 s.jobs (job-table s.jobs good.jobs) job_text j.0 j.0 old job-first there

  -- a set of a job's record lays out the state with that record
  pub job_changes-lay-out : SetLaysOut (record s { jobs = change_at j.0 change s.jobs }) t (Job j) job_bytes
  job_changes-lay-out = sets-lay-out s _ t Jobs (Job j) job_bytes whole good lays job-good refl any each where
    any : list_any (is_named (place_name (Job j))) (under Jobs t) ≡ true
    any =
        ap (list_any (is_named (place_name (Job j)))) lays.jobs.rows ∙ any-by_name (is_named (place_name (Job j))) (rows_from job_row 0 s.jobs)
        ∙ table-any job_place place_number Jobs 0 s.jobs (job-table s.jobs good.jobs) job_text j.0 j.0 old job-first there

    each : (u : TreeState) → SetsRow Jobs (Job j) job_bytes t u → ((k : Table) → is_touched (Jobs ∷ []) k ≡ false → Says s u k) → (k : Table) → Says (record s { jobs = change_at j.0 change s.jobs }) u k
    each u sets stays of_jobs = record {
      rows =
          sets.each ∙ ap (λ (rows : List Row). map (put_bytes (place_name (Job j)) job_bytes) rows) lays.jobs.rows
          ∙ by_name-each (put_bytes (place_name (Job j)) job_bytes) (put-name (place_name (Job j)) job_bytes) (rows_from job_row 0 s.jobs)
          ∙ ap by_name (table-change job_place place_number Jobs 0 s.jobs (job-table s.jobs good.jobs) job_text j.0 j.0 old job-first there change);
      leaves = sets.leaves lays.jobs.leaves;
    }
    each u sets stays k = stays k refl

-- so does the set of another record
pub jobs-lay-out : JobsLayOut
jobs-lay-out s t j old kept whole good lays there =
    subst (λ (jobs : List JobRecord). SetLaysOut (record s { jobs = jobs }) t (Job j) (job_text kept)) (change_at-set j.0 (λ _. kept) s.jobs kept (slice_get_within s.jobs j.0 old there))
    (job_changes-lay-out s t j (λ _. kept) old whole good lays there)

-- # a set of the record of a role

-- ## three tables in one directory

-- the rows of all, each table after the one before
abbrev role_rows : List RoleRecord → List RoleRecord → List RoleRecord → List Row
role_rows launchers janitors requesters = rows_from launcher_role_row 0 launchers ++ rows_from janitor_role_row 0 janitors ++ rows_from requester_role_row 0 requesters

-- if a row is there, and the rows of each table change to those of other records, the set lays those out
role-set : (s : State) (t : TreeState) → IsWhole t.nodes → HasGoodIds s → LaysOut s t → (p : Place) (bytes : List ℕ) (launchers janitors requesters : List RoleRecord) → IsGood p → above p ≡ Some Roles →
    map (put_bytes (place_name p) bytes) (rows_from launcher_role_row 0 s.launchers) ≡ rows_from launcher_role_row 0 launchers → map (put_bytes (place_name p) bytes) (rows_from janitor_role_row 0 s.janitors) ≡ rows_from janitor_role_row 0 janitors →
    map (put_bytes (place_name p) bytes) (rows_from requester_role_row 0 s.requesters) ≡ rows_from requester_role_row 0 requesters → list_any (is_named (place_name p)) (role_rows s.launchers s.janitors s.requesters) ≡ true →
    SetLaysOut (record s { launchers = launchers; janitors = janitors; requesters = requesters }) t p bytes
role-set s t whole good lays p bytes launchers janitors requesters p_good over of_launchers of_janitors of_requesters any =
    sets-lay-out s _ t Roles p bytes whole good lays p_good over
    (ap (list_any (is_named (place_name p))) lays.roles.rows ∙ any-by_name (is_named (place_name p)) (role_rows s.launchers s.janitors s.requesters) ∙ any) each where
      rows : map (put_bytes (place_name p) bytes) (role_rows s.launchers s.janitors s.requesters) ≡ role_rows launchers janitors requesters
      rows = simp map-append (λ i. of_launchers i ++ of_janitors i ++ of_requesters i)

      each : (u : TreeState) → SetsRow Roles p bytes t u → ((k : Table) → is_touched (Roles ∷ []) k ≡ false → Says s u k) → (k : Table) → Says (record s { launchers = launchers; janitors = janitors; requesters = requesters }) u k
      each u sets stays of_roles = record {
        rows =
            sets.each ∙ ap (λ (list : List Row). map (put_bytes (place_name p) bytes) list) lays.roles.rows
            ∙ by_name-each (put_bytes (place_name p) bytes) (put-name (place_name p) bytes) (role_rows s.launchers s.janitors s.requesters) ∙ ap by_name rows;
        leaves = sets.leaves lays.roles.leaves;
      }
      each u sets stays k = stays k refl

-- a set of the record of a role lays out the state with that record
pub roles-lay-out : RolesLayOut
roles-lay-out s t (Role.Launcher p) place change old whole good lays at there =
    let bytes : List ℕ = role_text (change old) in
    let named : Row → Bool = is_named (place_name (LauncherRole p)) in
    let p_good = table-good launcher_place place_number Roles 0 s.launchers (launcher-table s.launchers good.launchers) role_text p.0 p.0 old (omega arith) there in
    subst (λ (q : Place). SetLaysOut (change_role change (Role.Launcher p) s) t q bytes) (some_injective (LauncherRole p) place at)
    (role-set s t whole good lays (LauncherRole p) bytes (change_at p.0 change s.launchers) s.janitors s.requesters p_good refl
    (table-change launcher_place place_number Roles 0 s.launchers (launcher-table s.launchers good.launchers) role_text p.0 p.0 old (omega arith) there change)
    (table-others janitor_place place_number Roles 0 s.janitors (janitor-table s.janitors good.janitors) role_text (LauncherRole p) bytes p_good refl (λ n same. cc))
    (table-others requester_place place_number Roles 0 s.requesters (requester-table s.requesters good.requesters) role_text (LauncherRole p) bytes p_good refl (λ n same. cc))
    (any-first named (rows_from launcher_role_row 0 s.launchers ++ rows_from janitor_role_row 0 s.janitors) (rows_from requester_role_row 0 s.requesters) (any-first named (rows_from launcher_role_row 0 s.launchers) (rows_from janitor_role_row 0 s.janitors) (table-any launcher_place place_number Roles 0 s.launchers (launcher-table s.launchers good.launchers) role_text p.0 p.0 old (omega arith) there))))
roles-lay-out s t (Role.Janitor p) place change old whole good lays at there =
    let bytes : List ℕ = role_text (change old) in
    let named : Row → Bool = is_named (place_name (JanitorRole p)) in
    let p_good = table-good janitor_place place_number Roles 0 s.janitors (janitor-table s.janitors good.janitors) role_text p.0 p.0 old (omega arith) there in
    subst (λ (q : Place). SetLaysOut (change_role change (Role.Janitor p) s) t q bytes) (some_injective (JanitorRole p) place at)
    (role-set s t whole good lays (JanitorRole p) bytes s.launchers (change_at p.0 change s.janitors) s.requesters p_good refl
    (table-others launcher_place place_number Roles 0 s.launchers (launcher-table s.launchers good.launchers) role_text (JanitorRole p) bytes p_good refl (λ n same. cc))
    (table-change janitor_place place_number Roles 0 s.janitors (janitor-table s.janitors good.janitors) role_text p.0 p.0 old (omega arith) there change)
    (table-others requester_place place_number Roles 0 s.requesters (requester-table s.requesters good.requesters) role_text (JanitorRole p) bytes p_good refl (λ n same. cc))
    (any-first named (rows_from launcher_role_row 0 s.launchers ++ rows_from janitor_role_row 0 s.janitors) (rows_from requester_role_row 0 s.requesters) (any-last named (rows_from launcher_role_row 0 s.launchers) (rows_from janitor_role_row 0 s.janitors) (table-any janitor_place place_number Roles 0 s.janitors (janitor-table s.janitors good.janitors) role_text p.0 p.0 old (omega arith) there))))
roles-lay-out s t (Role.Requester p) place change old whole good lays at there =
    let bytes : List ℕ = role_text (change old) in
    let named : Row → Bool = is_named (place_name (RequesterRole p)) in
    let p_good = table-good requester_place place_number Roles 0 s.requesters (requester-table s.requesters good.requesters) role_text p.0 p.0 old (omega arith) there in
    subst (λ (q : Place). SetLaysOut (change_role change (Role.Requester p) s) t q bytes) (some_injective (RequesterRole p) place at)
    (role-set s t whole good lays (RequesterRole p) bytes s.launchers s.janitors (change_at p.0 change s.requesters) p_good refl
    (table-others launcher_place place_number Roles 0 s.launchers (launcher-table s.launchers good.launchers) role_text (RequesterRole p) bytes p_good refl (λ n same. cc))
    (table-others janitor_place place_number Roles 0 s.janitors (janitor-table s.janitors good.janitors) role_text (RequesterRole p) bytes p_good refl (λ n same. cc))
    (table-change requester_place place_number Roles 0 s.requesters (requester-table s.requesters good.requesters) role_text p.0 p.0 old (omega arith) there change)
    (any-last named (rows_from launcher_role_row 0 s.launchers ++ rows_from janitor_role_row 0 s.janitors) (rows_from requester_role_row 0 s.requesters) (table-any requester_place place_number Roles 0 s.requesters (requester-table s.requesters good.requesters) role_text p.0 p.0 old (omega arith) there)))
roles-lay-out s t Role.Reaper place change old whole good lays at there = absurd cc

-- # a set of a session's record

-- the place of each session, and its number
abbrev session_at : ℕ → Place
session_at n = Session (record { 0 = n })

abbrev session_number : Place → ℕ
session_number (Session session) = session.0
session_number other = 0

abbrev text : SessionFacts → List ℕ
text facts = session_text (record { mute = facts.mute; role = facts.role })

-- a session that goes mute stays live
mute-live : (at : ℕ) (sessions : List SessionFacts) → map (λ (f : SessionFacts). f.live) (change_at at muted sessions) ≡ map (λ f. f.live) sessions
mute-live at [] = refl
mute-live zero (f ∷ sessions) = refl
mute-live (suc at) (f ∷ sessions) = ap (λ (flags : List Bool). f.live ∷ flags) (mute-live at sessions)

mutes-live : (at : ℕ) (sessions : List SessionFacts) (t : TreeState) → AreLive sessions t → AreLive (change_at at muted sessions) t
mutes-live at sessions t are =
    let same = length-change_at at muted sessions in
    record {
      begun = are.begun ∙ ap (λ (n : ℕ). n + 1) (sym same);
      first = are.first;
      each = ap (λ (n : ℕ). map (is_in t.live) (range_with_len 2 n)) same ∙ are.each ∙ sym (mute-live at sessions);
    }

-- sessions count from one
session-by : (o : Option SessionFacts) (facts : SessionFacts) (b : Bool) → cond b None o ≡ Some facts → (b ≡ false) × (o ≡ Some facts)
session-by o facts b is = grind arith

module _ (s : State) (t : TreeState) (session : SessionId) (facts : SessionFacts) (whole : IsWhole t.nodes) (good : HasGoodIds s) (lays : LaysOut s t) (is : session_of session s ≡ Some facts) where
  abbrev at : ℕ
  at = session.0 - 1

  abbrev session_bytes : List ℕ
  session_bytes = session_text (record { mute = true; role = facts.role })

  -- sessions are a table
  is-sessions : IsTable session_at session_number Sessions 1 s.sessions
  is-sessions = record { good = λ n low. let few = good.sessions in omega arith; over = λ n. refl; numbers = λ n. refl }

  there : slice_get s.sessions (session.0 - 1) ≡ Some facts
  there = (session-by (slice_get s.sessions (session.0 - 1)) facts (session.0 == 0) is).1

  first : 1 + (session.0 - 1) ≡ session.0
  first = let not_zero = eqb-false session.0 0 (session-by (slice_get s.sessions (session.0 - 1)) facts (session.0 == 0) is).0 in omega arith

  -- a set of a session's record to mute lays out the state in which it is
  pub mutes-lay-out : SetLaysOut (record s { sessions = change_session session muted s.sessions }) t (Session session) session_bytes
  mutes-lay-out = sets-lay-out s _ t Sessions (Session session) session_bytes whole good lays (table-good session_at session_number Sessions 1 s.sessions is-sessions text at session.0 facts first there) refl any each where
    any : list_any (is_named (place_name (Session session))) (under Sessions t) ≡ true
    any = ap (list_any (is_named (place_name (Session session)))) lays.sessions.rows ∙ table-any session_at session_number Sessions 1 s.sessions is-sessions text at session.0 facts first there

    each : (u : TreeState) → SetsRow Sessions (Session session) session_bytes t u → ((k : Table) → is_touched (Sessions ∷ []) k ≡ false → Says s u k) → (k : Table) → Says (record s { sessions = change_session session muted s.sessions }) u k
    each u sets stays of_sessions = record {
      rows =
          sets.each ∙ ap (λ (rows : List Row). map (put_bytes (place_name (Session session)) session_bytes) rows) lays.sessions.rows
          ∙ table-change session_at session_number Sessions 1 s.sessions is-sessions text at session.0 facts first there muted;
      leaves = sets.leaves lays.sessions.leaves;
    }
    each u sets stays of_live = mutes-live at s.sessions u (stays of_live refl)
    each u sets stays k = stays k refl

-- # a set of the tick

-- a set of the tick lays out the state with that tick: its row alone changes
pub ticks-lay-out : TicksLayOut
ticks-lay-out s t tick whole good lays = sets-lay-out s _ t Poolsim Tick (decimal tick) whole good lays tt refl (ap (list_any (is_named (place_name Tick))) lays.frame.poolsim) each where
  each : (u : TreeState) → SetsRow Poolsim Tick (decimal tick) t u → ((k : Table) → is_touched (Poolsim ∷ []) k ≡ false → Says s u k) → (k : Table) → Says (record s { tick = tick }) u k
  each u sets stays of_frame = tick-stays (Poolsim ∷ []) t u sets.stays s.tick tick refl refl refl refl (sets.each ∙ ap (λ (rows : List Row). map (put_bytes (place_name Tick) (decimal tick)) rows) lays.frame.poolsim) lays.frame
  each u sets stays k = stays k refl

-- # a set of a node's record

module _ (s : State) (t : TreeState) (n : NodeId) (change : NodeRecord → NodeRecord) (old : NodeRecord) (bytes : List ℕ) (whole : IsWhole t.nodes) (good : HasGoodIds s) (lays : LaysOut s t) (there : node_in n s.nodes ≡ Some old) (spells : SpellsNode (change old) bytes) where
  abbrev with_change : NodeEntry → NodeEntry
  with_change e = record e { kept = change e.kept }

  abbrev changed : List NodeEntry
  changed = change_first (is_node_it n) with_change s.nodes

  entry : (e : NodeEntry) × (node_entry n s.nodes ≡ Some e) × (e.kept ≡ old)
  entry = from-map_some (λ (e : NodeEntry). e.kept) (node_entry n s.nodes) old there

  n-good : IsGood (Node n)
  n-good = node-good n s.nodes entry.0 good.nodes entry.1

  tells : Tells (place_name (Node n)) (is_node_it n) (under Nodes t) s.nodes
  tells = node-tells n (under Nodes t) s.nodes n-good good.nodes lays.nodes.rows

  -- a set of a node's record lays out the state with that record, in either spelling of it
  pub nodes-lay-out : SetLaysOut (record s { nodes = changed }) t (Node n) bytes
  nodes-lay-out =
      sets-lay-out s _ t Nodes (Node n) bytes whole good lays n-good refl
      (any-told (place_name (Node n)) (is_node_it n) (under Nodes t) s.nodes tells ∙ found-any (is_node_it n) entry.0 s.nodes entry.1) each where
        each : (u : TreeState) → SetsRow Nodes (Node n) bytes t u → ((k : Table) → is_touched (Nodes ∷ []) k ≡ false → Says s u k) → (k : Table) → Says (record s { nodes = changed }) u k
        each u sets stays of_nodes = record {
          rows = subst (λ (rows : List Row). AllZip IsNodeRow rows changed) (sym sets.first)
              (zip-change_found (is_node_it n) with_change (row_with bytes) (is_named (place_name (Node n))) IsNodeRow (under Nodes t) s.nodes tells lays.nodes.rows
              (λ x found row is.
              let kept : Some x.kept ≡ Some old = sym (ap (option_map (λ (e : NodeEntry). e.kept)) found) ∙ there in
              let same : old ≡ x.kept = cc in
              record { is = ap (row_with bytes) is.is; spells = subst (λ (k : NodeRecord). SpellsNode (change k) bytes) same spells }));
          gives = sets.counter ∙ lays.nodes.gives;
        }
        each u sets stays of_node_locks = all-change_first (HasNodeLock u) (is_node_it n) with_change s.nodes (λ e has. record { rows = has.rows; queue = has.queue }) (stays of_node_locks refl)
        each u sets stays k = stays k refl

-- # a set of a request's record

module _ (s : State) (t : TreeState) (r : RequestId) (change : RequestRecord → RequestRecord) (old : RequestRecord) (whole : IsWhole t.nodes) (good : HasGoodIds s) (lays : LaysOut s t) (there : request_in r s.requests ≡ Some old) where
  abbrev request_with_change : RequestEntry → RequestEntry
  request_with_change e = record e { kept = change e.kept }

  abbrev request_changed : List RequestEntry
  request_changed = change_first (is_request_it r) request_with_change s.requests

  abbrev bytes : List ℕ
  bytes = request_record_text (change old)

  abbrev named : Row → Bool
  named = is_named (place_name (Request r))

  request-entry : (e : RequestEntry) × (request_entry r s.requests ≡ Some e) × (e.kept ≡ old)
  request-entry = from-map_some (λ (e : RequestEntry). e.kept) (request_entry r s.requests) old there

  r-good : IsGood (Request r)
  r-good = request-good r s.requests request-entry.0 good.requests request-entry.1

  names : AllByRecursion (λ x. named (request_row x) ≡ is_request_it r x) s.requests
  names = lock-names r s.requests r-good good.requests

  -- its row changes with it
  rows-change : change_first named (row_with bytes) (map request_row s.requests) ≡ map request_row request_changed
  rows-change = mapped-zip request_row (change_first named (row_with bytes) (map request_row s.requests)) request_changed
      (zip-change_found (is_request_it r) request_with_change (row_with bytes) named (λ row e. row ≡ request_row e) (map request_row s.requests) s.requests (tells-mapped (place_name (Request r)) (is_request_it r) request_row s.requests names) (zip-mapped request_row s.requests)
      (λ x found row is.
      let kept : Some x.kept ≡ Some old = sym (ap (option_map (λ (e : RequestEntry). e.kept)) found) ∙ there in
      let same : x.kept ≡ old = cc in
      ap (row_with bytes) is ∙ ap (λ (k : RequestRecord). record (request_row x) { bytes = request_record_text (change k) }) (sym same)))

  -- a set of a request's record lays out the state with that record
  pub requests-lay-out : SetLaysOut (record s { requests = request_changed }) t (Request r) bytes
  requests-lay-out =
      sets-lay-out s _ t Requests (Request r) bytes whole good lays r-good refl
      (ap (list_any named) lays.requests.rows ∙ any-mapped request_row named (is_request_it r) s.requests names ∙ found-any (is_request_it r) request-entry.0 s.requests request-entry.1) each where
        each : (u : TreeState) → SetsRow Requests (Request r) bytes t u → ((k : Table) → is_touched (Requests ∷ []) k ≡ false → Says s u k) → (k : Table) → Says (record s { requests = request_changed }) u k
        each u sets stays of_requests = record { rows = sets.first ∙ ap (change_first named (row_with bytes)) lays.requests.rows ∙ rows-change; leaves = sets.leaves lays.requests.leaves; gives = sets.counter ∙ lays.requests.gives }
        each u sets stays of_request_locks =
            let locks : AreRequestLocks s.requests u = stays of_request_locks refl in
            record {
              rows = locks.rows ∙ sym (map-change_first (is_request_it r) request_with_change request_lock_row (λ e. refl) s.requests);
              queues = all-change_first (λ (e : RequestEntry). HasQueue (RequestLock e.id) e.queue u) (is_request_it r) request_with_change s.requests (λ e is. is) locks.queues;
            }
        each u sets stays k = stays k refl
