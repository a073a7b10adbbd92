-- what the parts for each table need follows from what the changes of an event need, and a call takes each part
use Rattle.np_steps.proofs.Prelude.{AllByRecursion, Any, Bool, Changes, Configuration, Deed, Growth, Handle, HandlesChange, HasSpellings, IsJob, IsNode, IsReady, IsRequest, IsRole, JobId, JobRecord, JobsChange, LauncherOf, List, Maker, NodeEntry, NodeId, NodeLock, NodesChange, NodesPremise, None, Op, Option, Place, RequestEntry, RequestLock, RequestsChange, RequestsPremise, Role, RoleRecord, Row, SemId, SessionId, SessionsChange, Some, State, TreeState, acquire_parts, ap, arith, below, by_session, change_at, change_first, change_janitor, change_launcher, change_parts, change_requester, cond, deed_parts, delete, delete_parts, each_changed, edit-leaves, false, find, freed_from, freeing-grows, grown, grown_parts, handles_parts, has_handle, in_call, in_use, is_numbered, is_owner, is_queued, is_swept, jobs-grown, jobs_changed, jobs_parts, join_parts, leave_parts, list_all, list_all-append, make, node_entry, node_queue, nodes_changed, nodes_left, nodes_of, nodes_parts, one_more_act, one_more_start, parts_of, path_of, place_of_role, refl, release_parts, remove-alone, request_in, request_queue, requests_changed, requests_left, requests_parts, role_in, role_parts, same-requests, same-roles, semaphores_of, session_of, session_parts, settled_parts, slice_get, struck_unless, subst, tick_parts, tree_session, true, under, wait_at, where_there, with_deed, with_deeds, with_handle, without_handle, ℕ, [], ◌&&◌, ◌++◌, ◌==◌, ◌∙◌, ◌∷◌, ◌≡◌}

-- # each part for an event is one that a call takes: what is made without a name is numbered

-- all of them are
abbrev AreNumbered : List Op → Type 0
AreNumbered parts = list_all is_numbered parts ≡ true

both : (a b : List Op) → AreNumbered a → AreNumbered b → AreNumbered (a ++ b)
both a b first rest = list_all-append is_numbered a b ∙ ap (λ (x : Bool). x && list_all is_numbered b) first ∙ rest

deletes-numbered : (dir : List ℕ) (rows : List Row) → AreNumbered (delete_parts dir rows)
deletes-numbered dir [] = refl
deletes-numbered dir (row ∷ rows) = deletes-numbered dir rows

-- ## what grows

acquire-numbered : (j : JobId) (semaphores : List SemId) (rows : List (List JobId)) → AreNumbered (acquire_parts j semaphores rows)
acquire-numbered j [] rows = refl
acquire-numbered j (x ∷ semaphores) rows = grind (arith, list_all-append, acquire-numbered j semaphores (change_at x.0 (with_handle j) rows))

grown-numbered : (c : Configuration) (maker : Option Maker) (growth : Growth) (s : State) → AreNumbered (grown_parts c maker growth s)
grown-numbered c maker growth s = grind (arith, acquire-numbered)

-- ## what may not fail

requests-numbered : (maker : Option Maker) (change : RequestsChange) (rows : List RequestEntry) (t : TreeState) → AreNumbered (requests_parts maker change rows t)
requests-numbered maker change rows t = grind (arith, list_all-append, deletes-numbered)

each-numbered : (change : NodeEntry → NodeEntry) (numbers : List NodeId) (rows : List NodeEntry) → AreNumbered (each_changed change numbers rows)
each-numbered change [] rows = refl
each-numbered change (n ∷ numbers) rows = grind (arith, list_all-append, each-numbered change numbers (change_first (λ e. e.id.0 == n.0) change rows))

nodes-numbered : (maker : Option Maker) (tick : ℕ) (old : List RequestEntry) (change : NodesChange) (rows : List NodeEntry) (t : TreeState) → AreNumbered (nodes_parts maker tick old change rows t)
nodes-numbered maker tick old change rows t = grind (arith, list_all-append, deletes-numbered, each-numbered)

jobs-numbered : (change : JobsChange) (rows : List JobRecord) → AreNumbered (jobs_parts change rows)
jobs-numbered change rows = grind arith

release-numbered : (j : JobId) (semaphores : List SemId) (rows : List (List JobId)) → AreNumbered (release_parts j semaphores rows)
release-numbered j [] rows = refl
release-numbered j (x ∷ semaphores) rows = grind (arith, list_all-append, release-numbered j semaphores (change_at x.0 (without_handle j) rows))

handles-numbered : (c : Configuration) (change : HandlesChange) (rows : List (List JobId)) → AreNumbered (handles_parts c change rows)
handles-numbered c change rows = grind (arith, release-numbered)

role-numbered : (change : RoleRecord → RoleRecord) (role : Role) (s : State) → AreNumbered (role_parts change role s)
role-numbered change role s = grind arith

deed-numbered : (maker : Option Maker) (what : Option Deed) (s : State) → AreNumbered (deed_parts maker what s)
deed-numbered maker what s = grind (arith, role-numbered)

session-numbered : (change : SessionsChange) (s : State) → AreNumbered (session_parts change s)
session-numbered change s = grind arith

tick-numbered : (ticks : Bool) (tick : ℕ) → AreNumbered (tick_parts ticks tick)
tick-numbered ticks tick = grind arith

-- all parts are
pub parts-numbered : (c : Configuration) (ch : Changes) (s : State) (t : TreeState) → list_all is_numbered (parts_of c ch s t) ≡ true
parts-numbered c ch s t =
    let p2 : List Op = requests_parts ch.maker ch.requests s.requests t ++ nodes_parts ch.maker s.tick s.requests ch.nodes s.nodes t in
    let p3 : List Op = p2 ++ jobs_parts ch.jobs s.jobs in
    let p4 : List Op = p3 ++ handles_parts c ch.handles s.handles in
    let p5 : List Op = p4 ++ deed_parts ch.maker ch.deed s in
    let p6 : List Op = p5 ++ session_parts ch.sessions s in
    let n2 = both (requests_parts ch.maker ch.requests s.requests t) (nodes_parts ch.maker s.tick s.requests ch.nodes s.nodes t) (requests-numbered ch.maker ch.requests s.requests t) (nodes-numbered ch.maker s.tick s.requests ch.nodes s.nodes t) in
    let n3 = both p2 (jobs_parts ch.jobs s.jobs) n2 (jobs-numbered ch.jobs s.jobs) in
    let n4 = both p3 (handles_parts c ch.handles s.handles) n3 (handles-numbered c ch.handles s.handles) in
    let n5 = both p4 (deed_parts ch.maker ch.deed s) n4 (deed-numbered ch.maker ch.deed s) in
    let n6 = both p5 (session_parts ch.sessions s) n5 (session-numbered ch.sessions s) in
    both (grown_parts c ch.maker ch.grows s) (settled_parts c ch s t) (grown-numbered c ch.maker ch.grows s) (both p6 (tick_parts ch.ticks s.tick) n6 (tick-numbered ch.ticks s.tick))

-- # what the parts for each table need follows from what the changes of an event need

-- no session ends in the call, so no queue is left
requests-stay : (change : SessionsChange) (rows : List RequestEntry) → requests_left (in_call change) rows ≡ rows
requests-stay change rows = grind arith

nodes-stay : (change : SessionsChange) (rows : List NodeEntry) → nodes_left (in_call change) rows ≡ rows
nodes-stay change rows = grind arith

-- ## what is written has a spelling

module _ (c : Configuration) (ch : Changes) (s : State) (ready : IsReady c ch s) where
  abbrev after_growth : State
  after_growth = grown c ch.maker ch.grows s

  nothing-grown : ch.grows ≡ Growth.Nothing → after_growth ≡ s
  nothing-grown is = ap (λ (growth : Growth). grown c ch.maker growth s) is

  abbrev AreRequests : List RequestEntry → Type 0
  AreRequests rows = AllByRecursion (λ e. IsRequest e.kept) rows

  requests-by : (change : RequestsChange) → RequestsPremise c s ch change → AreRequests (requests_changed ch.maker change after_growth.requests) → AreRequests (requests_changed ch.maker change s.requests)
  requests-by RequestsChange.Same premise later = ready.spelled.requests
  requests-by (RequestsChange.Edit r change) premise later = subst (λ (rows : List RequestEntry). AreRequests (requests_changed ch.maker (RequestsChange.Edit r change) rows)) (same-requests c ch.maker ch.grows s (edit-leaves c s ch r change premise)) later
  requests-by (RequestsChange.Remove r) premise later = subst (λ (g : State). AreRequests (requests_changed ch.maker (RequestsChange.Remove r) g.requests)) (nothing-grown (remove-alone c s ch r premise)) later
  requests-by (RequestsChange.Leave r) premise later = subst (λ (g : State). AreRequests (requests_changed ch.maker (RequestsChange.Leave r) g.requests)) (nothing-grown premise.same_size) later

  -- the requests after the change
  pub requests-spelled : AllByRecursion (λ e. IsRequest e.kept) (requests_changed ch.maker ch.requests s.requests)
  requests-spelled = requests-by ch.requests ready.premises.requests (subst AreRequests (requests-stay ch.sessions (requests_changed ch.maker ch.requests after_growth.requests)) ready.spelled_later.requests)

  abbrev AreNodes : NodesChange → State → Type 0
  AreNodes change g = AllByRecursion (λ e. IsNode e.kept) (nodes_changed ch.maker g.tick change g.nodes)

  nodes-by : (change : NodesChange) → NodesPremise c s ch change → AreNodes change after_growth → AreNodes change s
  nodes-by NodesChange.Same premise later = ready.spelled.nodes
  nodes-by (NodesChange.Put n kept) premise later = subst (AreNodes (NodesChange.Put n kept)) (nothing-grown premise.same_size) later
  nodes-by (NodesChange.Remove n) premise later = subst (AreNodes (NodesChange.Remove n)) (nothing-grown premise.same_size) later
  nodes-by (NodesChange.Leave n) premise later = subst (AreNodes (NodesChange.Leave n)) (nothing-grown premise.same_size) later
  nodes-by (NodesChange.FreeAll r) premise later = subst (AreNodes (NodesChange.FreeAll r)) (nothing-grown (freeing-grows c s ch r ch.requests ready.premises.requests premise)) later
  nodes-by (NodesChange.TakeOver numbers) premise later = subst (AreNodes (NodesChange.TakeOver numbers)) (nothing-grown premise.1.same_size) later

  -- the nodes after the change
  pub nodes-spelled : AllByRecursion (λ e. IsNode e.kept) (nodes_changed ch.maker s.tick ch.nodes s.nodes)
  nodes-spelled =
      nodes-by ch.nodes ready.premises.nodes
      (subst (AllByRecursion (λ (e : NodeEntry). IsNode e.kept)) (nodes-stay ch.sessions (nodes_changed ch.maker after_growth.tick ch.nodes after_growth.nodes)) ready.spelled_later.nodes)

  -- the jobs after the change
  pub jobs-spelled : AllByRecursion IsJob (jobs_changed ch.jobs s.jobs)
  jobs-spelled = subst (λ (rows : List JobRecord). AllByRecursion IsJob (jobs_changed ch.jobs rows)) (jobs-grown c ch.maker ch.grows s) ready.spelled_later.jobs

  -- the roles after the deed
  pub deeds-spelled : HasSpellings (with_deeds ch.maker ch.deed s)
  deeds-spelled =
      let same = same-roles c ch.maker ch.grows s in
      record {
        requests = ready.spelled.requests;
        nodes = ready.spelled.nodes;
        jobs = ready.spelled.jobs;
        launchers = subst (λ (rows : List RoleRecord). AllByRecursion IsRole (with_deed change_launcher ch.maker ch.deed rows)) same.0 ready.spelled_later.launchers;
        janitors = subst (λ (rows : List RoleRecord). AllByRecursion IsRole (with_deed change_janitor ch.maker ch.deed rows)) same.1.0 ready.spelled_later.janitors;
        requesters = subst (λ (rows : List RoleRecord). AllByRecursion IsRole (with_deed change_requester ch.maker ch.deed rows)) same.1.1 ready.spelled_later.requesters;
        sessions = ready.spelled.sessions;
      }
