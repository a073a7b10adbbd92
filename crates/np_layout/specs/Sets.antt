-- what one set of a node's bytes does: if a tree lays a state out, the set of the record of a place to
-- another record's text lays out the state with that record, and the set is accepted
use Rattle.std.specs.Prelude.{◌≡◌, ◌==◌, ◌<◌, ◌≤◌, ◌^◌, ℕ, true, List, length, slice_get, Some, IsOk}
use Rattle.std.specs.Fmt.{decimal}
use Rattle.np_machine.specs.Prelude.{node_in}
use Rattle.np_layout.specs.Place.{IsGood, path_of}
use Rattle.np_layout.specs.Roles.{place_of_role}
use Rattle.np_layout.specs.declared.place.Place.{Place}
use Rattle.np_layout.specs.declared.place.Place.TheVariants.{Request, Node, Launcher, Job, Session, Swept, Tick}
use Rattle.np_layout.specs.Layout.{LaysOut}
use Rattle.np_layout.specs.Lower.{AllByRecursion, Any, HasRoomFor, IsWhole, JobId, JobRecord, NodeId, NodeRecord, Op, RequestId, RequestRecord, Role, RoleRecord, SessionFacts, SessionId, SpellsNode, State, TreeState, after_part, change_at, change_first, change_role, change_session, is_in, job_text, muted, part_answer, put_job, request_in, request_record_text, role_in, role_text, same_request, session_of, session_text}

-- each record, lock, registration, handle and swept pair of the state has a place whose ids have a text
pub record HasGoodIds (s : State) : Type 0 where
  pub sessions : length s.sessions < 2 ^ 32
  pub requests : AllByRecursion (λ e. IsGood (Request e.id)) s.requests
  pub nodes : AllByRecursion (λ e. IsGood (Node e.id)) s.nodes
  pub registrations : AllByRecursion (λ g. IsGood (Launcher g.pool)) s.registrations
  pub semaphores : length s.handles ≤ 2 ^ 16
  pub handles : AllByRecursion (λ jobs. AllByRecursion (λ j. IsGood (Job j)) jobs) s.handles
  pub jobs : length s.jobs ≤ 2 ^ 32
  pub launchers : length s.launchers ≤ 2 ^ 16
  pub janitors : length s.janitors ≤ 2 ^ 16
  pub requesters : length s.requesters ≤ 2 ^ 16
  pub swept : AllByRecursion (λ pair. IsGood (Swept pair.node pair.server)) s.swept

-- the bytes of a place are set, whatever its version
abbrev pub set : List ℕ → Place → Op
set bytes p = Op.Set (path_of p) bytes Any

-- the set lays out the state, whichever session makes it; and it is accepted if the session is live,
-- the bytes fit a node and there is room for one part more
pub record SetLaysOut (s : State) (t : TreeState) (p : Place) (bytes : List ℕ) : Type 0 where
  pub lays : (w : ℕ) → LaysOut s (after_part t w (set bytes p))
  pub goes : (w : ℕ) → is_in t.live w ≡ true → length bytes ≤ 65_536 → HasRoomFor 1 t → IsOk (part_answer t w (set bytes p))

-- ## the laws

-- the tick is another
abbrev pub TicksLayOut : Type 0
TicksLayOut = (s : State) (t : TreeState) (tick : ℕ) → IsWhole t.nodes → HasGoodIds s → LaysOut s t → SetLaysOut (record s { tick = tick }) t Tick (decimal tick)

-- a job's record is another
abbrev pub JobsLayOut : Type 0
JobsLayOut = (s : State) (t : TreeState) (j : JobId) (old kept : JobRecord) → IsWhole t.nodes → HasGoodIds s → LaysOut s t → slice_get s.jobs j.0 ≡ Some old →
    SetLaysOut (record s { jobs = put_job j kept s.jobs }) t (Job j) (job_text kept)

-- a job's record is changed
abbrev pub JobChangesLayOut : Type 0
JobChangesLayOut = (s : State) (t : TreeState) (j : JobId) (change : JobRecord → JobRecord) (old : JobRecord) → IsWhole t.nodes → HasGoodIds s → LaysOut s t → slice_get s.jobs j.0 ≡ Some old →
    SetLaysOut (record s { jobs = change_at j.0 change s.jobs }) t (Job j) (job_text (change old))

-- the record of a role is changed: a launcher's, a janitor's or a requester's
abbrev pub RolesLayOut : Type 0
RolesLayOut = (s : State) (t : TreeState) (role : Role) (p : Place) (change : RoleRecord → RoleRecord) (old : RoleRecord) → IsWhole t.nodes → HasGoodIds s → LaysOut s t → place_of_role role ≡ Some p → role_in role s ≡ Some old →
    SetLaysOut (change_role change role s) t p (role_text (change old))

-- a session makes no more events
abbrev pub MutesLayOut : Type 0
MutesLayOut = (s : State) (t : TreeState) (session : SessionId) (facts : SessionFacts) → IsWhole t.nodes → HasGoodIds s → LaysOut s t → session_of session s ≡ Some facts →
    SetLaysOut (record s { sessions = change_session session muted s.sessions }) t (Session session) (session_text (record { mute = true; role = facts.role }))

-- a request's record is changed
abbrev pub RequestsLayOut : Type 0
RequestsLayOut = (s : State) (t : TreeState) (r : RequestId) (change : RequestRecord → RequestRecord) (old : RequestRecord) → IsWhole t.nodes → HasGoodIds s → LaysOut s t → request_in r s.requests ≡ Some old →
    SetLaysOut (record s { requests = change_first (λ e. same_request e.id r) (λ e. record e { kept = change e.kept }) s.requests }) t (Request r) (request_record_text (change old))

-- a node's record is changed, whichever way the bytes spell the new one: those before may be spelled
-- as before there were tenants
abbrev pub NodesLayOut : Type 0
NodesLayOut = (s : State) (t : TreeState) (n : NodeId) (change : NodeRecord → NodeRecord) (old : NodeRecord) (bytes : List ℕ) → IsWhole t.nodes → HasGoodIds s → LaysOut s t → node_in n s.nodes ≡ Some old → SpellsNode (change old) bytes →
    SetLaysOut (record s { nodes = change_first (λ e. e.id.0 == n.0) (λ e. record e { kept = change e.kept }) s.nodes }) t (Node n) bytes
