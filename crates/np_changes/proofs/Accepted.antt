-- the plan of an accepted event: who makes it, what it has tested and found, and that its changes are its effect
use Rattle.np_changes.proofs.Prelude.{Ok, Option, Some, arith, found, nat_tests, ◌≡◌, Changes, Err, None, Refusal, Result, Role, SessionId, made_by, refl, same, with_found, with_given, Bool, Declined, JobRecord, List, NodeId, PoolId, Reason, Registration, RequestEdit, RequestEntry, RequestId, RequestRecord, RequestsChange, [], all_declined, ap, change_at, change_at-set, change_first, change_first-absent, change_first-nowhere, change_first-position, change_first-same, declined_with, edited, end_in, false, is_declined_by, is_last_pool, is_marked, jobs_changed, new_job, option_map, owner_of, position, position-Some, put_request, request_in, requests_changed, same_request, suc, sym, true, with_mark, zero, ℕ, ◌++◌, ◌==◌, ◌||◌, ◌∙◌, ◌∷◌, Janitor, Launcher, Requester, RequesterId, State, is_ok, janitor, launcher, maker, requester, role_of, ◌>>=◌, Configuration, Event, Growth, Job, JobId, LabelId, NodeRecord, accepted, acting, after_found, all_freed, changed, create_for, created, declined, effect, failed, fulfilled, given_back, if◌then◌else◌, is_some, judge, judge_create, judge_decline, judge_done, judge_lock_request, judge_start, judge_take_ready, next, next_label, node_in, own_job, plan, request_of_job, revise_request, revised, slice_get, took_ready, with_act, need, not, vacant, ◌&&◌, ◌>>◌, IsHeard, IsWorkedOn, Premises, is_session_of, registered, request_holder, Done, is_building, is_role, judge_open, count_of, is_pending_by, is_short, quota_short, wrong_request, Entry, is_done, replayed, reply_of, JobsStand, Maker, NodesChange, given_back_by, is_gone, is_request_end, maker_of, ◌⊎◌}
use Rattle.np_changes.specs.Plan

-- # what a test that passed has found

pub found-is : {A E : Type 0} (o : Option A) (a : A) (refusal : E) → Ok a ≡ found o refusal → o ≡ Some a
found-is x0 a refusal is = grind (arith, nat_tests)

-- # the way through a plan: what holds if nothing changes, and for each thing that is found, holds for the plan

module _ (P : Changes → Type 0) (nothing : P same) where
  pub plan-found : {A : Type 0} (o : Option A) (f : A → Changes) → ((a : A) → o ≡ Some a → P (f a)) → P (with_found o f)
  plan-found None f each = nothing
  plan-found (Some a) f each = each a refl

  pub plan-given : {A : Type 0} (o : Result A Refusal) (f : A → Changes) → ((a : A) → o ≡ Ok a → P (f a)) → P (with_given o f)
  plan-given (Ok a) f each = each a refl
  plan-given (Err why) f each = nothing

-- # an edit of the request that is found

-- the record that is found, edited, is the record that is put
pub edit-put : (r : RequestId) (edit : RequestEdit) (rows : List RequestEntry) (k : RequestRecord) → request_in r rows ≡ Some k → requests_changed None (RequestsChange.Edit r edit) rows ≡ put_request r (edited edit k) rows
edit-put r edit rows k has = grind (arith, nat_tests, change_first-same)

-- if none is found, nothing changes
pub edit-absent : (r : RequestId) (edit : RequestEdit) (rows : List RequestEntry) → request_in r rows ≡ None → requests_changed None (RequestsChange.Edit r edit) rows ≡ rows
edit-absent r edit rows none = change_first-absent (λ (e : RequestEntry). same_request e.id r) (λ e. record e { kept = edited edit e.kept }) rows (grind (arith, nat_tests))

-- two changes of one member are one change
pub change_at-twice : {X : Type 0} (i : ℕ) (f g : X → X) (xs : List X) → change_at i f (change_at i g xs) ≡ change_at i (λ x. f (g x)) xs
change_at-twice i f g [] = refl
change_at-twice zero f g (x ∷ xs) = refl
change_at-twice (suc i) f g (x ∷ xs) = ap (λ t. x ∷ t) (change_at-twice i f g xs)

-- the job at the place found is the first that has the node
end_by : (n : NodeId) (rows : List JobRecord) (o : Option ℕ) → position (is_marked n) rows ≡ o → jobs_changed (end_in (option_map (λ at. record { 0 = at }) o) n) rows ≡ change_first (is_marked n) (with_mark n) rows
end_by n rows None is = sym (change_first-nowhere (is_marked n) (with_mark n) rows is)
end_by n rows (Some i) is =
    change_at-set i (with_mark n) rows new_job ((position-Some (is_marked n) rows i new_job is).0)
    ∙ sym (change_first-position (is_marked n) (with_mark n) rows i new_job is)

pub end-first : (n : NodeId) (rows : List JobRecord) → jobs_changed (end_in (owner_of n rows) n) rows ≡ change_first (is_marked n) (with_mark n) rows
end-first n rows = end_by n rows (position (is_marked n) rows) refl

-- ## the last pool declines

declined_too : (g p : PoolId) (why : Reason) (declined : List Declined) → is_declined_by g (declined ++ record { pool = p; reason = why } ∷ []) ≡ (is_declined_by g declined || (p.0 == g.0))
declined_too g p why [] = grind arith
declined_too g p why (d ∷ declined) = grind (arith, nat_tests, declined_too g p why declined)

-- with this decline every registered pool has declined
pub last-declines : (registrations : List Registration) (request : RequestRecord) (p : PoolId) (why : Reason) → all_declined registrations (declined_with request p why) ≡ is_last_pool registrations request p
last-declines [] request p why = refl
last-declines (g ∷ registrations) request p why = rw (declined_too g.pool p why request.declined, last-declines registrations request p why) refl

-- # who makes an accepted event

-- an accepted row found what it looked for first
pub bind-ok : {A B E : Type 0} (o : Result A E) (f : A → Result B E) → is_ok (o >>= f) ≡ true → is_ok o ≡ true
bind-ok x0 f is = grind (arith, nat_tests)

pub maker-role : (s : State) (session : SessionId) (role : Role) → maker s session ≡ Ok role → role_of session s ≡ Some role
maker-role s session role is = grind (arith, nat_tests)

pub launcher-maker : (s : State) (session : SessionId) (p : PoolId) → launcher s session ≡ Ok p → maker s session ≡ Ok (Launcher p)
launcher-maker s session p is = grind (arith, nat_tests)

pub janitor-maker : (s : State) (session : SessionId) (p : PoolId) → janitor s session ≡ Ok p → maker s session ≡ Ok (Janitor p)
janitor-maker s session p is = grind (arith, nat_tests)

pub requester-maker : (s : State) (session : SessionId) (q : RequesterId) → requester s session ≡ Ok q → maker s session ≡ Ok (Requester q)
requester-maker s session q is = grind (arith, nat_tests)

pub launcher-role : (s : State) (session : SessionId) (p : PoolId) → launcher s session ≡ Ok p → role_of session s ≡ Some (Launcher p)
launcher-role s session p is = maker-role s session (Launcher p) (launcher-maker s session p is)

pub janitor-role : (s : State) (session : SessionId) (p : PoolId) → janitor s session ≡ Ok p → role_of session s ≡ Some (Janitor p)
janitor-role s session p is = maker-role s session (Janitor p) (janitor-maker s session p is)

pub requester-role : (s : State) (session : SessionId) (q : RequesterId) → requester s session ≡ Ok q → role_of session s ≡ Some (Requester q)
requester-role s session q is = maker-role s session (Requester q) (requester-maker s session q is)

-- # the planned changes of an accepted event are its effect and one act of its maker

-- ## what was found, and who makes it

found-in : {A : Type 0} (c : Configuration) (session : SessionId) (role : Role) (s : State) (o : Option A) (f : A → Changes) (g : A → State) → ((a : A) → o ≡ Some a → changed c (made_by session role (f a)) s ≡ with_act (Some role) (g a)) → changed c (made_by session role (with_found o f)) s ≡ with_act (Some role) (after_found o s g)
found-in c session role s x4 f g each = grind (arith, nat_tests)

edit-too : (c : Configuration) (session : SessionId) (role : Role) (s : State) (r : RequestId) (change : RequestEdit) (o : Option RequestRecord) (g : RequestRecord → State) → request_in r s.requests ≡ o → ((k : RequestRecord) → g k ≡ record s { requests = put_request r (edited change k) s.requests }) → changed c (made_by session role (record same { requests = RequestsChange.Edit r change })) s ≡ with_act (Some role) (after_found o s g)
edit-too c session role s r change x6 g is same = grind (arith, nat_tests, edit-absent, edit-put)

-- a maker that is found
makes : {A : Type 0} (c : Configuration) (s t : State) (session : SessionId) (o : Result A Refusal) (what : A → Role) (f : A → Changes) → is_ok o ≡ true → ((a : A) → o ≡ Ok a → role_of session s ≡ Some (what a)) → ((a : A) → o ≡ Ok a → changed c (f a) s ≡ with_act (Some (what a)) t) → changed c (with_given o f) s ≡ with_act (role_of session s) t
makes c s t session x4 what f ok role each = grind (arith, nat_tests)

-- a fulfilled request of a job is kept, and one that was asked to keep a node ready goes
fulfil-by : (c : Configuration) (s : State) (session : SessionId) (role : Role) (r : RequestId) (request : RequestRecord) (b : Bool) → is_some request.pinned ≡ b → request_in r s.requests ≡ Some request → changed c (made_by session role (record same { requests = Plan.request_after_fulfil r b; nodes = Plan.nodes_after_fulfil r b })) s ≡ with_act (Some role) (fulfilled s r request)
fulfil-by c s session role r request true pinned has = rw pinned refl
fulfil-by c s session role r request false pinned has = rw pinned (ap (λ (rows : List RequestEntry). with_act (Some role) (record s { requests = rows })) (edit-put r RequestEdit.Fulfil s.requests request has))

-- ## all events

plan-effect : (c : Configuration) (s : State) (e : Event) → is_ok (judge c s e) ≡ true → changed c (plan c s e) s ≡ with_act (acting s e) (effect c s e)
plan-effect c s Event.Tick ok = refl
plan-effect c s (Event.OpenSession role) ok = refl
plan-effect c s (Event.Crash session) ok = grind (arith, nat_tests)
plan-effect c s (Event.Expire session) ok = grind (arith, nat_tests)
plan-effect c s (Event.Register session) ok = makes c s _ session (launcher s session) Launcher _ (bind-ok (launcher s session) _ ok) (launcher-role s session) (λ p is. rw is refl)
plan-effect c s (Event.Submit session j) ok = grind (arith, nat_tests, makes, bind-ok, requester-role, found-in)
plan-effect c s (Event.Revise session j relative) ok =
    makes c s _ session (requester s session) Requester _ (bind-ok (requester s session) _ (bind-ok (own_job c s session j) _ ok)) (requester-role s session) (λ q is.
    found-in c session (Requester q) s (request_of_job j s) (Plan.revise_to relative) (revise_request s relative) (λ r _.
    edit-too c session (Requester q) s r (RequestEdit.Revise relative) (request_in r s.requests) (revised s relative r) refl (λ k. refl)))
plan-effect c s (Event.MinReady session l) ok = makes c s _ session (launcher s session) Launcher _ (bind-ok (launcher s session) _ ok) (launcher-role s session) (λ p is. rw is refl)
plan-effect c s (Event.LockRequest session r) ok = makes c s _ session (maker s session) (λ role. role) _ (bind-ok (maker s session) _ ok) (maker-role s session) (λ role is. refl)
plan-effect c s (Event.UnlockRequest session r) ok = makes c s _ session (maker s session) (λ role. role) _ (bind-ok (maker s session) _ ok) (maker-role s session) (λ role is. refl)
plan-effect c s (Event.Accept session r) ok =
    makes c s _ session (launcher s session) Launcher _ (bind-ok (launcher s session) _ ok) (launcher-role s session) (λ p is.
    rw is (edit-too c session (Launcher p) s r (RequestEdit.Serve p) (request_in r s.requests) (accepted s r p) refl (λ k. refl)))
plan-effect c s (Event.Decline session r why) ok =
    makes c s _ session (launcher s session) Launcher _ (bind-ok (launcher s session) _ ok) (launcher-role s session) (λ p is.
    rw is (found-in c session (Launcher p) s (request_in r s.requests) _ (declined s r why p) (λ request has.
    rw (last-declines s.registrations request p why) (ap (λ (rows : List RequestEntry). with_act (Some (Launcher p)) (record s { requests = rows; nodes = all_freed r s.nodes }))
    (edit-put r (RequestEdit.Decline p why (is_some request.pinned || is_last_pool s.registrations request p)) s.requests request has)))))
plan-effect c s (Event.TakeReady session r n) ok =
    makes c s _ session (launcher s session) Launcher _ (bind-ok (launcher s session) _ ok) (launcher-role s session) (λ p is.
    found-in c session (Launcher p) s (request_in r s.requests) _ (took_ready c s session r n) (λ request has.
    ap (λ (rows : List RequestEntry). with_act (Some (Launcher p)) (record (took_ready c s session r n request) { requests = rows })) (edit-put r (RequestEdit.AddNode n) s.requests request has)))
plan-effect c s (Event.Create session r) ok =
    makes c s _ session (launcher s session) Launcher _ (bind-ok (launcher s session) _ ok) (launcher-role s session) (λ p is.
    rw is (found-in c session (Launcher p) s (request_in r s.requests) (Plan.create_for_next c s r p) (create_for c s session r p) (λ request has.
    found-in c session (Launcher p) s (next_label request) _ (created c s session r p request) (λ l _.
    ap (λ (rows : List RequestEntry). with_act (Some (Launcher p)) (record (created c s session r p request l) { requests = rows })) (edit-put r (RequestEdit.AddNode (record { 0 = s.next_node })) s.requests request has)))))
plan-effect c s (Event.Start session n) ok = grind (arith, nat_tests, makes, bind-ok, launcher-role, change_at-twice)
plan-effect c s (Event.Done session n attempt o) ok = grind (arith, nat_tests, makes, bind-ok, launcher-role, found-in)
plan-effect c s (Event.Fulfil session r) ok =
    makes c s _ session (launcher s session) Launcher _ (bind-ok (launcher s session) _ ok) (launcher-role s session) (λ p is.
    found-in c session (Launcher p) s (request_in r s.requests) _ (fulfilled s r) (λ request has. fulfil-by c s session (Launcher p) r request (is_some request.pinned) refl has))
plan-effect c s (Event.LockNode session n) ok = makes c s _ session (maker s session) (λ role. role) _ (bind-ok (maker s session) _ ok) (maker-role s session) (λ role is. refl)
plan-effect c s (Event.UnlockNode session n) ok = makes c s _ session (maker s session) (λ role. role) _ (bind-ok (maker s session) _ ok) (maker-role s session) (λ role is. refl)
plan-effect c s (Event.Acquire session j) ok = grind (arith, nat_tests, makes, bind-ok, requester-role)
plan-effect c s (Event.Take session j) ok = grind (arith, nat_tests, makes, bind-ok, requester-role, found-in)
plan-effect c s (Event.EndNode session n as_what) ok = grind (arith, nat_tests, makes, bind-ok, requester-role, found-in, end-first)
plan-effect c s (Event.Finish session j) ok = grind (arith, nat_tests, makes, bind-ok, maker-role, found-in)
plan-effect c s (Event.Withdraw session j) ok = grind (arith, nat_tests, makes, bind-ok, requester-role, found-in)
plan-effect c s (Event.Release session j) ok = makes c s _ session (maker s session) (λ role. role) _ (bind-ok (maker s session) _ ok) (maker-role s session) (λ role is. grind (arith, nat_tests))
plan-effect c s (Event.MarkDeleting session n) ok = grind (arith, nat_tests, makes, bind-ok, janitor-role, found-in)
plan-effect c s (Event.Gone session n) ok = makes c s _ session (janitor s session) Janitor _ (bind-ok (janitor s session) _ ok) (janitor-role s session) (λ p is. refl)
plan-effect c s (Event.Reset session r) ok =
    makes c s _ session (janitor s session) Janitor _ (bind-ok (janitor s session) _ ok) (janitor-role s session) (λ p is.
    found-in c session (Janitor p) s (request_in r s.requests) _ (given_back s r) (λ request has.
    ap (λ (rows : List RequestEntry). with_act (Some (Janitor p)) (record (given_back s r request) { requests = rows })) (edit-put r RequestEdit.GiveBack s.requests request has)))
plan-effect c s (Event.FreeNode session n) ok = grind (arith, nat_tests, makes, bind-ok, janitor-role, found-in)
plan-effect c s (Event.FailDeclined session r) ok =
    makes c s _ session (janitor s session) Janitor _ (bind-ok (janitor s session) _ ok) (janitor-role s session) (λ p is.
    edit-too c session (Janitor p) s r RequestEdit.Fail (request_in r s.requests) (failed s r) refl (λ k. refl))
plan-effect c s (Event.Sweep session n x) ok = makes c s _ session (janitor s session) Janitor _ (bind-ok (janitor s session) _ ok) (janitor-role s session) (λ p is. grind (arith, nat_tests))

pub plan-next : (c : Configuration) (s : State) (e : Event) → is_ok (judge c s e) ≡ true → changed c (plan c s e) s ≡ next c s e
plan-next c s e ok = grind (arith, nat_tests, plan-effect)

-- # what a row of tests that passed has shown, test by test

pub ok-is : {A E : Type 0} (o : Result A E) → is_ok o ≡ true → (a : A) × (o ≡ Ok a)
ok-is x0 is = grind (arith, nat_tests)

-- ## what the first test has shown, and that the rest passed

pub on-given : {A B P : Type 0} (o : Result A Refusal) (rest : A → Result B Refusal) (b : B) → (o >>= rest) ≡ Ok b → ((a : A) → o ≡ Ok a → rest a ≡ Ok b → P) → P
on-given x0 rest b is each = grind (arith, nat_tests)

pub on-found : {A B P : Type 0} (o : Option A) (why : Refusal) (rest : A → Result B Refusal) (b : B) → (found o why >>= rest) ≡ Ok b → ((a : A) → o ≡ Some a → rest a ≡ Ok b → P) → P
on-found x0 why rest b is each = grind (arith, nat_tests)

pub on-vacant : {A B P : Type 0} (o : Option A) (why : A → Refusal) (rest : Result B Refusal) (b : B) → (vacant o why >> rest) ≡ Ok b → (o ≡ None → rest ≡ Ok b → P) → P
on-vacant x0 why rest b is each = grind (arith, nat_tests)

pub on-check : {B P : Type 0} (o : Result (Unit {0}) Refusal) (rest : Result B Refusal) (b : B) → (o >> rest) ≡ Ok b → (o ≡ Ok tt → rest ≡ Ok b → P) → P
on-check x0 rest b is each = grind (arith, nat_tests)

pub on-need : {B P : Type 0} (t : Bool) (why : Refusal) (rest : Result B Refusal) (b : B) → (need t why >> rest) ≡ Ok b → (t ≡ true → rest ≡ Ok b → P) → P
on-need x0 why rest b is each = grind (arith, nat_tests)

pub on-not : {B P : Type 0} (t : Bool) (why : Refusal) (rest : Result B Refusal) (b : B) → (need (not t) why >> rest) ≡ Ok b → (t ≡ false → rest ≡ Ok b → P) → P
on-not x0 why rest b is each = grind (arith, nat_tests)

pub on-both : {B P : Type 0} (t u : Bool) (why : Refusal) (rest : Result B Refusal) (b : B) → (need (t && u) why >> rest) ≡ Ok b → (t ≡ true → u ≡ true → rest ≡ Ok b → P) → P
on-both x0 x1 why rest b is each = grind (arith, nat_tests)

-- the last test of a row
pub needed : (t : Bool) (why : Refusal) → need t why ≡ Ok tt → t ≡ true
needed x0 why is = grind (arith, nat_tests)

-- # what the plan of an accepted event looks up, and what is known of its maker

-- ## the maker

pub maker-heard : (s : State) (session : SessionId) (role : Role) → maker s session ≡ Ok role → IsHeard s (record { session = session; role = role })
maker-heard s session role is = grind (arith, nat_tests, on-found, on-need, on-not)

pub launcher-heard : (s : State) (session : SessionId) (p : PoolId) → launcher s session ≡ Ok p → IsHeard s (record { session = session; role = Launcher p })
launcher-heard s session p is = maker-heard s session (Launcher p) (launcher-maker s session p is)

pub janitor-heard : (s : State) (session : SessionId) (p : PoolId) → janitor s session ≡ Ok p → IsHeard s (record { session = session; role = Janitor p })
janitor-heard s session p is = maker-heard s session (Janitor p) (janitor-maker s session p is)

pub requester-heard : (s : State) (session : SessionId) (q : RequesterId) → requester s session ≡ Ok q → IsHeard s (record { session = session; role = Requester q })
requester-heard s session q is = maker-heard s session (Requester q) (requester-maker s session q is)

abbrev pub works-on : (s : State) (session : SessionId) (p : PoolId) (r : RequestId) (request : RequestRecord) → request_in r s.requests ≡ Some request → is_session_of session (registered p s.registrations) ≡ true → is_session_of session (request_holder r s.requests) ≡ true → IsWorkedOn s (Some (record { session = session; role = Launcher p })) p r request
works-on s session p r request stands registers holds = record { session = session; made_by = refl; stands = stands; registers = registers; holds = holds }

-- the requester, its job, and the job's record
pub on-own_job : {B P : Type 0} (c : Configuration) (s : State) (session : SessionId) (j : JobId) (rest : Job × JobRecord → Result B Refusal) (b : B) → (own_job c s session j >>= rest) ≡ Ok b → ((q : RequesterId) (job : Job) (kept : JobRecord) → requester s session ≡ Ok q → slice_get c.jobs j.0 ≡ Some job → slice_get s.jobs j.0 ≡ Some kept → rest (job, kept) ≡ Ok b → P) → P
on-own_job c s session j rest b is each = grind (arith, nat_tests, on-given, on-found, on-need)

-- ## what a plan looks up

module _ (c : Configuration) (s : State) where
  -- if the event was accepted, its maker was found
  pub given-too : {A B : Type 0} (o : Result A Refusal) (rest : A → Result B Refusal) (f : A → Changes) (b : B) → (o >>= rest) ≡ Ok b → ((a : A) → o ≡ Ok a → rest a ≡ Ok b → Premises c s (f a)) → Premises c s (with_given o f)
  given-too x0 rest f b is each = grind (arith, nat_tests)

  pub at-given : {A : Type 0} (o : Result A Refusal) (a : A) (f : A → Changes) → o ≡ Ok a → Premises c s (f a) → Premises c s (with_given o f)
  at-given o a f is shown = rw is shown

  pub at-found : {A : Type 0} (o : Option A) (a : A) (f : A → Changes) → o ≡ Some a → Premises c s (f a) → Premises c s (with_found o f)
  at-found o a f is shown = rw is shown

  pub at-found_by : {A : Type 0} (session : SessionId) (role : Role) (o : Option A) (a : A) (f : A → Changes) → o ≡ Some a → Premises c s (made_by session role (f a)) → Premises c s (made_by session role (with_found o f))
  at-found_by session role o a f is shown = rw is shown

-- # what an accepted event implies for the state before it

pub open-role : (c : Configuration) (s : State) (role : Role) (what : Done) → judge_open c s role ≡ Ok what → is_role c role ≡ true
open-role c s role what is = grind (arith, nat_tests)

pub decline-first : (c : Configuration) (s : State) (session : SessionId) (r : RequestId) (why : Reason) (what : Done) (p : PoolId) (request : RequestRecord) → judge_decline c s session r why ≡ Ok what → launcher s session ≡ Ok p → request_in r s.requests ≡ Some request → is_declined_by p request.declined ≡ false
decline-first c s session r why what p request is who has = grind (arith, nat_tests)

pub take_ready-room : (s : State) (session : SessionId) (r : RequestId) (n : NodeId) (what : Done) (request : RequestRecord) → judge_take_ready s session r n ≡ Ok what → request_in r s.requests ≡ Some request → next_label request ≡ None → ⊥
take_ready-room s session r n what request is has none = grind (arith, nat_tests)

pub start-idle : (s : State) (session : SessionId) (n : NodeId) (what : Done) (k : NodeRecord) → judge_start s session n ≡ Ok what → node_in n s.nodes ≡ Some k → (is_building k.state && not k.in_flight) ≡ true
start-idle s session n what k is has = grind (arith, nat_tests)

pub done-flying : (s : State) (session : SessionId) (n : NodeId) (attempt : ℕ) (what : Done) (k : NodeRecord) → judge_done s session n attempt ≡ Ok what → node_in n s.nodes ≡ Some k → k.in_flight ≡ true
done-flying s session n attempt what k is has = grind (arith, nat_tests)

-- # what an accepted event implies for the holders before it

-- what follows four tests that passed
four-passed : {A E : Type 0} (a b c d : Bool) (first second third fourth : E) (answer what : A) → (need a first >> (need b second >> (need c third >> (need d fourth >> Ok answer)))) ≡ Ok what → what ≡ answer
four-passed true true true true first second third fourth answer what is = cc
four-passed _ b c d first second third fourth answer what is = absurd cc

module _ (c : Configuration) (s : State) (by : SessionId) (what : Done) where
  -- ## what is locked was there, and nobody held it

  pub take_ready-stands : (r : RequestId) (n : NodeId) → judge_take_ready s by r n ≡ Ok what → node_in n s.nodes ≡ None → ⊥
  take_ready-stands r n is none = grind (arith, nat_tests)

  pub lock_request-stands : (r : RequestId) → judge_lock_request c s by r ≡ Ok what → request_in r s.requests ≡ None → ⊥
  lock_request-stands r is none = grind (arith, nat_tests)

  -- ## a new node

  pub create-maker : (r : RequestId) (why : Refusal) → judge_create c s by r ≡ Ok what → launcher s by ≡ Err why → ⊥
  create-maker r why is none = grind (arith, nat_tests)

  pub create-asked : (r : RequestId) → judge_create c s by r ≡ Ok what → request_in r s.requests ≡ None → ⊥
  create-asked r is none = grind (arith, nat_tests)

  pub create-next : (r : RequestId) (request : RequestRecord) → judge_create c s by r ≡ Ok what → request_in r s.requests ≡ Some request → next_label request ≡ None → ⊥
  create-next r request is has none = grind (arith, nat_tests)

  pub create-number : (r : RequestId) (p : PoolId) (request : RequestRecord) (l : LabelId) → judge_create c s by r ≡ Ok what → launcher s by ≡ Ok p → request_in r s.requests ≡ Some request → next_label request ≡ Some l → what ≡ Done.Node (record { 0 = s.next_node })
  create-number r p request l is who has wants =
      let tests = rw (who, has, wants) at is in
      four-passed (is_session_of by (registered p s.registrations)) (is_session_of by (request_holder r s.requests)) (is_pending_by p request) (not (is_short c s p l)) Refusal.NotRegistered Refusal.NotHeld (wrong_request request) (quota_short (count_of c s p))
      (Done.Node (record { 0 = s.next_node })) what tests

-- # the replies in a journal are those of the machine, and what an accepted event leads to

-- an accepted event leads to its effect
pub accepted-state : (c : Configuration) (s : State) (e : Event) → is_ok (judge c s e) ≡ true → next c s e ≡ with_act (acting s e) (effect c s e)
accepted-state c s e ok = rw ok refl

-- the first reply of a journal, and the others
pub head-reply : (c : Configuration) (s : State) (e : Entry) (journal : List Entry) → replayed c s (e ∷ journal) ≡ e ∷ journal → reply_of (judge c s e.event) ≡ e.reply
head-reply c s e journal is = let head : record { event = e.event; reply = reply_of (judge c s e.event) } ≡ e = cc in ap (λ (x : Entry). x.reply) head

pub tail-replies : (c : Configuration) (s : State) (e : Entry) (journal : List Entry) → replayed c s (e ∷ journal) ≡ e ∷ journal → replayed c (next c s e.event) journal ≡ journal
tail-replies c s e journal is = cc

pub done-accepted : (c : Configuration) (s : State) (e : Entry) → reply_of (judge c s e.event) ≡ e.reply → is_done e.reply ≡ is_ok (judge c s e.event)
done-accepted c s e says = grind (arith, nat_tests)

pub accepted-reply : (c : Configuration) (s : State) (e : Entry) → reply_of (judge c s e.event) ≡ e.reply → is_ok (judge c s e.event) ≡ true → is_done e.reply ≡ true
accepted-reply c s e says ok = done-accepted c s e says ∙ ok

-- # what an event removes: which request, which node, and whose nodes are given back

-- ## the maker

-- the maker of the changes is the maker of the event
pub plan-maker : (c : Configuration) (s : State) (e : Event) → (m : Maker) → (plan c s e).maker ≡ Some m → maker_of e ≡ Some m.session
plan-maker c s _ = λ m at. grind (arith, nat_tests)

-- ## what is removed

-- no request and no node is removed, and no request is given back
abbrev pub gives_back : RequestEdit → Bool
gives_back (RequestEdit.Decline p why failed) = true
gives_back RequestEdit.GiveBack = true
gives_back _ = false

abbrev keeps_requests : RequestsChange → Bool
keeps_requests (RequestsChange.Edit r e) = not (gives_back e)
keeps_requests (RequestsChange.Remove r) = false
keeps_requests _ = true

abbrev keeps_nodes : NodesChange → Bool
keeps_nodes (NodesChange.Remove n) = false
keeps_nodes (NodesChange.FreeAll r) = false
keeps_nodes _ = true

-- an event that removes a request ends it, one that removes a node is its `gone`, and one that
-- gives a request back says so
pub record Goes (s : State) (e : Event) (ch : Changes) : Type 0 where
  pub request : (r : RequestId) → ch.requests ≡ RequestsChange.Remove r → is_some (request_in r s.requests) ≡ true → is_request_end r (request_in r s.requests) e ≡ true
  pub node : (n : NodeId) → ch.nodes ≡ NodesChange.Remove n → is_gone n e ≡ true
  pub edit : (r : RequestId) (how : RequestEdit) → ch.requests ≡ RequestsChange.Edit r how → gives_back how ≡ true → given_back_by e ≡ Some r
  pub back : (r : RequestId) → given_back_by e ≡ Some r → (ch.grows ≡ Growth.Nothing) × ((ch.nodes ≡ NodesChange.Same) ⊎ (ch.nodes ≡ NodesChange.FreeAll r))

calm : (s : State) (e : Event) (ch : Changes) → given_back_by e ≡ None → keeps_requests ch.requests ≡ true → keeps_nodes ch.nodes ≡ true → Goes s e ch
calm s e ch none requests nodes = grind (arith, nat_tests)

-- ### events by which something is removed

pub plan-goes : (c : Configuration) (s : State) (e : Event) → JobsStand s → is_ok (judge c s e) ≡ true → Goes s e (plan c s e)
plan-goes c s (Event.Decline session r why) old ok = grind (arith, nat_tests)
plan-goes c s (Event.Fulfil session r) old ok = grind (arith, nat_tests)
plan-goes c s (Event.Take session j) old ok = grind (arith, nat_tests)
plan-goes c s (Event.Withdraw session j) old ok = grind (arith, nat_tests)
plan-goes c s (Event.Gone session n) old ok = grind (arith, nat_tests)
plan-goes c s (Event.Reset session r) old ok = grind (arith, nat_tests)
plan-goes c s e old ok = calm s e _ refl (grind (arith, nat_tests)) (grind (arith, nat_tests))

pub ruleset planning = (plan-next)
