-- what no effect changes: the next numbers never fall, and no act is counted
use Rattle.np_machine.proofs.Prelude.{Bool, Configuration, Event, Janitor, Launcher, List, Requester, RisesFrom, Role, RoleRecord, SessionFacts, Some, State, accept_by, accepted, acquired, ap, arith, change_at, change_role, crashed, create_by, create_for, created, decline_by, declined, effect, expired, failed, false, finished, fulfilled, given_back, given_up, kept-change_at, kept_ready, launcher, length, length-append, length-change_at, next, next_label, node_ended, node_freed, node_in, one_more_start, option_map, refl, registers, released, reported, request_in, request_of_job, revise_request, revised, session_of, slice_get, start_by, started, struck_unless, submit_for, submitted, take_for, take_from, taken, took_ready, withdrawn, ℕ, [], ◌∷◌, ◌≡◌, ◌≤◌}
use Rattle.np_machine.proofs.Steps.{after_found-keeps, after_given-keeps, next-keeps}

-- at each place as many acts
abbrev pub SameDeeds : List RoleRecord → List RoleRecord → Type 0
SameDeeds old new = (i : ℕ) → option_map (λ deeds. deeds.acts) (slice_get new i) ≡ option_map (λ deeds. deeds.acts) (slice_get old i)

-- each role has as many acts as before
abbrev pub SameActs : State → State → Type 0
SameActs s t = SameDeeds s.launchers t.launchers × (SameDeeds s.janitors t.janitors × SameDeeds s.requesters t.requesters)

-- and no next number fell
abbrev pub Quiet : State → State → Type 0
Quiet s t = ((length s.sessions ≤ length t.sessions) × ((s.next_request ≤ t.next_request) × (s.next_node ≤ t.next_node))) × SameActs s t

quiet : (s : State) → Quiet s s
quiet s = ((omega arith, (omega arith, omega arith)), ((λ i. refl), ((λ i. refl), (λ i. refl))))

at_place : (f : RoleRecord → RoleRecord) → ((x : RoleRecord) → (f x).acts ≡ x.acts) → (i : ℕ) (roles : List RoleRecord) → SameDeeds roles (change_at i f roles)
at_place f keeps i roles = λ j. kept-change_at (option_map (λ (deeds : RoleRecord). deeds.acts)) i j f roles (λ x. ap Some (keeps x))

-- a change of a role's record that leaves its acts leaves those of every role
changed : (f : RoleRecord → RoleRecord) → ((x : RoleRecord) → (f x).acts ≡ x.acts) → (role : Role) (s : State) → SameActs s (change_role f role s)
changed f keeps (Launcher p) s = (at_place f keeps p.0 s.launchers, ((λ i. refl), (λ i. refl)))
changed f keeps (Janitor p) s = ((λ i. refl), (at_place f keeps p.0 s.janitors, (λ i. refl)))
changed f keeps (Requester q) s = ((λ i. refl), ((λ i. refl), at_place f keeps q.0 s.requesters))
changed f keeps _ s = (quiet s).1

-- a crash or an expiry counts a strike
struck : (s : State) (sessions : List SessionFacts) (counted : Bool) (role : Role) → length sessions ≡ length s.sessions → Quiet s (record (change_role (struck_unless counted) role s) { sessions = sessions })
struck s sessions counted role as_many = ((omega arith, (quiet s).0.1), changed (struck_unless counted) (λ x. refl) role s)

pub Quiet-effect : (c : Configuration) (s : State) (e : Event) → Quiet s (effect c s e)
Quiet-effect c s (Event.OpenSession role) = ((omega (arith, length-append s.sessions (record { role = role; live = Rattle.std.specs.Prelude.true; mute = Rattle.std.specs.Prelude.false } ∷ [])), (quiet s).0.1), (quiet s).1)
Quiet-effect c s (Event.Crash session) = after_found-keeps (Quiet s) (session_of session s) s (crashed s session) (quiet s) (λ facts _. struck s _ false facts.role (length-change_at _ _ s.sessions))
Quiet-effect c s (Event.Expire session) = after_found-keeps (Quiet s) (session_of session s) s (expired s session) (quiet s) (λ facts _. struck s _ facts.mute facts.role (length-change_at _ _ s.sessions))
Quiet-effect c s (Event.Register session) = after_given-keeps (Quiet s) (launcher s session) s (registers s session) (quiet s) (λ p _. quiet s)
Quiet-effect c s (Event.Submit session j) =
    after_found-keeps (Quiet s) (slice_get c.jobs j.0) s (submit_for s j) (quiet s) (λ job _.
    after_found-keeps (Quiet s) (slice_get s.jobs j.0) s (submitted s j job) (quiet s) (λ kept _.
    (((quiet s).0.0, (omega arith, (quiet s).0.1.1)), (quiet s).1)))
Quiet-effect c s (Event.Revise session j relative) =
    after_found-keeps (Quiet s) (request_of_job j s) s (revise_request s relative) (quiet s) (λ r _.
    after_found-keeps (Quiet s) (request_in r s.requests) s (revised s relative r) (quiet s) (λ request _. quiet s))
Quiet-effect c s (Event.MinReady session l) = after_given-keeps (Quiet s) (launcher s session) s (kept_ready s l) (quiet s) (λ p _. (((quiet s).0.0, (omega arith, (quiet s).0.1.1)), (quiet s).1))
Quiet-effect c s (Event.Accept session r) =
    after_given-keeps (Quiet s) (launcher s session) s (accept_by s r) (quiet s) (λ p _.
    after_found-keeps (Quiet s) (request_in r s.requests) s (accepted s r p) (quiet s) (λ request _. quiet s))
Quiet-effect c s (Event.Decline session r why) =
    after_given-keeps (Quiet s) (launcher s session) s (decline_by s r why) (quiet s) (λ p _.
    after_found-keeps (Quiet s) (request_in r s.requests) s (declined s r why p) (quiet s) (λ request _. quiet s))
Quiet-effect c s (Event.TakeReady session r n) = after_found-keeps (Quiet s) (request_in r s.requests) s (took_ready c s session r n) (quiet s) (λ request _. quiet s)
Quiet-effect c s (Event.Create session r) =
    after_given-keeps (Quiet s) (launcher s session) s (create_by c s session r) (quiet s) (λ p _.
    after_found-keeps (Quiet s) (request_in r s.requests) s (create_for c s session r p) (quiet s) (λ request _.
    after_found-keeps (Quiet s) (next_label request) s (created c s session r p request) (quiet s) (λ l _.
    (((quiet s).0.0, ((quiet s).0.1.0, omega arith)), (quiet s).1))))
Quiet-effect c s (Event.Start session n) =
    after_given-keeps (Quiet s) (launcher s session) s (start_by s n) (quiet s) (λ p _.
    after_found-keeps (Quiet s) (node_in n s.nodes) s (started s n p) (quiet s) (λ k _. ((quiet s).0, changed one_more_start (λ x. refl) (Launcher p) s)))
Quiet-effect c s (Event.Done session n attempt o) = after_found-keeps (Quiet s) (node_in n s.nodes) s (reported c s n o) (quiet s) (λ k _. quiet s)
Quiet-effect c s (Event.Fulfil session r) = after_found-keeps (Quiet s) (request_in r s.requests) s (fulfilled s r) (quiet s) (λ request _. quiet s)
Quiet-effect c s (Event.Acquire session j) = after_found-keeps (Quiet s) (slice_get c.jobs j.0) s (acquired s j) (quiet s) (λ job _. quiet s)
Quiet-effect c s (Event.Take session j) =
    after_found-keeps (Quiet s) (slice_get s.jobs j.0) s (take_for s j) (quiet s) (λ kept _.
    after_found-keeps (Quiet s) kept.request s (take_from s j kept) (quiet s) (λ r _.
    after_found-keeps (Quiet s) (request_in r s.requests) s (taken s j kept r) (quiet s) (λ request _. quiet s)))
Quiet-effect c s (Event.EndNode session n as_what) = after_found-keeps (Quiet s) (node_in n s.nodes) s (node_ended s n as_what) (quiet s) (λ k _. quiet s)
Quiet-effect c s (Event.Finish session j) = after_found-keeps (Quiet s) (slice_get s.jobs j.0) s (finished s j) (quiet s) (λ kept _. quiet s)
Quiet-effect c s (Event.Withdraw session j) = after_found-keeps (Quiet s) (slice_get s.jobs j.0) s (withdrawn s j) (quiet s) (λ kept _. quiet s)
Quiet-effect c s (Event.Release session j) = after_found-keeps (Quiet s) (slice_get c.jobs j.0) s (released s j) (quiet s) (λ job _. quiet s)
Quiet-effect c s (Event.MarkDeleting session n) = after_found-keeps (Quiet s) (node_in n s.nodes) s (given_up s n) (quiet s) (λ k _. quiet s)
Quiet-effect c s (Event.Reset session r) = after_found-keeps (Quiet s) (request_in r s.requests) s (given_back s r) (quiet s) (λ request _. quiet s)
Quiet-effect c s (Event.FreeNode session n) = after_found-keeps (Quiet s) (node_in n s.nodes) s (node_freed s n) (quiet s) (λ k _. quiet s)
Quiet-effect c s (Event.FailDeclined session r) = after_found-keeps (Quiet s) (request_in r s.requests) s (failed s r) (quiet s) (λ request _. quiet s)
Quiet-effect c s _ = quiet s

pub RisesFrom-next : (c : Configuration) (s : State) (e : Event) → RisesFrom s (next c s e)
RisesFrom-next c s e = next-keeps (RisesFrom s) c s e (record { sessions = omega arith; requests = omega arith; nodes = omega arith }) (λ what _.
    let old : Quiet s (effect c s e) = Quiet-effect c s e in
    record { sessions = old.0.0; requests = old.0.1.0; nodes = old.0.1.1 })
