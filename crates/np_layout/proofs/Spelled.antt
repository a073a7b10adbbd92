-- each record has a spelling after an accepted event
use Rattle.np_layout.proofs.Prelude.{AllByRecursion, Asked, AsksForJob, AsksToKeep, Bool, Changes, Configuration, Declined, Deed, EditPremise, Ending, EndsIn, EndsNode, Event, FinishesJob, Fits, Frees, Gains, GivesUp, Growth, GrowthPremise, HasParts, HasSpellings, HasText, IfSome, Invariant, IsAccepted, IsCarried, IsDeclined, IsGood, IsJob, IsLabel, IsMade, IsMarked, IsNode, IsNodeId, IsPriority, IsReason, IsRequest, IsRole, IsServed, IsSessionRole, IsSound, IsTaken, IsTyped, IsTypedEdit, IsTypedNodes, IsTypedRequests, IsWorkedOn, JOB_LABELS, JobId, JobRecord, JobsChange, JobsPremise, LabelId, Launcher, List, Locked, Maker, MakerPremise, MayDecline, MayFulfil, Node, NodeEntry, NodeFits, NodeId, NodeRecord, NodeState, NodesChange, NodesPremise, None, Option, Outcome, POOLS, Phase, PoolId, Premises, PutsJob, PutsNode, Reason, RecordsAreSpelled, Registration, Reports, Request, RequestEdit, RequestEntry, RequestFits, RequestId, RequestRecord, RequestState, RequestsChange, RequestsPremise, Role, RoleFits, RoleRecord, Session, SessionFacts, SessionId, SessionsChange, Some, Starts, State, TakesOver, TenantId, Withdraws, [], all-at, all-change_at, all-change_at_to, all-change_first, all-find, all-insert_before, all-mapped, all-push, all-remove_first, all-set, all_in_use, allocated, ap, arith, by_maker, change_at, change_first, change_janitor, change_launcher, change_requester, changed, cond, edited, ended, ended_as, ending_of, false, find, find-passes, freed, freed_from, from-map_some, grown, in_call, in_use, inl, inr, is_asked, is_building, is_declined_by, is_fulfilled, is_id_before, is_new, is_pending, is_pool, is_request, is_requested, jobs-grown, jobs_changed, launched, left, length, length-append, length-map, map, marked, muted, new_node, new_record, next_id, next_label, node_entry, node_in, node_in-below, node_left, node_queue, nodes_changed, nodes_left, not, one_more_act, one_more_start, option_map, plan, premises, put_node_queue, put_request_queue, refl, request-equal, request_after_withdraw, request_entry, request_in, request_left, request_queue, requests_changed, requests_left, retries_of, same_request, sessions_changed, since_after_launch, slice_get, slice_get_within, struck_unless, subst, sym, tenant_of_request, true, unended, with_deed, with_mark, ℕ, ◌&&◌, ◌++◌, ◌+◌, ◌-◌, ◌<◌, ◌==◌, ◌^◌, ◌∙◌, ◌∷◌, ◌≡◌, ◌≤◌, ◌⊎◌}
use Rattle.np_lists.proofs.Plain.{by_bool}
use Rattle.np_layout.proofs.SoundRows.{JobRow, job-row, pool-low, tenant-low, job-low, label-low, role-low}
use Rattle.np_layout.proofs.Stands.{same-tick, edit-leaves, same-requests, same-roles}

-- # what is known of the records of a state before an event changes it

-- the state is one of a run and can be carried, and the changes are of an event that is accepted in it
pub record IsKnown (c : Configuration) (s : State) (ch : Changes) : Type 0 where
  pub sound : IsSound c
  pub fits : Fits c s
  pub invariant : Invariant c s
  pub carried : IsCarried c s
  pub typed : IsTyped ch
  pub premises : Premises c s ch

-- ## what is found

-- what is true of each member stays true if it becomes true of the one that is changed
pub all-change_found : {X : Type 0} (P : X → Type 0) (p : X → Bool) (f : X → X) (xs : List X) → ((e : X) → find p xs ≡ Some e → P (f e)) → AllByRecursion P xs → AllByRecursion P (change_first p f xs)
all-change_found P p f [] new all = tt
all-change_found P p f (x ∷ xs) new all =
    by_bool (λ (b : Bool). ((e : _) → cond b (Some x) (find p xs) ≡ Some e → P (f e)) → AllByRecursion P (cond b (f x ∷ xs) (x ∷ change_first p f xs))) (p x)
    (λ _ here. (here x refl, all.1)) (λ _ later. (all.0, all-change_found P p f xs later all.1)) new

-- ## who makes the event

-- another queue changes no record
pub queue-keeps : {I K : Type 0} (P : K → Type 0) (p : Locked I K → Bool) (queue : List SessionId) (rows : List (Locked I K)) → AllByRecursion (λ e. P e.kept) rows → AllByRecursion (λ e. P e.kept) (change_first p (λ e. record e { queue = queue }) rows)
queue-keeps P p queue rows all = all-change_first (λ (e : Locked _ _). P e.kept) p (λ e. record e { queue = queue }) rows (λ e is. is) all

-- what any session does keeps what is true of some rows, and so does what nobody does
by_maker-keeps : {A : Type 0} (P : A → Type 0) (f : SessionId → A → A) (maker : Option Maker) (rows : A) → ((session : SessionId) (old : A) → P old → P (f session old)) → P rows → P (by_maker maker f rows)
by_maker-keeps P f None rows keeps all = all
by_maker-keeps P f (Some m) rows keeps all = keeps m.session rows all

-- the pool of a launcher is in the configuration
pub launcher-low : (c : Configuration) (s : State) (maker : Option Maker) (session : SessionId) (p : PoolId) → Fits c s → MakerPremise s maker → maker ≡ Some (record { session = session; role = Role.Launcher p }) → p.0 < length c.pools
launcher-low c s None session p fits heard made = absurd cc
launcher-low c s (Some m) session p fits heard made =
    let same : m ≡ record { session = session; role = Role.Launcher p } = cc in
    let of_role : heard.facts.role ≡ Role.Launcher p = heard.role ∙ ap (λ (x : Maker). x.role) same in
    fits.launcher_pools m.session p (ap (λ (o : Option SessionFacts). option_map (λ f. f.role) o) heard.begun ∙ ap (λ (r : Role). Some r) of_role)

-- ## requests

-- what is known of a request's record
pub record RequestRow (c : Configuration) (r : RequestId) (k : RequestRecord) : Type 0 where
  pub is : IsRequest k
  pub text : HasText r
  pub labels : length k.labels ≤ 32
  pub nodes : length k.nodes ≤ length k.labels
  pub declined : (p : PoolId) → p.0 < length c.pools → is_declined_by p k.declined ≡ false → length k.declined < 64

-- a request that is found
pub request-row : (c : Configuration) (s : State) → Fits c s → IsCarried c s → (r : RequestId) (k : RequestRecord) → request_in r s.requests ≡ Some k → RequestRow c r k
request-row c s fits carried r k there =
    let row = from-map_some (λ (e : RequestEntry). e.kept) (request_entry r s.requests) k there in
    let e : RequestEntry = row.0 in
    let fit : RequestFits c s e = all-find (RequestFits c s) (λ x. same_request x.id r) s.requests e fits.each_request row.1 in
    let same : e.id ≡ r = request-equal e.id r (find-passes (λ (x : RequestEntry). same_request x.id r) s.requests e row.1) in
    let is = all-find (λ (x : RequestEntry). IsRequest x.kept) (λ x. same_request x.id r) s.requests e carried.spelled.requests row.1 in
    let text = subst HasText same (all-find (λ (x : RequestEntry). IsGood (Request x.id)) (λ x. same_request x.id r) s.requests e carried.good.requests row.1) in
    subst (RequestRow c r) row.2 (record { is = is; text = text; labels = fit.labels; nodes = fit.nodes; declined = fit.declined })

-- the id of the next request has a text
pub next-text : (c : Configuration) (s : State) (priority : ℕ) → Fits c s → 100 ≤ priority → priority ≤ 999 → HasText (next_id priority s)
next-text c s priority fits least most = record { least = least; most = most; sequence = let few = fits.next_request in omega arith }

-- so has one of a job's priority
pub priority-text : (c : Configuration) (s : State) (priority : ℕ) → Fits c s → IsPriority priority → HasText (next_id priority s)
priority-text c s priority fits is = next-text c s priority fits (omega arith) (omega arith)

-- ## nodes

-- what is known of a node's record
pub record NodeRow (c : Configuration) (s : State) (n : NodeId) (k : NodeRecord) : Type 0 where
  pub is : IsNode k
  pub number : n.0 < 2 ^ 32
  pub attempts : (is_building k.state && not k.in_flight) ≡ true → k.attempts < 16

-- a node that is found
pub node-row : (c : Configuration) (s : State) → Fits c s → Invariant c s → IsCarried c s → (n : NodeId) (k : NodeRecord) → node_in n s.nodes ≡ Some k → NodeRow c s n k
node-row c s fits invariant carried n k there =
    let row = from-map_some (λ (e : NodeEntry). e.kept) (node_entry n s.nodes) k there in
    let e : NodeEntry = row.0 in
    let fit : NodeFits s e = all-find (NodeFits s) (λ x. x.id.0 == n.0) s.nodes e fits.each_node row.1 in
    let is = all-find (λ (x : NodeEntry). IsNode x.kept) (λ x. x.id.0 == n.0) s.nodes e carried.spelled.nodes row.1 in
    let low = node_in-below n s.next_node k s.nodes invariant.numbered.nodes_below there in
    subst (NodeRow c s n) row.2 (record { is = is; number = omega (arith, fits.next_node, low); attempts = fit.attempts })

-- the number of a node that a request gets fits its type
pub gained-number : (c : Configuration) (s : State) (ch : Changes) (p : PoolId) (r : RequestId) (request : RequestRecord) (l : LabelId) (n : NodeId) → IsKnown c s ch → IsTaken c s ch p r request l n ⊎ IsMade c s ch p r request l n → n.0 < 2 ^ 32
gained-number c s ch p r request l n known (inl taken) = omega (arith, known.fits.next_node, node_in-below n s.next_node taken.node s.nodes known.invariant.numbered.nodes_below taken.stands)
gained-number c s ch p r request l n known (inr made) = omega (arith, known.fits.next_node, ap (λ (x : NodeId). x.0) made.number)

-- the pool that works on a request fits its type
pub worker-low : (c : Configuration) (s : State) (ch : Changes) (p : PoolId) (r : RequestId) (request : RequestRecord) → IsKnown c s ch → IsWorkedOn s ch.maker p r request → p.0 < length c.pools
worker-low c s ch p r request known works = launcher-low c s ch.maker works.session p known.fits known.premises.maker works.made_by

-- # each job has a spelling after an accepted event

-- ## the parts of a job

-- what a new job has when it asks
when-asks : (p : Phase) (e : Option Ending) (pool : Option PoolId) (request : Option RequestId) (id : RequestId) → is_new p ≡ true → EndsIn p e → HasParts p pool request → EndsIn Phase.Asked e × HasParts Phase.Asked pool (Some id)
when-asks p e pool request id is ends parts = (grind arith, grind arith)

-- what an asked job has when it takes over nodes
when-takes : (p : Phase) (e : Option Ending) (s : RequestState) (pool : Option PoolId) (request : Option RequestId) (r : RequestId) → is_asked p ≡ true → EndsIn p e → is_fulfilled s ≡ true → IsServed s pool → request ≡ Some r →
    EndsIn Phase.Using e × (HasParts Phase.Using pool request × IfSome pool (λ p. p.0 < 2 ^ 16))
when-takes p e s pool request r asked ends is served of_job = (grind arith, (grind arith, grind arith))

-- what any job has when it ends
over-parts : (p : Phase) (pool : Option PoolId) (request : Option RequestId) → HasParts p pool request → HasParts Phase.Over pool request
over-parts p pool request parts = grind arith

-- ## one record

over-is : (k : JobRecord) (e : Ending) → IsJob k → IsJob (record k { ending = Some e; phase = Phase.Over })
over-is k e is = assumption (is, over-parts k.phase k.pool k.request is.parts)

marked-is : (n : NodeId) (k : JobRecord) → IsJob k → IsJob (with_mark n k)
marked-is n k is = search (arith, is.few, length-map k.nodes (marked n), all-mapped IsMarked IsMarked (marked n) k.nodes (λ m low. low) is.nodes)

module _ (c : Configuration) (s : State) (ch : Changes) (known : IsKnown c s ch) where
  -- a job that is there has a spelling
  job-there : (j : JobId) (k : JobRecord) → slice_get s.jobs j.0 ≡ Some k → IsJob k
  job-there j k there = all-at IsJob s.jobs j.0 k known.carried.spelled.jobs there

  -- one change puts one record
  as-put : (i j : JobId) (put later : JobRecord) → ch.jobs ≡ JobsChange.Put j later → ch.jobs ≡ JobsChange.Put i put → IsJob put → IsJob later
  as-put i j put later one other is =
      let both : JobsChange.Put i put ≡ JobsChange.Put j later = sym other ∙ one in
      let same : put ≡ later = cc in
      subst IsJob same is

  put-is : (j : JobId) (later : JobRecord) → ch.jobs ≡ JobsChange.Put j later → PutsJob c s ch j later → IsJob later
  put-is j later at puts = by puts.way where
    by :
        ((priority : ℕ) × (asked : Asked) × (asks : AsksForJob c s ch priority asked) × ((ch.grows ≡ Growth.Request priority asked) × (asks.number ≡ j)))
        ⊎ (((r : RequestId) × (takes : TakesOver c s ch r) × ((ch.requests ≡ RequestsChange.Remove r) × (takes.number ≡ j)))
        ⊎ (FinishesJob c s ch j puts.kept later
        ⊎ (Withdraws s ch j puts.kept × (ch.requests ≡ request_after_withdraw puts.kept.request)))) → IsJob later
    by (inl (priority, asked, asks, rest)) =
        let is : IsJob asks.kept = job-there asks.number asks.kept asks.stands in
        let has = when-asks asks.kept.phase asks.kept.ending asks.kept.pool asks.kept.request (next_id asks.job.priority s) asks.new is.ending is.parts in
        as-put asks.number j (record asks.kept { phase = Phase.Asked; request = Some (next_id asks.job.priority s) }) later at asks.puts
        (assumption (is, has.0, has.1, priority-text c s asks.job.priority known.fits (job-row c known.sound asks.number asks.job asks.row).priority))
    by (inr (inl (r, takes, rest))) =
        let is : IsJob takes.kept = job-there takes.number takes.kept takes.stands in
        let row : RequestRow c r takes.request = request-row c s known.fits known.carried r takes.request takes.request_stands in
        let has = when-takes takes.kept.phase takes.kept.ending takes.request.state takes.request.pool takes.kept.request r takes.asked is.ending takes.fulfilled row.is.served takes.of_job in
        let nodes = all-mapped IsNodeId IsMarked unended takes.request.nodes (λ n low. low) row.is.nodes in
        as-put takes.number j (record takes.kept { nodes = map unended takes.request.nodes; phase = Phase.Using; pool = takes.request.pool }) later at takes.puts
        (search (arith, has.0, has.1.0, has.1.1, is.request, row.is.few_nodes, length-map takes.request.nodes unended))
    by (inr (inr (inl finishes))) = subst IsJob (sym finishes.record_after) (over-is puts.kept (ending_of puts.kept) (job-there j puts.kept puts.stands))
    by (inr (inr (inr (withdraws, rest)))) =
        as-put j j (record puts.kept { ending = Some Ending.Withdrawn; phase = Phase.Over }) later at withdraws.puts (over-is puts.kept Ending.Withdrawn (job-there j puts.kept puts.stands))

  jobs-by : (change : JobsChange) → ch.jobs ≡ change → JobsPremise c s ch change → AllByRecursion IsJob (jobs_changed change s.jobs)
  jobs-by JobsChange.Same at premise = known.carried.spelled.jobs
  jobs-by (JobsChange.Put j later) at premise = all-set IsJob s.jobs j.0 later (put-is j later at premise) known.carried.spelled.jobs
  jobs-by (JobsChange.EndNode j n) at premise = all-change_at IsJob j.0 (with_mark n) s.jobs (marked-is n) known.carried.spelled.jobs

-- # each node has a spelling after an accepted event

-- each of the rows has a record with a spelling
abbrev pub AreNodes : List NodeEntry → Type 0
AreNodes rows = AllByRecursion (λ e. IsNode e.kept) rows

-- ## one record

-- a record keeps its spelling with another owner
pub granted-is : (k : NodeRecord) (to : Option RequestId) (tenant : Option TenantId) → IsNode k → IfSome to HasText → IfSome tenant (λ t. t.0 < 2 ^ 16) → IsNode (record k { allocated_to = to; tenant = tenant })
granted-is k to tenant is text low = assumption

-- and with another state, other counts and another server
worked-is : (k : NodeRecord) (attempts : ℕ) (in_flight : Bool) (server : Option ℕ) (since start : ℕ) (state : NodeState) → IsNode k → attempts < 2 ^ 8 → IfSome server (λ x. x < 2 ^ 64) → since < 2 ^ 32 → start < 2 ^ 32 →
    IsNode (record k { attempts = attempts; in_flight = in_flight; server = server; since = since; start = start; state = state })
worked-is k attempts in_flight server since start state is few_attempts low_server low_since low_start = assumption

freed-is : (k : NodeRecord) → IsNode k → IsNode (freed k)
freed-is k is = granted-is k None None is tt tt

-- one that is freed keeps it too
pub freed_from-is : (r : RequestId) (e : NodeEntry) → IsNode e.kept → IsNode (freed_from r e).kept
freed_from-is r e is = by_bool (λ (b : Bool). IsNode (cond b (record e { kept = freed e.kept }) e).kept) (is_request r e.kept.allocated_to) (λ _. freed-is e.kept is) (λ _. is)

-- and one that is in use
pub in_use-is : (tick : ℕ) (e : NodeEntry) → tick < 2 ^ 32 → IsNode e.kept → IsNode (in_use tick e).kept
in_use-is tick e low is = assumption

all-in_use : (tick : ℕ) (numbers : List NodeId) (rows : List NodeEntry) → tick < 2 ^ 32 → AreNodes rows → AreNodes (all_in_use tick numbers rows)
all-in_use tick [] rows low all = all
all-in_use tick (n ∷ numbers) rows low all =
    all-in_use tick numbers (change_first (λ e. e.id.0 == n.0) (in_use tick) rows) low
    (all-change_first (λ (e : NodeEntry). IsNode e.kept) (λ e. e.id.0 == n.0) (in_use tick) rows (λ e is. in_use-is tick e low is) all)

since-low : (tick : ℕ) (k : NodeRecord) (o : Outcome) → tick < 2 ^ 32 → k.since < 2 ^ 32 → since_after_launch tick k o < 2 ^ 32
since-low tick k o low old = grind arith

module _ (c : Configuration) (s : State) (ch : Changes) (known : IsKnown c s ch) where
  tick-low : s.tick < 2 ^ 32
  tick-low = let few = known.fits.tick in omega arith

  -- ## what grows

  -- a node that grows has a spelling
  pub new-node : (kept : NodeRecord) → ch.grows ≡ Growth.Node kept → (r : RequestId) (n : NodeId) (gains : Gains c s ch r n) → IsTaken c s ch gains.pool r gains.request gains.label n ⊎ IsMade c s ch gains.pool r gains.request gains.label n → IsNode kept
  new-node kept is r n gains (inl taken) = let other : Growth.Node kept ≡ Growth.Allocate n r (tenant_of_request c gains.request) = sym is ∙ taken.grows in absurd cc
  new-node kept is r n gains (inr made) =
      let both : Growth.Node kept ≡ Growth.Node (new_node c s r gains.pool gains.request gains.label) = sym is ∙ made.grows in
      let same : kept ≡ new_node c s r gains.pool gains.request gains.label = cc in
      let row : RequestRow c r gains.request = request-row c s known.fits known.carried r gains.request gains.worked_on.stands in
      subst IsNode (sym same) (search (
        arith,
        row.text,
        all-at IsLabel gains.request.labels (length gains.request.nodes) gains.label row.is.labels gains.next,
        pool-low c gains.pool known.sound (worker-low c s ch gains.pool r gains.request known gains.worked_on),
        tick-low,
        tenant-low c known.sound gains.request.job,
      ))

  -- the number of the tenant that a node is allocated for fits its type
  pub allocated-tenant : (n : NodeId) (r : RequestId) (tenant : Option TenantId) → ch.grows ≡ Growth.Allocate n r tenant → (gains : Gains c s ch r n) → IsTaken c s ch gains.pool r gains.request gains.label n ⊎ IsMade c s ch gains.pool r gains.request gains.label n → IfSome tenant (λ t. t.0 < 2 ^ 16)
  allocated-tenant n r tenant is gains (inl taken) =
      let both : Growth.Allocate n r tenant ≡ Growth.Allocate n r (tenant_of_request c gains.request) = sym is ∙ taken.grows in
      let same : tenant ≡ tenant_of_request c gains.request = cc in
      subst (λ (o : Option TenantId). IfSome o (λ t. t.0 < 2 ^ 16)) (sym same) (tenant-low c known.sound gains.request.job)
  allocated-tenant n r tenant is gains (inr made) = let other : Growth.Allocate n r tenant ≡ Growth.Node (new_node c s r gains.pool gains.request gains.label) = sym is ∙ made.grows in absurd cc

  nodes-grown : (maker : Option Maker) (growth : Growth) → ch.grows ≡ growth → GrowthPremise c s ch growth → AreNodes (grown c maker growth s).nodes
  nodes-grown maker (Growth.Node kept) is premise = all-push (λ (e : NodeEntry). IsNode e.kept) s.nodes _ known.carried.spelled.nodes (new-node kept is premise.request _ premise.gains premise.gains.from)
  nodes-grown (Some m) (Growth.JoinNode n) is premise = queue-keeps IsNode (λ e. e.id.0 == n.0) _ s.nodes known.carried.spelled.nodes
  nodes-grown (Some m) (Growth.Allocate n r tenant) is premise =
      all-change_first (λ (e : NodeEntry). IsNode e.kept) (λ e. e.id.0 == n.0) (allocated r tenant m.session) s.nodes
      (λ e kept.
      let row : RequestRow c r premise.request = request-row c s known.fits known.carried r premise.request premise.worked_on.stands in
      granted-is e.kept (Some r) tenant kept row.text (allocated-tenant n r tenant is premise premise.from)) known.carried.spelled.nodes
  nodes-grown None _ is premise = known.carried.spelled.nodes
  nodes-grown (Some m) _ is premise = known.carried.spelled.nodes

  -- ## a record that is put

  put-by : (n : NodeId) (k kept : NodeRecord) → NodeRow c s n k → IsTypedNodes (NodesChange.Put n kept) → Starts s ch k kept ⊎ (Reports c s ch k kept ⊎ (EndsNode s ch n k kept ⊎ (GivesUp s ch k kept ⊎ Frees s ch k kept))) → IsNode kept
  put-by n k kept row typed (inl starts) =
      let few = row.attempts starts.idle in
      let start : kept.start ≡ starts.start = ap (λ (x : NodeRecord). x.start) starts.record_after in
      subst IsNode (sym starts.record_after)
      (worked-is k (k.attempts + 1) true k.server k.since starts.start k.state row.is (omega arith) row.is.server row.is.since (subst (λ (x : ℕ). x < 2 ^ 32) start typed.0))
  put-by n k kept row typed (inr (inl reports)) =
      let later : NodeRecord = launched (retries_of c k.pool) s.tick reports.outcome k in
      subst IsNode (sym reports.record_after)
      (worked-is k k.attempts false later.server later.since k.start later.state row.is row.is.attempts
      (subst (λ (x : NodeRecord). IfSome x.server (λ server. server < 2 ^ 64)) reports.record_after typed.1) (since-low s.tick k reports.outcome tick-low row.is.since) row.is.start)
  put-by n k kept row typed (inr (inr (inl ends))) =
      subst IsNode (sym ends.record_after) (worked-is k k.attempts k.in_flight k.server s.tick k.start (ended_as ends.as_what) row.is row.is.attempts row.is.server tick-low row.is.start)
  put-by n k kept row typed (inr (inr (inr (inl gives)))) =
      subst IsNode (sym gives.record_after) (worked-is k k.attempts false k.server k.since k.start NodeState.Deleting row.is row.is.attempts row.is.server row.is.since row.is.start)
  put-by n k kept row typed (inr (inr (inr (inr frees)))) = subst IsNode (sym frees.record_after) (freed-is k row.is)

  -- ## all changes

  nodes-by : (tick : ℕ) (change : NodesChange) (rows : List NodeEntry) → tick < 2 ^ 32 → NodesPremise c s ch change → IsTypedNodes change → AreNodes rows → AreNodes (nodes_changed ch.maker tick change rows)
  nodes-by tick NodesChange.Same rows low premise typed all = all
  nodes-by tick (NodesChange.Put n kept) rows low premise typed all =
      all-change_first (λ (e : NodeEntry). IsNode e.kept) (λ e. e.id.0 == n.0) (λ e. record e { kept = kept }) rows (λ e is. put-by n premise.node kept (node-row c s known.fits known.invariant known.carried n premise.node premise.held.stands) typed premise.way) all
  nodes-by tick (NodesChange.Remove n) rows low premise typed all = all-remove_first (λ (e : NodeEntry). IsNode e.kept) (λ e. e.id.0 == n.0) rows all
  nodes-by tick (NodesChange.Leave n) rows low premise typed all = by_maker-keeps AreNodes _ ch.maker rows (λ session old is. queue-keeps IsNode (λ e. e.id.0 == n.0) _ old is) all
  nodes-by tick (NodesChange.FreeAll r) rows low premise typed all = all-mapped (λ (e : NodeEntry). IsNode e.kept) (λ (e : NodeEntry). IsNode e.kept) (freed_from r) rows (freed_from-is r) all
  nodes-by tick (NodesChange.TakeOver numbers) rows low premise typed all = all-in_use tick numbers rows low all

  -- the end of a session changes no record
  nodes-end : (change : SessionsChange) (rows : List NodeEntry) → AreNodes rows → AreNodes (nodes_left change rows)
  nodes-end (SessionsChange.End session) rows all = all-mapped (λ (e : NodeEntry). IsNode e.kept) (λ (e : NodeEntry). IsNode e.kept) (node_left session) rows (λ e is. is) all
  nodes-end _ rows all = all

  -- each node has a spelling after the changes, whether or not a session ends
  pub nodes-spelled : (change : SessionsChange) → AreNodes (nodes_left change (nodes_changed ch.maker (grown c ch.maker ch.grows s).tick ch.nodes (grown c ch.maker ch.grows s).nodes))
  nodes-spelled change =
      nodes-end change (nodes_changed ch.maker (grown c ch.maker ch.grows s).tick ch.nodes (grown c ch.maker ch.grows s).nodes)
      (nodes-by (grown c ch.maker ch.grows s).tick ch.nodes (grown c ch.maker ch.grows s).nodes (subst (λ (x : ℕ). x < 2 ^ 32) (sym (same-tick c ch.maker ch.grows s)) tick-low) known.premises.nodes known.typed.nodes
      (nodes-grown ch.maker ch.grows refl known.premises.grows))

-- # each request has a spelling after an accepted event

-- each of the rows has a record with a spelling
abbrev pub AreRequests : List RequestEntry → Type 0
AreRequests rows = AllByRecursion (λ e. IsRequest e.kept) rows

-- a record keeps its spelling with another state and pool
state-is : (k : RequestRecord) (s : RequestState) (pool : Option PoolId) → IsRequest k → IsServed s pool → IsRequest (record k { state = s; pool = pool })
state-is k s pool is served = assumption

-- ## the pool that serves a request

fulfilled-served : (p : PoolId) (s : RequestState) (pool : Option PoolId) → (is_pending s && is_pool p pool) ≡ true → IsServed s pool → IsServed RequestState.Fulfilled pool
fulfilled-served p s pool is served = grind arith

failed-served : (s : RequestState) (pool : Option PoolId) → is_requested s ≡ true → IsServed s pool → IsServed RequestState.Failed pool
failed-served s pool is served = grind arith

declined-served : (failed : Bool) → IsServed (cond failed RequestState.Failed RequestState.Requested) None
declined-served failed = grind arith

module _ (c : Configuration) (s : State) (ch : Changes) (known : IsKnown c s ch) where
  -- ## what grows

  -- a request that grows has a spelling: what a job asks for, and what a launcher asks for to keep it ready
  pub new-request : (priority : ℕ) (asked : Asked) → AsksForJob c s ch priority asked ⊎ AsksToKeep c s ch priority asked → IsRequest (new_record asked)
  new-request priority asked (inl asks) =
      let row : JobRow c asks.job = job-row c known.sound asks.number asks.job asks.row in
      let low = job-low c asks.number known.sound (slice_get_within c.jobs asks.number.0 asks.job asks.row) in
      subst (λ (a : Asked). IsRequest (new_record a)) (sym asks.asks) (search (arith, row.few, row.labels, row.relative, low))
  new-request priority asked (inr asks) =
      let low = pool-low c asks.pool known.sound (launcher-low c s ch.maker asks.session asks.pool known.fits known.premises.maker asks.made_by) in
      subst (λ (a : Asked). IsRequest (new_record a)) (sym asks.asks) (search (arith, low, label-low c known.sound asks.pool asks.label asks.offered))

  requests-grown : (maker : Option Maker) (growth : Growth) → GrowthPremise c s ch growth → AreRequests (grown c maker growth s).requests
  requests-grown maker (Growth.Request priority asked) premise =
      all-insert_before (λ (e : RequestEntry). IsRequest e.kept) (λ e. is_id_before (next_id priority s) e.id) (record { id = next_id priority s; kept = new_record asked; queue = [] }) s.requests
      (new-request priority asked premise) known.carried.spelled.requests
  requests-grown (Some m) (Growth.JoinRequest r) premise = queue-keeps IsRequest (λ e. same_request e.id r) _ s.requests known.carried.spelled.requests
  requests-grown None _ premise = known.carried.spelled.requests
  requests-grown (Some m) _ premise = known.carried.spelled.requests

  -- ## an edit

  -- what is known of a request that is found
  found-row : (r : RequestId) (k : RequestRecord) → request_in r s.requests ≡ Some k → RequestRow c r k
  found-row r k there = request-row c s known.fits known.carried r k there

  -- one request is found
  as-found : (r : RequestId) (change : RequestEdit) (request k : RequestRecord) → request_in r s.requests ≡ Some request → request_in r s.requests ≡ Some k → IsRequest (edited change request) → IsRequest (edited change k)
  as-found r change request k one other is = let same : request ≡ k = cc in subst (λ (x : RequestRecord). IsRequest (edited change x)) same is

  edited-is : (r : RequestId) (change : RequestEdit) → EditPremise c s ch r change → IsTypedEdit change → (k : RequestRecord) → request_in r s.requests ≡ Some k → IsRequest (edited change k)
  edited-is r (RequestEdit.Serve p) premise typed k there = state-is k RequestState.Pending (Some p) (found-row r k there).is (pool-low c p known.sound (worker-low c s ch p r premise.request known premise.worked_on))
  edited-is r (RequestEdit.AddNode n) premise typed k there =
      let gains = premise.0 in
      let old : RequestRecord = gains.request in
      let row : RequestRow c r old = found-row r old gains.worked_on.stands in
      let few : length (old.nodes ++ n ∷ []) ≤ JOB_LABELS = simp length-append (omega (arith, row.labels, slice_get_within old.labels (length old.nodes) gains.label gains.next)) in
      as-found r (RequestEdit.AddNode n) old k gains.worked_on.stands there (assumption (row.is, all-push IsNodeId old.nodes n row.is.nodes (gained-number c s ch gains.pool r old gains.label n known gains.from)))
  edited-is r (RequestEdit.Decline p why failed) may typed k there =
      let old : RequestRecord = may.request in
      let row : RequestRow c r old = found-row r old may.worked_on.stands in
      let low : p.0 < length c.pools = worker-low c s ch p r old known may.worked_on in
      let declined : Declined = record { pool = p; reason = why } in
      let few : length (old.declined ++ declined ∷ []) ≤ POOLS = simp length-append (omega (arith, row.declined p low may.undeclined)) in
      let all = all-push IsDeclined old.declined declined row.is.declined (record { pool = pool-low c p known.sound low; reason = typed }) in
      as-found r (RequestEdit.Decline p why failed) old k may.worked_on.stands there (search (arith, row.is, declined-served failed))
  edited-is r RequestEdit.Fulfil premise typed k there =
      let may = premise.0 in
      let is = (found-row r may.request may.worked_on.stands).is in
      as-found r RequestEdit.Fulfil may.request k may.worked_on.stands there (state-is may.request RequestState.Fulfilled may.request.pool is (fulfilled-served may.pool may.request.state may.request.pool may.pending is.served))
  edited-is r RequestEdit.GiveBack premise typed k there = search (arith, (found-row r k there).is)
  edited-is r RequestEdit.Fail premise typed k there =
      let old : RequestRecord = premise.request in
      let is = (found-row r old premise.stands).is in
      as-found r RequestEdit.Fail old k premise.stands there (state-is old RequestState.Failed old.pool is (failed-served old.state old.pool premise.requested is.served))
  edited-is r (RequestEdit.Revise relative) premise typed k there = assumption (typed, (found-row r k there).is)

  -- ## all changes

  requests-by : (change : RequestsChange) → RequestsPremise c s ch change → IsTypedRequests change → AreRequests (grown c ch.maker ch.grows s).requests → AreRequests (requests_changed ch.maker change (grown c ch.maker ch.grows s).requests)
  requests-by RequestsChange.Same premise typed all = all
  requests-by (RequestsChange.Edit r change) premise typed all =
      subst (λ (rows : List RequestEntry). AreRequests (requests_changed ch.maker (RequestsChange.Edit r change) rows)) (sym (same-requests c ch.maker ch.grows s (edit-leaves c s ch r change premise)))
      (all-change_found (λ (e : RequestEntry). IsRequest e.kept) (λ e. same_request e.id r) (λ e. record e { kept = edited change e.kept }) s.requests
      (λ e found. edited-is r change premise typed e.kept (ap (λ (o : Option RequestEntry). option_map (λ x. x.kept) o) found)) known.carried.spelled.requests)
  requests-by (RequestsChange.Remove r) premise typed all = all-remove_first (λ (e : RequestEntry). IsRequest e.kept) (λ e. same_request e.id r) (grown c ch.maker ch.grows s).requests all
  requests-by (RequestsChange.Leave r) premise typed all = by_maker-keeps AreRequests _ ch.maker (grown c ch.maker ch.grows s).requests (λ session old is. queue-keeps IsRequest (λ e. same_request e.id r) _ old is) all

  -- the end of a session changes no record
  requests-end : (change : SessionsChange) (rows : List RequestEntry) → AreRequests rows → AreRequests (requests_left change rows)
  requests-end (SessionsChange.End session) rows all = all-mapped (λ (e : RequestEntry). IsRequest e.kept) (λ (e : RequestEntry). IsRequest e.kept) (request_left session) rows (λ e is. is) all
  requests-end _ rows all = all

-- # each record has a spelling after an accepted event

-- ## roles

struck-is : (counted : Bool) (k : RoleRecord) → RoleFits k → IsRole (struck_unless counted k)
struck-is counted k fits = grind arith

-- the change of one record of a table, or of none
abbrev Keeps : ((RoleRecord → RoleRecord) → Role → List RoleRecord → List RoleRecord) → Type 0
Keeps change = (f : RoleRecord → RoleRecord) (r : Role) (rows : List RoleRecord) → ((k : RoleRecord) → RoleFits k → IsRole (f k)) → AllByRecursion RoleFits rows → AllByRecursion IsRole rows → AllByRecursion IsRole (change f r rows)

one-changed : (i : ℕ) (f : RoleRecord → RoleRecord) (rows : List RoleRecord) → ((k : RoleRecord) → RoleFits k → IsRole (f k)) → AllByRecursion RoleFits rows → AllByRecursion IsRole (change_at i f rows)
one-changed i f rows each all = all-change_at_to RoleFits IsRole (λ k fits. omega (arith, fits.acts, fits.starts, fits.strikes)) i f rows each all

launchers-keep : Keeps change_launcher
launchers-keep f (Role.Launcher p) rows each fits all = one-changed p.0 f rows each fits
launchers-keep f _ rows each fits all = all

janitors-keep : Keeps change_janitor
janitors-keep f (Role.Janitor p) rows each fits all = one-changed p.0 f rows each fits
janitors-keep f _ rows each fits all = all

requesters-keep : Keeps change_requester
requesters-keep f (Role.Requester q) rows each fits all = one-changed q.0 f rows each fits
requesters-keep f _ rows each fits all = all

-- a deed counts one more act, start or strike
deed-is : (change : (RoleRecord → RoleRecord) → Role → List RoleRecord → List RoleRecord) → Keeps change → (maker : Option Maker) (what : Option Deed) (rows : List RoleRecord) → AllByRecursion RoleFits rows → AllByRecursion IsRole rows → AllByRecursion IsRole (with_deed change maker what rows)
deed-is change keeps maker None rows fits all = all
deed-is change keeps None (Some Deed.Acts) rows fits all = all
deed-is change keeps (Some m) (Some Deed.Acts) rows fits all = keeps one_more_act m.role rows (λ k low. omega (arith, low.acts, low.starts, low.strikes)) fits all
deed-is change keeps maker (Some (Deed.StartsAndActs p)) rows fits all = keeps (λ k. one_more_act (one_more_start k)) (Role.Launcher p) rows (λ k low. omega (arith, low.acts, low.starts, low.strikes)) fits all
deed-is change keeps maker (Some (Deed.Strikes r counted)) rows fits all = keeps (struck_unless counted) r rows (struck-is counted) fits all

-- ## sessions

-- each has a role that may have a session
abbrev AreSessions : List SessionFacts → Type 0
AreSessions rows = AllByRecursion (λ f. IsSessionRole f.role) rows

sessions-end : (change : SessionsChange) (rows : List SessionFacts) → AreSessions rows → AreSessions (sessions_changed change rows)
sessions-end SessionsChange.Same rows all = all
sessions-end (SessionsChange.Mute session) rows all = all-change_at (λ (f : SessionFacts). IsSessionRole f.role) (session.0 - 1) muted rows (λ f is. is) all
sessions-end (SessionsChange.End session) rows all = all-change_at (λ (f : SessionFacts). IsSessionRole f.role) (session.0 - 1) ended rows (λ f is. is) all

module _ (c : Configuration) (s : State) (ch : Changes) (known : IsKnown c s ch) where
  sessions-grown : (maker : Option Maker) (growth : Growth) → GrowthPremise c s ch growth → AreSessions (grown c maker growth s).sessions
  sessions-grown maker (Growth.Session r) premise = all-push (λ (f : SessionFacts). IsSessionRole f.role) s.sessions _ known.carried.spelled.sessions (role-low c r known.sound premise)
  sessions-grown None _ premise = known.carried.spelled.sessions
  sessions-grown (Some m) _ premise = known.carried.spelled.sessions

  -- ## all tables

  -- each record has a spelling after the changes, whatever happens to sessions
  pub all-spelled : (change : SessionsChange) → HasSpellings (changed c (record ch { sessions = change }) s)
  all-spelled change = record {
    requests = requests-end c s ch known change _ (requests-by c s ch known ch.requests known.premises.requests known.typed.requests (requests-grown c s ch known ch.maker ch.grows known.premises.grows));
    nodes = nodes-spelled c s ch known change;
    jobs = subst (λ (rows : List JobRecord). AllByRecursion IsJob (jobs_changed ch.jobs rows)) (sym (jobs-grown c ch.maker ch.grows s)) (jobs-by c s ch known ch.jobs refl known.premises.jobs);
    launchers = subst (λ (rows : List RoleRecord). AllByRecursion IsRole (with_deed change_launcher ch.maker ch.deed rows)) (sym (same-roles c ch.maker ch.grows s).0) (deed-is change_launcher launchers-keep ch.maker ch.deed s.launchers known.fits.launchers known.carried.spelled.launchers);
    janitors = subst (λ (rows : List RoleRecord). AllByRecursion IsRole (with_deed change_janitor ch.maker ch.deed rows)) (sym (same-roles c ch.maker ch.grows s).1.0) (deed-is change_janitor janitors-keep ch.maker ch.deed s.janitors known.fits.janitors known.carried.spelled.janitors);
    requesters = subst (λ (rows : List RoleRecord). AllByRecursion IsRole (with_deed change_requester ch.maker ch.deed rows)) (sym (same-roles c ch.maker ch.grows s).1.1) (deed-is change_requester requesters-keep ch.maker ch.deed s.requesters known.fits.requesters known.carried.spelled.requesters);
    sessions = sessions-end change (grown c ch.maker ch.grows s).sessions (sessions-grown ch.maker ch.grows known.premises.grows);
  }

-- what is known of the changes of an accepted event
pub known-accepted : (c : Configuration) (s : State) (e : Event) → IsAccepted c s e → IsKnown c s (plan c s e)
known-accepted c s e is = assumption (is, premises c s e is.accepted)

-- each record has a spelling after the call
pub records-are-spelled : RecordsAreSpelled
records-are-spelled c s e is = all-spelled c s (plan c s e) (known-accepted c s e is) (in_call (plan c s e).sessions)
