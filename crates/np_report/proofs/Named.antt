-- what a state of a run names, within the ranges that a line has for it
use Rattle.np_report.proofs.Prelude.{All, All-head, All-tail, AllByRecursion, Amount, AmountFits, Answer, Asked, AsksForJob, AsksToKeep, Bool, Changes, Check, Configuration, Done, EachAfter, Err, Event, Gains, Growth, GrowthPremise, HasReplyLine, HasText, IfSome, Invariant, IsFew, IsFitSite, IsJob, IsLauncher, IsLive, IsLiveQueue, IsOffer, IsPool, IsSound, IsTaken, IsWanted, Job, JobId, JobRecord, JobsChange, LabelId, List, Maker, NodeEntry, NodeId, NodeRecord, NodesChange, NodesPremise, None, Offer, Ok, Option, Pool, PoolId, Premises, PutsNode, Refusal, Registration, RequestEdit, RequestEntry, RequestId, RequestRecord, RequestShape, RequestsChange, Result, SemId, SessionFacts, SessionId, SessionsChange, Shaped, Some, StandsByOwner, State, TenantId, ahead_of, all-at, all-change_first, all-filter, all-find, all-from_at, all-insert_before, all-mapped, all-push, all-remove_first, all-weaker, all_in_use, allocated, amount_of, amount_of_all, amount_of_node, ap, arith, at_place, by_bool, change_first, changed, comes_before, cond, count_by-le-length, count_of, count_of_tenant, drop, due_tick, earlier, edited, false, filter, find, find-passes, first_full, first_of, first_unoffered, fold, found, freed_from, from-map_some, grown, has_digits, has_handle, holder, in_use, inl, inr, is_candidate, is_coming, is_free_ready, is_id_before, is_offered, is_ok, is_pending_of, is_some, is_tenant, is_told, is_told_done, is_told_refusal, jobs-grown, jobs_changed, joined, judge, least, left, length, length-change_at, length-drop, length-map, length-set, map, missing_handles, nat_tests, need, new_record, next, next_id, next_label, node-queue, node_entry, node_holder, node_in, node_left, node_queue, nodes_changed, nodes_left, not, nothing, option_map_or, plan, plan-next, premises, ready_count, refl, registered, reply_of, request_entry, request_holder, request_in, request_left, request_queue, requests_changed, requests_left, rest_of_request, rows-few, same_request, session_of, slice_get, slice_get_within, start, subst, suc, total, true, unfilled, vacant, zero, ℕ, [], ◌*◌, ◌++◌, ◌+◌, ◌-◌, ◌<◌, ◌==◌, ◌>>=◌, ◌>>◌, ◌^◌, ◌∙◌, ◌∷◌, ◌≡◌, ◌≤◌, ◌⊎◌}
use Rattle.np_text.specs.declared.word.Ending.{Ending}
use Rattle.np_event.specs.declared.reply.Reply.{Reply}

-- # tests one after another: a line can say their answer

-- ## ranges

-- a line can say it
abbrev pub DoneInRange : Done → Type 0
DoneInRange what = HasReplyLine (Reply.Done what)

-- a line can say it, and the journal had room
abbrev pub RefusalInRange : Refusal → Type 0
RefusalInRange Refusal.Full = ⊥
RefusalInRange other = HasReplyLine (Reply.Refused other)

-- the result meets the condition, or is a refusal whose numbers are within their ranges
abbrev pub Says : {A : Type 0} → (A → Type 0) → Result A Refusal → Type 0
Says D (Ok a) = D a
Says D (Err why) = RefusalInRange why

-- the numbers of any refusal are within their ranges
abbrev pub Refuses : {A : Type 0} → Result A Refusal → Type 0
Refuses o = Says (λ _. Unit {0}) o

-- ## one test, and then the rest

pub says-found : {A B : Type 0} (D : B → Type 0) (o : Result A Refusal) (rest : A → Result B Refusal) → Refuses o → ((a : A) → o ≡ Ok a → Says D (rest a)) → Says D (o >>= rest)
says-found D (Ok a) rest refuses each = each a refl
says-found D (Err why) rest refuses each = refuses

pub says-then : {B : Type 0} (D : B → Type 0) (o : Check) (rest : Result B Refusal) → Refuses o → (o ≡ Ok tt → Says D rest) → Says D (o >> rest)
says-then D (Ok u) rest refuses later = later refl
says-then D (Err why) rest refuses later = refuses

pub refuses-need : (b : Bool) (why : Refusal) → RefusalInRange why → Refuses (need b why)
refuses-need true why is = tt
refuses-need false why is = is

pub refuses-found : {A : Type 0} (o : Option A) (why : Refusal) → RefusalInRange why → Refuses (found o why)
refuses-found None why is = is
refuses-found (Some a) why is = tt

pub refuses-vacant : {A : Type 0} (o : Option A) (why : A → Refusal) → ((a : A) → o ≡ Some a → RefusalInRange (why a)) → Refuses (vacant o why)
refuses-vacant None why each = tt
refuses-vacant (Some a) why each = each a refl

-- ## lines

pub text-of : (r : RequestId) → has_digits r ≡ true → r.seq < 2 ^ 32 → HasText r
text-of r digits below = record { least = grind (arith, nat_tests); most = grind (arith, nat_tests); sequence = below }

digits-of : (r : RequestId) → HasText r → has_digits r ≡ true
digits-of r has = grind (arith, nat_tests, has.least, has.most)

done-told : (what : Done) → DoneInRange what → is_told_done what ≡ true
done-told (Done.Request r) is = digits-of r is.0
done-told (Done.Ended Ending.Withdrawn) is = absurd (is.0 refl)
done-told _ is = refl

refusal-told : (why : Refusal) → RefusalInRange why → is_told_refusal why ≡ true
refusal-told (Refusal.NotFirst r) is = digits-of r is.0
refusal-told (Refusal.Allocated r) is = digits-of r is.0
refusal-told Refusal.Full is = absurd is
refusal-told _ is = refl

refusal-line : (why : Refusal) → RefusalInRange why → HasReplyLine (Reply.Refused why)
refusal-line Refusal.Full is = absurd is
refusal-line _ is = is

-- an answer within the ranges has a line, and can be told
pub answer-line : (a : Answer) → Says DoneInRange a → HasReplyLine (reply_of a) × (is_told (reply_of a) ≡ true)
answer-line (Ok what) is = (is, done-told what is)
answer-line (Err why) is = (refusal-line why is, refusal-told why is)

-- # what a state of a run names: requests with priorities of three digits and with labels that a line can say, and a record for each job

-- a line can say each of the labels
abbrev pub LabelsInRange : List LabelId → Type 0
LabelsInRange labels = AllByRecursion (λ l. l.0 < 2 ^ 16) labels

-- a line can say the request and each label that it asks for
abbrev pub IsSayable : RequestEntry → Type 0
IsSayable e = (has_digits e.id ≡ true) × LabelsInRange e.kept.labels

-- an allocation is to such a request
abbrev pub allocation_has_digits : Option RequestId → Bool
allocation_has_digits None = true
allocation_has_digits (Some r) = has_digits r

abbrev pub AllocationHasDigits : NodeEntry → Type 0
AllocationHasDigits e = allocation_has_digits e.kept.allocated_to ≡ true

pub record HasIds (c : Configuration) (s : State) : Type 0 where
  pub requests : AllByRecursion IsSayable s.requests
  pub nodes : AllByRecursion AllocationHasDigits s.nodes
  pub jobs : length s.jobs ≡ length c.jobs

-- ## the configuration's jobs and labels

wanted_all : (many : ℕ) (labels : List LabelId) → many ≤ 256 → All (IsWanted many) labels → LabelsInRange labels
wanted_all many [] few all = tt
wanted_all many (l ∷ labels) few all =
    let first : l.0 < many = All-head (IsWanted many) l labels all in
    (omega arith, wanted_all many labels few (All-tail (IsWanted many) l labels all))

taken_all : (many : ℕ) (earlier semaphores : List SemId) → many ≤ 64 → EachAfter (IsTaken many) earlier semaphores → AllByRecursion (λ x. x.0 < 2 ^ 16) semaphores
taken_all many earlier [] few each = tt
taken_all many earlier (x ∷ semaphores) few each =
    let below : x.0 < many = each.0.semaphore in
    (omega arith, taken_all many (earlier ++ x ∷ []) semaphores few each.1)

module _ (c : Configuration) (sound : IsSound c) (at : ℕ) (job : Job) (row : slice_get c.jobs at ≡ Some job) where
  abbrev Stands : List Job → Job → Type 0
  Stands = StandsByOwner (λ (j : Job). j.requester.0) (IsJob (length c.labels) (length c.semaphores) (length c.tenants))

  of_job : (P : Job → Type 0) → ((e : List Job) (j : Job) → Stands e j → P j) → P job
  of_job P says = at_place Stands P says [] c.jobs at job sound.demand.each_job row

  pub job-digits : (n : ℕ) → has_digits (record { priority = job.priority; seq = n }) ≡ true
  job-digits n = of_job (λ (j : Job). has_digits (record { priority = j.priority; seq = n }) ≡ true) (λ e j is. let p = is.own.priority in grind (arith, nat_tests))

  job-labels : LabelsInRange job.labels
  job-labels = let few = sound.few_labels in of_job (λ (j : Job). LabelsInRange j.labels) (λ e j is. wanted_all (length c.labels) j.labels (omega arith) is.own.wanted)

  pub job-semaphores : AllByRecursion (λ x. x.0 < 2 ^ 16) job.semaphores
  job-semaphores = let few = sound.few_semaphores in of_job (λ (j : Job). AllByRecursion (λ x. x.0 < 2 ^ 16) j.semaphores) (λ e j is. taken_all (length c.semaphores) [] j.semaphores (omega arith) is.own.taken)

offer_label_in : (labels l : ℕ) (earlier offers : List Offer) → EachAfter (IsOffer labels) earlier offers → is_some (find (λ o. o.label.0 == l) offers) ≡ true → l < labels
offer_label_in labels l earlier [] each is = absurd cc
offer_label_in labels l earlier (o ∷ offers) each is = grind (arith, nat_tests, each.0.label, offer_label_in labels l (earlier ++ o ∷ []) offers each.1)

pool_label_in : (labels l : ℕ) (earlier pools : List Pool) → EachAfter (StandsByOwner (λ (p : Pool). p.provider) (IsPool labels)) earlier pools → (at : ℕ) →
    is_some (find (λ o. o.label.0 == l) (option_map_or (λ pool. pool.offers) (slice_get pools at) [])) ≡ true → l < labels
pool_label_in labels l earlier [] each at is = absurd cc
pool_label_in labels l earlier (p ∷ pools) each zero is = offer_label_in labels l [] p.offers each.0.own.offers is
pool_label_in labels l earlier (p ∷ pools) each (suc at) is = pool_label_in labels l (earlier ++ p ∷ []) pools each.1 at is

-- a label that a pool offers
offered-label : (c : Configuration) (p : PoolId) (l : LabelId) → IsSound c → is_offered c p l ≡ true → l.0 < 2 ^ 16
offered-label c p l sound is =
    let few = sound.few_labels in
    let below : l.0 < length c.labels = pool_label_in (length c.labels) l.0 [] c.pools sound.supply.each_pool p.0 is in
    omega arith

-- ## what is found

-- a request that exists has such an id
pub request-digits : (r : RequestId) (rows : List RequestEntry) (request : RequestRecord) → AllByRecursion IsSayable rows → request_in r rows ≡ Some request → has_digits r ≡ true
request-digits r rows request all is =
    let at = from-map_some (λ (e : RequestEntry). e.kept) (request_entry r rows) request is in
    let same = find-passes (λ (x : RequestEntry). same_request x.id r) rows at.0 at.1 in
    let digits = (all-find IsSayable (λ x. same_request x.id r) rows at.0 all at.1).0 in
    grind (arith, nat_tests)

-- a node that exists is allocated to such a request, or to none
pub node-digits : (n : NodeId) (rows : List NodeEntry) (k : NodeRecord) → AllByRecursion AllocationHasDigits rows → node_in n rows ≡ Some k → allocation_has_digits k.allocated_to ≡ true
node-digits n rows k all is =
    let at = from-map_some (λ (e : NodeEntry). e.kept) (find (λ e. e.id.0 == n.0) rows) k is in
    subst (λ (x : NodeRecord). allocation_has_digits x.allocated_to ≡ true) at.2 (all-find AllocationHasDigits (λ x. x.id.0 == n.0) rows at.0 all at.1)

-- ## a change

all_in_use-digits : (tick : ℕ) (numbers : List NodeId) (rows : List NodeEntry) → AllByRecursion AllocationHasDigits rows → AllByRecursion AllocationHasDigits (all_in_use tick numbers rows)
all_in_use-digits tick [] rows all = all
all_in_use-digits tick (n ∷ numbers) rows all =
    all_in_use-digits tick numbers (change_first (λ e. e.id.0 == n.0) (in_use tick) rows) (all-change_first AllocationHasDigits (λ e. e.id.0 == n.0) (in_use tick) rows (λ e is. is) all)

freed-digits : (e : NodeEntry) (r : RequestId) → AllocationHasDigits e → AllocationHasDigits (freed_from r e)
freed-digits e r is = grind arith

edited_in : (e : RequestEdit) (q : RequestRecord) → LabelsInRange q.labels → LabelsInRange (edited e q).labels
edited_in RequestEdit.Fulfil q is = is
edited_in _ q is = is

length-jobs : (change : JobsChange) (rows : List JobRecord) → length (jobs_changed change rows) ≡ length rows
length-jobs JobsChange.Same rows = refl
length-jobs (JobsChange.Put j kept) rows = length-set rows j.0 kept
length-jobs (JobsChange.EndNode j n) rows = length-change_at j.0 _ rows

requests-changed : (maker : Option Maker) (change : RequestsChange) (rows : List RequestEntry) → AllByRecursion IsSayable rows → AllByRecursion IsSayable (requests_changed maker change rows)
requests-changed maker (RequestsChange.Edit r e) rows old = all-change_first IsSayable (λ x. same_request x.id r) (λ x. record x { kept = edited e x.kept }) rows (λ x is. (is.0, edited_in e x.kept is.1)) old
requests-changed maker (RequestsChange.Remove r) rows old = all-remove_first IsSayable (λ e. same_request e.id r) rows old
requests-changed (Some maker) (RequestsChange.Leave r) rows old =
    all-change_first IsSayable (λ e. same_request e.id r) (λ e. record e { queue = left maker.session (request_queue r rows) }) rows (λ e is. is) old
requests-changed None (RequestsChange.Leave r) rows old = old
requests-changed maker RequestsChange.Same rows old = old

requests-left : (change : SessionsChange) (rows : List RequestEntry) → AllByRecursion IsSayable rows → AllByRecursion IsSayable (requests_left change rows)
requests-left (SessionsChange.End over) rows old = all-mapped IsSayable IsSayable (request_left over) rows (λ e is. is) old
requests-left _ rows old = old

nodes-left : (change : SessionsChange) (rows : List NodeEntry) → AllByRecursion AllocationHasDigits rows → AllByRecursion AllocationHasDigits (nodes_left change rows)
nodes-left (SessionsChange.End over) rows old = all-mapped AllocationHasDigits AllocationHasDigits (node_left over) rows (λ e is. is) old
nodes-left _ rows old = old

module _ (c : Configuration) (s : State) (ch : Changes) (sound : IsSound c) (old : HasIds c s) where
  asked_in : (priority : ℕ) (asked : Asked) → AsksForJob c s ch priority asked ⊎ AsksToKeep c s ch priority asked → (has_digits (next_id priority s) ≡ true) × LabelsInRange (new_record asked).labels
  asked_in priority asked (inl asks) = rw (asks.of_job, asks.asks) (job-digits c sound asks.number.0 asks.job asks.row s.next_request, job-labels c sound asks.number.0 asks.job asks.row)
  asked_in priority asked (inr asks) = rw (asks.of_keeping, asks.asks) (refl, (offered-label c asks.pool asks.label sound asks.offered, tt))

  requests-grown : (maker : Option Maker) (g : Growth) → GrowthPremise c s ch g → AllByRecursion IsSayable (grown c maker g s).requests
  requests-grown maker (Growth.Request priority asked) premise =
      all-insert_before IsSayable (λ e. is_id_before (next_id priority s) e.id) (record { id = next_id priority s; kept = new_record asked; queue = [] }) s.requests (asked_in priority asked premise) old.requests
  requests-grown (Some maker) (Growth.JoinRequest r) premise =
      all-change_first IsSayable (λ e. same_request e.id r) (λ e. record e { queue = joined maker.session (request_queue r s.requests) }) s.requests (λ e is. is) old.requests
  requests-grown (Some maker) _ premise = old.requests
  requests-grown None _ premise = old.requests

  gains-digits : (r : RequestId) (n : NodeId) → Gains c s ch r n → has_digits r ≡ true
  gains-digits r n gains = request-digits r s.requests gains.request old.requests gains.worked_on.stands

  nodes-grown : (maker : Option Maker) (g : Growth) → ch.grows ≡ g → GrowthPremise c s ch g → AllByRecursion AllocationHasDigits (grown c maker g s).nodes
  nodes-grown maker (Growth.Node kept) at premise =
      let digits = gains-digits premise.request _ premise.gains in
      let gains = premise.gains in
      let given : kept.allocated_to ≡ Some premise.request = grind (arith, nat_tests) in
      all-push AllocationHasDigits s.nodes _ old.nodes (rw given digits)
  nodes-grown (Some maker) (Growth.JoinNode n) at premise =
      all-change_first AllocationHasDigits (λ e. e.id.0 == n.0) (λ e. record e { queue = joined maker.session (node_queue n s.nodes) }) s.nodes (λ e is. is) old.nodes
  nodes-grown (Some maker) (Growth.Allocate n r tenant) at premise =
      all-change_first AllocationHasDigits (λ e. e.id.0 == n.0) (allocated r tenant maker.session) s.nodes (λ e _. gains-digits r n premise) old.nodes
  nodes-grown (Some maker) _ at premise = old.nodes
  nodes-grown None _ at premise = old.nodes

  put-digits : (n : NodeId) (kept : NodeRecord) → PutsNode c s ch n kept → allocation_has_digits kept.allocated_to ≡ true
  put-digits n kept put =
      let was : allocation_has_digits put.node.allocated_to ≡ true = node-digits n s.nodes put.node old.nodes put.held.stands in
      grind (arith, nat_tests)

  nodes-changed : (maker : Option Maker) (tick : ℕ) (change : NodesChange) (rows : List NodeEntry) → NodesPremise c s ch change → AllByRecursion AllocationHasDigits rows → AllByRecursion AllocationHasDigits (nodes_changed maker tick change rows)
  nodes-changed maker tick NodesChange.Same rows premise is = is
  nodes-changed maker tick (NodesChange.Put n kept) rows premise is = all-change_first AllocationHasDigits (λ e. e.id.0 == n.0) (λ e. record e { kept = kept }) rows (λ e _. put-digits n kept premise) is
  nodes-changed maker tick (NodesChange.Remove n) rows premise is = all-remove_first AllocationHasDigits (λ e. e.id.0 == n.0) rows is
  nodes-changed None tick (NodesChange.Leave n) rows premise is = is
  nodes-changed (Some maker) tick (NodesChange.Leave n) rows premise is =
      all-change_first AllocationHasDigits (λ e. e.id.0 == n.0) (λ e. record e { queue = left maker.session (node_queue n rows) }) rows (λ e has. has) is
  nodes-changed maker tick (NodesChange.FreeAll r) rows premise is = all-mapped AllocationHasDigits AllocationHasDigits (freed_from r) rows (λ e has. freed-digits e r has) is
  nodes-changed maker tick (NodesChange.TakeOver numbers) rows premise is = all_in_use-digits tick numbers rows is

  ids-changed : Premises c s ch → HasIds c (changed c ch s)
  ids-changed given =
      let t : State = grown c ch.maker ch.grows s in
      record {
        requests = requests-left ch.sessions (requests_changed ch.maker ch.requests t.requests) (requests-changed ch.maker ch.requests t.requests (requests-grown ch.maker ch.grows given.grows));
        nodes = nodes-left ch.sessions (nodes_changed ch.maker t.tick ch.nodes t.nodes) (nodes-changed ch.maker t.tick ch.nodes t.nodes given.nodes (nodes-grown ch.maker ch.grows refl given.grows));
        jobs = length-jobs ch.jobs t.jobs ∙ ap (λ (rows : List JobRecord). length rows) (jobs-grown c ch.maker ch.grows s) ∙ old.jobs;
      }

pub HasIds-next : (c : Configuration) → IsSound c → (s : State) (e : Event) → HasIds c s → HasIds c (next c s e)
HasIds-next c sound s e old = by (is_ok (judge c s e)) refl where
  by : (b : Bool) → is_ok (judge c s e) ≡ b → HasIds c (next c s e)
  by true ok = subst (HasIds c) (plan-next c s e ok) (ids-changed c s (plan c s e) sound old (premises c s e ok))
  by false refused = rw refused old

pub HasIds-start : (c : Configuration) → HasIds c (start c)
HasIds-start c = record { requests = tt; nodes = tt; jobs = length-map c.jobs _ }

-- # what a pool and a tenant use is within the range that a line has for it

-- each part fits in 64 bits
pub record IsWide (a : Amount) : Type 0 where
  pub instances : a.instances < 2 ^ 64
  pub cores : a.cores < 2 ^ 64
  pub ram : a.ram < 2 ^ 64

-- what labels take together
few-all : (c : Configuration) (p : PoolId) → IsFitSite c → (labels : List LabelId) → IsFew (amount_of_all c p labels) (length labels)
few-all c p site [] = search arith
few-all c p site (l ∷ labels) =
    let one : AmountFits (amount_of c p l) = site.amounts p l in
    let rest : IsFew (amount_of_all c p labels) (length labels) = few-all c p site labels in
    search (arith, one.instances, rest.instances, one.cores, rest.cores, one.ram, rest.ram)

-- what a request still waits for
few-rest : (c : Configuration) (n next : ℕ) → IsFitSite c → (e : RequestEntry) → RequestShape c n next e → IsFew (rest_of_request c e) 32
few-rest c n next site e is = by e.kept.pool where
  by : (o : Option PoolId) → IsFew (option_map_or (λ p. amount_of_all c p (drop (length e.kept.nodes) e.kept.labels)) o nothing) 32
  by None = record { instances = omega arith; cores = omega arith; ram = omega arith }
  by (Some p) =
      let few : IsFew (amount_of_all c p (drop (length e.kept.nodes) e.kept.labels)) (length (drop (length e.kept.nodes) e.kept.labels)) = few-all c p site (drop (length e.kept.nodes) e.kept.labels) in
      let short : length (drop (length e.kept.nodes) e.kept.labels) ≤ 32 = omega (arith, length-drop (length e.kept.nodes) e.kept.labels, is.kept.labels) in
      record { instances = omega (arith, few.instances); cores = omega (arith, few.cores); ram = omega (arith, few.ram) }

few-node : (c : Configuration) → IsFitSite c → (p : PoolId) (l : LabelId) → IsFew (amount_of c p l) 32
few-node c site p l = let fits : AmountFits (amount_of c p l) = site.amounts p l in search (arith, fits.instances, fits.cores, fits.ram)

-- what a pool's nodes take
pub wide-count : (c : Configuration) (n : ℕ) (s : State) (p : PoolId) → IsFitSite c → n ≤ 262144 → Shaped c n n s → IsWide (count_of c s p)
wide-count c n s p site bound is =
    let few : IsFew (count_of c s p) (length s.nodes * 32) = rows-few (λ (e : NodeEntry). amount_of c p e.kept.label) _ s.nodes (all-from_at (λ (e : NodeEntry). IsFew (amount_of c p e.kept.label) 32) s.nodes (λ i e _. few-node c site p e.kept.label)) in
    record { instances = omega (arith, few.instances, is.nodes); cores = omega (arith, few.cores, is.nodes); ram = omega (arith, few.ram, is.nodes) }

-- what a tenant's nodes and pending requests take
pub wide-tenant : (c : Configuration) (n : ℕ) (s : State) (t : TenantId) → IsFitSite c → n ≤ 262144 → Shaped c n n s → IsWide (count_of_tenant c s t)
wide-tenant c n s t site bound is =
    let of_nodes : IsFew (total (map (amount_of_node c) (filter (λ e. is_tenant t e.kept.tenant) s.nodes))) (length s.nodes * 32) =
    rows-few (amount_of_node c) (λ (e : NodeEntry). is_tenant t e.kept.tenant) s.nodes (all-from_at (λ (e : NodeEntry). IsFew (amount_of_node c e) 32) s.nodes (λ i e _. few-node c site e.kept.pool e.kept.label)) in
    let of_requests : IsFew (total (map (rest_of_request c) (filter (is_pending_of c t) s.requests))) (length s.requests * 32) =
    rows-few (rest_of_request c) (is_pending_of c t) s.requests (all-weaker (RequestShape c n s.next_request) (λ (e : RequestEntry). IsFew (rest_of_request c e) 32) (few-rest c n s.next_request site) s.requests is.each_request) in
    record {
      instances = omega (arith, of_nodes.instances, of_requests.instances, is.nodes, is.requests);
      cores = omega (arith, of_nodes.cores, of_requests.cores, is.nodes, is.requests);
      ram = omega (arith, of_nodes.ram, of_requests.ram, is.nodes, is.requests);
    }

-- # what a state of a run says of the values that replies name

-- what holds of a state that n events lead to
pub record Reached (c : Configuration) (n : ℕ) (s : State) : Type 0 where
  pub few : n ≤ 262144
  pub sound : IsSound c
  pub site : IsFitSite c
  pub shaped : Shaped c n n s
  pub invariant : Invariant c s
  pub ids : HasIds c s

-- ## the first request

earlier-is : (P : RequestEntry → Type 0) (best : Option RequestEntry) (e : RequestEntry) → IfSome best P → P e → IfSome (earlier best e) P
earlier-is P None e old new = new
earlier-is P (Some best) e old new = by_bool (λ b. IfSome (cond b (Some e) (Some best)) P) (comes_before e best) (λ _. new) (λ _. old)

least-is : (P : RequestEntry → Type 0) (es : List RequestEntry) (best : Option RequestEntry) → IfSome best P → AllByRecursion P es → IfSome (fold earlier best es) P
least-is P [] best old all = old
least-is P (e ∷ es) best old all = least-is P es (earlier best e) (earlier-is P best e old all.0) all.1

-- ## counts

ahead-few : (session : SessionId) (queue : List SessionId) → ahead_of session queue ≤ length queue
ahead-few session [] = omega arith
ahead-few session (other ∷ queue) = grind (arith, ahead-few session queue)

pub unfilled-few : (p : PoolId) (session : SessionId) (r : RequestId) (nodes : List NodeEntry) (labels : List LabelId) (numbers : List NodeId) → unfilled p session r nodes labels numbers ≤ length labels
unfilled-few p session r nodes [] numbers = omega arith
unfilled-few p session r nodes (l ∷ labels) [] = omega (arith, unfilled-few p session r nodes labels [])
unfilled-few p session r nodes (l ∷ labels) (n ∷ numbers) = grind (arith, unfilled-few p session r nodes labels numbers)

pub due-below : (age since : ℕ) → age ≤ 1000000 → since ≤ 262144 → due_tick age since < 2 ^ 32
due-below age since short early = grind arith

module _ (c : Configuration) (n : ℕ) (s : State) (at : Reached c n s) where
  -- ## sessions

  begun-below : (session : SessionId) (facts : SessionFacts) → session_of session s ≡ Some facts → session.0 < 2 ^ 32
  begun-below session facts is = grind (arith, nat_tests, slice_get_within s.sessions (session.0 - 1) facts, at.shaped.sessions, at.few)

  first-below : (queue : List SessionId) (session : SessionId) → IsLiveQueue s queue → holder queue ≡ Some session → session.0 < 2 ^ 32
  first-below queue session is first = let live = all-at (IsLive s) queue 0 session is.live first in begun-below session live.facts live.begun

  pub request_holder-below : (r : RequestId) (session : SessionId) → request_holder r s.requests ≡ Some session → session.0 < 2 ^ 32
  request_holder-below r session first = by (request_entry r s.requests) refl first where
    by : (o : Option RequestEntry) → request_entry r s.requests ≡ o → holder (option_map_or (λ e. e.queue) o []) ≡ Some session → session.0 < 2 ^ 32
    by None is there = absurd cc
    by (Some e) is there = first-below e.queue session (all-find (λ (x : RequestEntry). IsLiveQueue s x.queue) (λ x. same_request x.id r) s.requests e at.invariant.queued.at_requests is) there

  pub node_holder-below : (number : NodeId) (session : SessionId) → node_holder number s.nodes ≡ Some session → session.0 < 2 ^ 32
  node_holder-below number session first = by (node_entry number s.nodes) refl first where
    by : (o : Option NodeEntry) → node_entry number s.nodes ≡ o → holder (option_map_or (λ e. e.queue) o []) ≡ Some session → session.0 < 2 ^ 32
    by None is there = absurd cc
    by (Some e) is there = first-below e.queue session (all-find (λ (x : NodeEntry). IsLiveQueue s x.queue) (λ x. x.id.0 == number.0) s.nodes e at.invariant.queued.at_nodes is) there

  pub registered-below : (p : PoolId) (session : SessionId) → registered p s.registrations ≡ Some session → session.0 < 2 ^ 32
  registered-below p session has =
      let g = from-map_some (λ (x : Registration). x.session) (find (λ g. g.pool.0 == p.0) s.registrations) session has in
      let launcher : IsLauncher s g.0.pool g.0.session = all-find (λ (x : Registration). IsLauncher s x.pool x.session) (λ x. x.pool.0 == p.0) s.registrations g.0 at.invariant.registered.of_launcher g.1 in
      subst (λ (x : SessionId). x.0 < 2 ^ 32) g.2 (begun-below g.0.session launcher.facts launcher.begun)

  -- ## requests

  texts : AllByRecursion (λ e. HasText e.id) s.requests
  texts = all-from_at (λ (e : RequestEntry). HasText e.id) s.requests (λ i e there.
      let below : e.id.seq < s.next_request = all-at (λ (x : RequestEntry). x.id.seq < s.next_request) s.requests i e at.invariant.numbered.requests_below there in
      text-of e.id (all-at IsSayable s.requests i e at.ids.requests there).0 (omega (arith, at.shaped.next_request, at.few)))

  pub first_of-text : (p : PoolId) (first : RequestId) → first_of c s p ≡ Some first → HasText first
  first_of-text p first is =
      let some = least-is (λ e. HasText e.id) (filter (is_candidate c s p) s.requests) None tt (all-filter (λ (e : RequestEntry). HasText e.id) (is_candidate c s p) s.requests texts) in
      let e = from-map_some (λ (x : RequestEntry). x.id) (least (filter (is_candidate c s p) s.requests)) first is in
      subst HasText e.2 (subst (λ (o : Option RequestEntry). IfSome o (λ x. HasText x.id)) e.1 some)

  pub allocated-text : (number : NodeId) (k : NodeRecord) (r : RequestId) → node_in number s.nodes ≡ Some k → k.allocated_to ≡ Some r → HasText r
  allocated-text number k r is has =
      let digits : has_digits r ≡ true = subst (λ (o : Option RequestId). allocation_has_digits o ≡ true) has (node-digits number s.nodes k at.ids.nodes is) in
      text-of r digits (omega (arith, (at.invariant.owned.allocations number k r is has).below, at.shaped.next_request, at.few))

  pub next_request-text : (priority : ℕ) → has_digits (next_id priority s) ≡ true → HasText (next_id priority s)
  next_request-text priority digits = text-of (next_id priority s) digits (omega (arith, at.shaped.next_request, at.few))

  pub next_node-below : s.next_node < 2 ^ 32
  next_node-below = omega (arith, at.shaped.next_node, at.few)

  pub next_session-below : length s.sessions + 1 < 2 ^ 32
  next_session-below = omega (arith, at.shaped.sessions, at.few)

  -- ## labels

  request-labels : (r : RequestId) (request : RequestRecord) → request_in r s.requests ≡ Some request → LabelsInRange request.labels
  request-labels r request has =
      let e = from-map_some (λ (x : RequestEntry). x.kept) (request_entry r s.requests) request has in
      subst (λ (x : RequestRecord). LabelsInRange x.labels) e.2 (all-find IsSayable (λ x. same_request x.id r) s.requests e.0 at.ids.requests e.1).1

  pub unoffered-below : (r : RequestId) (request : RequestRecord) (p : PoolId) (l : LabelId) → request_in r s.requests ≡ Some request → first_unoffered c p request ≡ Some l → l.0 < 2 ^ 16
  unoffered-below r request p l has is = all-find (λ (x : LabelId). x.0 < 2 ^ 16) _ request.labels l (request-labels r request has) is

  pub next_label-below : (r : RequestId) (request : RequestRecord) (l : LabelId) → request_in r s.requests ≡ Some request → next_label request ≡ Some l → l.0 < 2 ^ 16
  next_label-below r request l has is = all-at (λ (x : LabelId). x.0 < 2 ^ 16) request.labels (length request.nodes) l (request-labels r request has) is

  -- ## jobs

  pub full-below : (j : JobId) (job : Job) (x : SemId) → slice_get c.jobs j.0 ≡ Some job → first_full c s j job ≡ Some x → x.0 < 2 ^ 16
  full-below j job x row is = all-find (λ (y : SemId). y.0 < 2 ^ 16) _ job.semaphores x (job-semaphores c at.sound j.0 job row) is

  pub missing-below : (j : JobId) (job : Job) → slice_get c.jobs j.0 ≡ Some job → missing_handles s j job < 2 ^ 32
  missing-below j job row = omega (arith, count_by-le-length (λ x. not (has_handle j s.handles x)) job.semaphores, (at.site.job_rows j job row).semaphores)

  -- ## counts

  pub ready-below : (l : LabelId) → ready_count l s < 2 ^ 32
  ready-below l = omega (arith, count_by-le-length (is_free_ready l) s.nodes, count_by-le-length (is_coming l) s.requests, at.shaped.nodes, at.shaped.requests, at.few)

  pub ahead-below : (session : SessionId) (number : NodeId) → ahead_of session (node_queue number s.nodes) < 2 ^ 32
  ahead-below session number = omega (arith, ahead-few session (node_queue number s.nodes), node-queue c n s.tick s.next_node s.nodes number at.shaped.each_node, at.few)
