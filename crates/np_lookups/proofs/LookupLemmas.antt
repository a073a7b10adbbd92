-- the lookups of a state: the jobs that are not over, and all lookups after a change
use Rattle.np_lookups.proofs.Prelude.{All-get_or, AllByRecursion, AreLookupsOf, AreUnfinished, Bool, Changes, Configuration, DistinctSessions, Growth, HasRoom, IfSome, Invariant, IsLiveQueue, IsPlanned, IsReached, IsSound, Job, JobId, JobRecord, JobsChange, JobsPremise, List, Locked, LookupsOf, Maker, MakerPremise, NodeEntry, NodeId, NodesChange, NodesPremise, None, Option, Premises, PutsJob, RequestEntry, RequestId, RequesterId, RequestsChange, RequestsPremise, SessionFacts, SessionId, SessionsChange, SessionsPremise, Some, State, Wait, [], above-apart, all-weaker, and_false, and_true, ap, append-nil, arith, below-apart, by, by_bool, change_at, changed, cond, ended, ending, false, find, get_or, get_or_from_slice_get, grown, grown-numbered, has_ended, holder, holder_at, inl, inr, invariant-Runs, is_id_before, is_job_before, is_node_before, is_over, is_queued, is_unfinished_job, jobs-grown, jobs_changed, joins_node, joins_request, leaves_node, leaves_request, length, length-append, length-change_at, length-take-le, list_at, lists_ended, lists_joined, lists_left, lists_removed, lookups_grown, lookups_settled, muted, nat_tests, new_job, node_equal, node_one_way, node_queue, nodes_changed, not-past, option_map, option_map_or, or_right, premises, queue_at, queued_nodes, queued_requests, refl, remove_first, removed_node, removed_request, request_equal, request_one_way, request_queue, requests_changed, same_job, same_node, same_request, session-low, sessions_changed, slice_get, slice_get-get_or, slice_get_within, slice_set, subst, suc, sym, take, take_there, true, unfinished_changed, unfinished_from, with_id, with_mark, without_id, zero, ℕ, ◌++◌, ◌+◌, ◌-◌, ◌<◌, ◌==◌, ◌∙◌, ◌∷◌, ◌≡◌, ◌≤◌, ◌⊎◌}
use Rattle.np_lookups.proofs.QueueLemmas.{at-changed, at-ended, at-joined, at-left, at-without, length-changed, length-removed, list_ended, list_joined, list_left, list_removed, nodes-changed, nodes-grown, nodes-left, requests-changed, requests-grown, requests-left, rows-absent, waiting}
use Rattle.np_lookups.proofs.OwnerLemmas.{AreUnused, KeepsNodes, TakesNodes, early-open, owners-changed, put-nodes, unused-reached}

-- # the jobs of a requester that are not over, determined by which jobs are over

abbrev pub job_id : ℕ → JobId
job_id n = record { 0 = n }

-- the job with this number is the requester's
abbrev pub is_own : Configuration → RequesterId → ℕ → Bool
is_own c q n = option_map_or (λ row. row.requester.0 == q.0) (slice_get c.jobs n) false

module _ (c : Configuration) (q : RequesterId) where
  -- ## one job changed

  -- if it is over exactly if it was before
  pub unfinished-put : (n k : ℕ) (jobs : List JobRecord) (old put : JobRecord) → slice_get jobs k ≡ Some old → is_over put.phase ≡ is_over old.phase
      → unfinished_from c q n (slice_set jobs k put) ≡ unfinished_from c q n jobs
  unfinished-put n k [] old put there same = refl
  unfinished-put n zero (first ∷ jobs) old put there same = let here : first ≡ old = cc in rw (here, same) refl
  unfinished-put n (suc k) (first ∷ jobs) old put there same = grind (arith, unfinished-put (suc n) k jobs old put there same)

  -- by a mark
  pub unfinished-mark : (m : NodeId) (n k : ℕ) (jobs : List JobRecord) → unfinished_from c q n (change_at k (with_mark m) jobs) ≡ unfinished_from c q n jobs
  unfinished-mark m n k [] = refl
  unfinished-mark m n zero (kept ∷ jobs) = refl
  unfinished-mark m n (suc k) (kept ∷ jobs) = grind (arith, unfinished-mark m (suc n) k jobs)

  -- no job before the first is among them
  out_before : (n : ℕ) (jobs : List JobRecord) (m : ℕ) → m < n → remove_first (λ other. same_job other (job_id m)) (unfinished_from c q n jobs) ≡ unfinished_from c q n jobs
  out_before n [] m less = refl
  out_before n (kept ∷ jobs) m less = grind (arith, above-apart n m less, out_before (suc n) jobs m (omega arith))

  -- if it is over, it is no longer among those of its requester
  pub unfinished-over : (n k m : ℕ) (jobs : List JobRecord) (put : JobRecord) → m ≡ n + k → is_over put.phase ≡ true
      → unfinished_from c q n (slice_set jobs k put) ≡ cond (is_own c q m) (remove_first (λ other. same_job other (job_id m)) (unfinished_from c q n jobs)) (unfinished_from c q n jobs)
  unfinished-over n k m [] put is over = grind arith
  unfinished-over n zero m (first ∷ jobs) put is over =
      let number : n ≡ m = omega arith in
      let here : (m == m) ≡ true = grind (arith, nat_tests) in
      rw number (grind (arith, over, here, out_before (suc m) jobs m (omega arith)))
  unfinished-over n (suc k) m (first ∷ jobs) put is over =
      let other : (n == m) ≡ false = below-apart n m (omega arith) in
      grind (arith, other, unfinished-over (suc n) k m jobs put (omega arith) over)

  -- ## one job more

  pub unfinished-push : (n m : ℕ) (jobs : List JobRecord) (kept : JobRecord) → m ≡ n + length jobs
      → unfinished_from c q n (jobs ++ kept ∷ []) ≡ unfinished_from c q n jobs ++ cond (is_unfinished_job c q (job_id m) kept) (job_id m ∷ []) []
  unfinished-push n m [] kept is = let number : m ≡ n = omega arith in rw number refl
  unfinished-push n m (first ∷ jobs) kept is = grind (arith, unfinished-push (suc n) m jobs kept (omega arith))

  pub all-below : (n m : ℕ) (jobs : List JobRecord) → n + length jobs ≤ m → AllByRecursion (λ j. j.0 < m) (unfinished_from c q n jobs)
  all-below n m [] within = tt
  all-below n m (kept ∷ jobs) within =
      by_bool (λ (b : Bool). AllByRecursion (λ (j : JobId). j.0 < m) (cond b (job_id n ∷ unfinished_from c q (suc n) jobs) (unfinished_from c q (suc n) jobs))) (is_unfinished_job c q (job_id n) kept)
      (λ _. (omega arith, all-below (suc n) m jobs (omega arith))) (λ _. all-below (suc n) m jobs (omega arith))

-- # what the changes of an event make of the jobs that are not over

-- a job whose record is put, and that is not over then, was not over before
was-open : (c : Configuration) (s : State) (ch : Changes) (j : JobId) (later : JobRecord) → ch.jobs ≡ JobsChange.Put j later → PutsJob c s ch j later → is_over later.phase ≡ false
    → (old : JobRecord) × (slice_get s.jobs j.0 ≡ Some old) × (is_over old.phase ≡ false)
was-open c s ch j later puts premise open_is = by (put-nodes c s ch j later puts premise) where
  by : KeepsNodes s j later ⊎ TakesNodes c s ch j later → (old : JobRecord) × (slice_get s.jobs j.0 ≡ Some old) × (is_over old.phase ≡ false)
  by (inl keeps) = (keeps.kept, keeps.stands, early-open keeps.kept.phase (keeps.early open_is))
  by (inr takes) = (takes.takes.kept, takes.stands, early-open takes.takes.kept.phase (or_right _ _ takes.takes.asked))

module _ (c : Configuration) (s : State) (ch : Changes) (lists : List (List JobId)) (old : AreUnfinished c s lists) (q : RequesterId) where
  -- the job leaves the list of its requester, if it has one
  one-over : (j : JobId) (o : Option Job) → list_at q.0 (option_map_or (λ row. change_at row.requester.0 (without_id same_job j) lists) o lists)
      ≡ cond (option_map_or (λ row. row.requester.0 == q.0) o false) (without_id same_job j (list_at q.0 lists)) (list_at q.0 lists)
  one-over j None = refl
  one-over j (Some row) = at-changed row.requester.0 q.0 (without_id same_job j) lists (λ _. refl)

  after-jobs : (change : JobsChange) → ch.jobs ≡ change → JobsPremise c s ch change → list_at q.0 (unfinished_changed c change lists) ≡ unfinished_from c q 0 (jobs_changed change s.jobs)
  after-jobs JobsChange.Same is premise = old.each q
  after-jobs (JobsChange.EndNode j n) is premise = old.each q ∙ sym (unfinished-mark c q n 0 j.0 s.jobs)
  after-jobs (JobsChange.Put j kept) is premise =
      by_bool (λ (b : Bool). list_at q.0 (cond b (option_map_or (λ row. change_at row.requester.0 (without_id same_job j) lists) (slice_get c.jobs j.0) lists) lists) ≡ unfinished_from c q 0 (slice_set s.jobs j.0 kept)) (is_over kept.phase)
      (λ over. one-over j (slice_get c.jobs j.0) ∙ ap (λ (jobs : List JobId). cond (is_own c q j.0) (without_id same_job j jobs) jobs) (old.each q) ∙ sym (unfinished-over c q 0 j.0 j.0 s.jobs kept (omega arith) over))
      (λ open_is. let was = was-open c s ch j kept is premise open_is in old.each q ∙ sym (unfinished-put c q 0 j.0 s.jobs was.0 kept was.1 (open_is ∙ sym was.2)))

pub unfinished-changed : (c : Configuration) (s : State) (ch : Changes) (lists : List (List JobId)) → JobsPremise c s ch ch.jobs → AreUnfinished c s lists → AreUnfinished c (changed c ch s) (unfinished_changed c ch.jobs lists)
unfinished-changed c s ch lists premise old = record {
  each = λ q. after-jobs c s ch lists old q ch.jobs refl premise ∙ ap (λ (jobs : List JobRecord). unfinished_from c q 0 (jobs_changed ch.jobs jobs)) (sym (jobs-grown c ch.maker ch.grows s));
}

-- # the jobs of lookups, made from a state job by job

-- ## made from a state

-- the jobs up to a number are in their lists
pub record IsMadeTo (c : Configuration) (s : State) (number : ℕ) (lists : List (List JobId)) : Type 0 where
  pub many : length lists ≡ length c.requesters
  pub each : (q : RequesterId) → list_at q.0 lists ≡ unfinished_from c q 0 (take number s.jobs)

module _ (c : Configuration) (s : State) (number : ℕ) (lists : List (List JobId)) (made : IsMadeTo c s number lists) (within : number < length s.jobs) where
  abbrev kept : JobRecord
  kept = get_or s.jobs number new_job

  there : slice_get s.jobs number ≡ Some kept
  there = slice_get-get_or s.jobs number new_job within

  so_many : number ≡ 0 + length (take number s.jobs)
  so_many = omega (arith, length-take-le number s.jobs (omega arith))

  -- the lists with this job
  more : (q : RequesterId) → unfinished_from c q 0 (take (number + 1) s.jobs) ≡ unfinished_from c q 0 (take number s.jobs) ++ cond (is_unfinished_job c q (job_id number) kept) (job_id number ∷ []) []
  more q =
      ap (λ (jobs : List JobRecord). unfinished_from c q 0 jobs) (take_there s.jobs number kept there)
      ∙ unfinished-push c q 0 number (take number s.jobs) kept so_many

  skipped : ((q : RequesterId) → is_unfinished_job c q (job_id number) kept ≡ false) → IsMadeTo c s (number + 1) lists
  skipped out = record {
    many = made.many;
    each = λ q.
        made.each q
        ∙ sym (more q ∙ ap (λ (b : Bool). unfinished_from c q 0 (take number s.jobs) ++ cond b (job_id number ∷ []) []) (out q) ∙ append-nil (unfinished_from c q 0 (take number s.jobs)));
  }

  over_as : (b : Bool) → has_ended s (job_id number) ≡ b → is_over kept.phase ≡ b
  over_as b is = let told : has_ended s (job_id number) ≡ is_over kept.phase = rw there refl in sym told ∙ is

  -- a job that is over
  pub made-over : has_ended s (job_id number) ≡ true → IsMadeTo c s (number + 1) lists
  made-over is = skipped (λ q. rw (over_as true is) (and_false (is_own c q number)))

  -- a job that nobody has
  pub made-unowned : slice_get c.jobs number ≡ None → IsMadeTo c s (number + 1) lists
  made-unowned none = skipped (λ q. rw none refl)

  module _ (sound : IsSound c) (row : Job) (is_row : slice_get c.jobs number ≡ Some row) where
    -- each job of its requester so far comes before it
    pub made-before : AllByRecursion (λ other. is_job_before other (job_id number) ≡ true) (list_at row.requester.0 lists)
    made-before =
        all-weaker (λ other. other.0 < number) (λ other. is_job_before other (job_id number) ≡ true) (λ other below. grind (arith, nat_tests))
        (list_at row.requester.0 lists)
        (subst (λ (jobs : List JobId). AllByRecursion (λ (other : JobId). other.0 < number) jobs) (sym (made.each row.requester))
        (all-below c row.requester 0 number (take number s.jobs) (omega (arith, so_many))))

    owner-there : row.requester.0 < length lists
    owner-there =
        let at : number < length c.jobs = slice_get_within c.jobs number row is_row in
        let owned : (get_or c.jobs number row).requester.0 < length c.requesters = All-get_or (λ (j : Job). j.requester.0 < length c.requesters) c.jobs number row at sound.demand.owned in
        let same : get_or c.jobs number row ≡ row = get_or_from_slice_get c.jobs number row row is_row in
        let here : row.requester.0 < length c.requesters = subst (λ (j : Job). j.requester.0 < length c.requesters) same owned in
        omega (arith, here, made.many)

    -- a job that is added to its requester's list
    pub made-more : (later : List (List JobId)) → later ≡ change_at row.requester.0 (λ jobs. jobs ++ job_id number ∷ []) lists → has_ended s (job_id number) ≡ false → IsMadeTo c s (number + 1) later
    made-more later added is = record {
      many = ap length added ∙ length-change_at row.requester.0 (λ jobs. jobs ++ job_id number ∷ []) lists ∙ made.many;
      each = λ q.
          ap (list_at q.0) added
          ∙ at-changed row.requester.0 q.0 (λ jobs. jobs ++ job_id number ∷ []) lists (λ none. absurd (not-past lists row.requester.0 owner-there none))
          ∙ grind (arith, more q, told q, made.each q, append-nil (list_at q.0 lists));
    } where
      told : (q : RequesterId) → is_unfinished_job c q (job_id number) kept ≡ (row.requester.0 == q.0)
      told q = rw (is_row, over_as false is) (and_true (row.requester.0 == q.0))

-- # the lookups of a state, changed as the state is, are those of the changed state

-- ## sessions

maker-within : {I : Type 0} (s : State) (maker : Option Maker) (i : I) (many : ℕ) → MakerPremise s maker → length s.sessions < many → IfSome (by maker i) (λ w. w.session.0 < many)
maker-within s None i many heard room = tt
maker-within s (Some m) i many heard room = omega (arith, session-low m.session s heard.facts heard.begun)

joins_node-within : (s : State) (maker : Option Maker) (growth : Growth) (many : ℕ) → MakerPremise s maker → length s.sessions < many → IfSome (joins_node maker growth s.next_node) (λ w. w.session.0 < many)
joins_node-within s maker (Growth.Node kept) many heard room = maker-within s maker (record { 0 = s.next_node }) many heard room
joins_node-within s maker (Growth.JoinNode n) many heard room = maker-within s maker n many heard room
joins_node-within s maker (Growth.Allocate n r tenant) many heard room = maker-within s maker n many heard room
joins_node-within s maker _ many heard room = tt

joins_request-within : (s : State) (maker : Option Maker) (growth : Growth) (many : ℕ) → MakerPremise s maker → length s.sessions < many → IfSome (joins_request maker growth) (λ w. w.session.0 < many)
joins_request-within s maker (Growth.JoinRequest r) many heard room = maker-within s maker r many heard room
joins_request-within s maker _ many heard room = tt

-- at most one session more
grown-sessions : (c : Configuration) (s : State) (maker : Option Maker) (growth : Growth) → length (grown c maker growth s).sessions ≤ length s.sessions + 1
grown-sessions c s maker (Growth.Session role) = simp length-append (omega arith)
grown-sessions c s None growth = omega arith
grown-sessions c s (Some m) growth = omega arith

changed-sessions : (change : SessionsChange) (facts : List SessionFacts) → length (sessions_changed change facts) ≡ length facts
changed-sessions SessionsChange.Same facts = refl
changed-sessions (SessionsChange.Mute x) facts = length-change_at (x.0 - 1) muted facts
changed-sessions (SessionsChange.End x) facts = length-change_at (x.0 - 1) ended facts

session-more : (c : Configuration) (s : State) (ch : Changes) → length (changed c ch s).sessions ≤ length s.sessions + 1
session-more c s ch = omega (arith, changed-sessions ch.sessions (grown c ch.maker ch.grows s).sessions, grown-sessions c s ch.maker ch.grows)

-- what is true of the queue of each row, and of no session, is true of the queue of one that is looked up
queue-found : {I K : Type 0} (P : List SessionId → Type 0) (p : Locked I K → Bool) (rows : List (Locked I K)) → P [] → AllByRecursion (λ e. P e.queue) rows → P (option_map_or (λ e. e.queue) (find p rows) [])
queue-found P p [] none all = none
queue-found {I} {K} P p (x ∷ rows) none all =
    by_bool (λ (b : Bool). P (option_map_or (λ (e : Locked I K). e.queue) (cond b (Some x) (find p rows)) [])) (p x) (λ _. all.0) (λ _. queue-found P p rows none all.1)

module _ (c : Configuration) (s : State) (ch : Changes) (old : Invariant c s) (given : Premises c s ch) (x : SessionId) where
  -- ## nodes

  -- a node that goes leaves every list, since only sessions in its queue have it
  node-removed : (change : NodesChange) → ch.nodes ≡ change → NodesPremise c s ch change → (lists : List (List NodeId)) → list_at x.0 lists ≡ queued_nodes x s
      → list_at x.0 (lists_removed same_node (removed_node change) (queue_at (removed_node change) s) (lists_left same_node (leaves_node ch.maker change) (lists_joined is_node_before same_node (joins_node ch.maker ch.grows s.next_node) lists)))
      ≡ list_removed same_node (removed_node change) (list_at x.0 (lists_left same_node (leaves_node ch.maker change) (lists_joined is_node_before same_node (joins_node ch.maker ch.grows s.next_node) lists)))
  node-removed (NodesChange.Remove n) is premise lists here = rw premise.same_size (
      at-without same_node x n (node_queue n s.nodes) lists
      (queue-found DistinctSessions (λ (e : NodeEntry). e.id.0 == n.0) s.nodes tt (all-weaker (λ (e : NodeEntry). IsLiveQueue s e.queue) (λ (e : NodeEntry). DistinctSessions e.queue) (λ e live. live.once) s.nodes old.queued.at_nodes))
      ∙ grind (arith, here, rows-absent is_node_before same_node node_one_way node_equal x s.nodes old.numbered.nodes_rise n))
  node-removed _ is premise lists here = refl

  node-list : (lists : List (List NodeId)) → list_at x.0 lists ≡ queued_nodes x s → length s.sessions < length lists
      → list_at x.0 (lists_ended (ending ch.sessions) (lists_removed same_node (removed_node ch.nodes) (queue_at (removed_node ch.nodes) s) (lists_left same_node (leaves_node ch.maker ch.nodes) (lists_joined is_node_before same_node (joins_node ch.maker ch.grows s.next_node) lists))))
      ≡ queued_nodes x (changed c ch s)
  node-list lists here many =
      let t = grown c ch.maker ch.grows s in
      let joined_there : list_at x.0 (lists_joined is_node_before same_node (joins_node ch.maker ch.grows s.next_node) lists) ≡ waiting x t.nodes =
      at-joined same_node x is_node_before (joins_node ch.maker ch.grows s.next_node) lists (joins_node-within s ch.maker ch.grows (length lists) given.maker many)
      ∙ ap (list_joined is_node_before same_node x (joins_node ch.maker ch.grows s.next_node)) here
      ∙ sym (nodes-grown c x s ch ch.maker ch.grows refl old.numbered given.grows) in
      at-ended x (ending ch.sessions) _
      ∙ ap (list_ended x (ending ch.sessions)) (
      node-removed ch.nodes refl given.nodes lists here
      ∙ ap (list_removed same_node (removed_node ch.nodes)) (
      at-left same_node x (leaves_node ch.maker ch.nodes) _
      ∙ ap (list_left same_node x (leaves_node ch.maker ch.nodes)) joined_there)
      ∙ sym (nodes-changed x ch.maker t.tick ch.nodes t.nodes (grown-numbered c s ch.maker ch.grows old.numbered).nodes_rise))
      ∙ sym (nodes-left x ch.sessions (nodes_changed ch.maker t.tick ch.nodes t.nodes))

  -- ## requests

  -- a request that goes leaves the list of its holder, and no other has it
  request-removed : (change : RequestsChange) → RequestsPremise c s ch change
      → list_left same_request x (leaves_request ch.maker change (holder_at (removed_request change) s)) (list_joined is_id_before same_request x (joins_request ch.maker ch.grows) (queued_requests x s))
      ≡ list_removed same_request (removed_request change) (list_left same_request x (leaves_request ch.maker change None) (list_joined is_id_before same_request x (joins_request ch.maker ch.grows) (queued_requests x s)))
  request-removed (RequestsChange.Remove r) premise =
      rw (same_size premise) (by (request_queue r s.requests) (queue-found (λ queue. length queue ≤ 1) (λ (e : RequestEntry). same_request e.id r) s.requests (omega arith) old.queued.one_a_request)
      (rows-absent is_id_before same_request request_one_way request_equal x s.requests old.numbered.requests_rise r))
    where
      same_size : RequestsPremise c s ch (RequestsChange.Remove r) → ch.grows ≡ Growth.Nothing
      same_size (inl fulfilled) = fulfilled.fulfils.same_size
      same_size (inr (inl takes)) = takes.same_size
      same_size (inr (inr withdrawn)) = withdrawn.withdraws.same_size

      by : (queue : List SessionId) → length queue ≤ 1 → (is_queued x queue ≡ false → without_id same_request r (queued_requests x s) ≡ queued_requests x s)
          → list_left same_request x (option_map (λ session. record { session = session; id = r }) (holder queue)) (queued_requests x s) ≡ without_id same_request r (queued_requests x s)
      by [] one absent = sym (absent refl)
      by (h ∷ []) one absent = grind (arith, absent)
      by (h ∷ g ∷ queue) one absent = absurd (omega arith)
  request-removed _ premise = refl

  request-list : (lists : List (List RequestId)) → list_at x.0 lists ≡ queued_requests x s → length s.sessions < length lists
      → list_at x.0 (lists_ended (ending ch.sessions) (lists_left same_request (leaves_request ch.maker ch.requests (holder_at (removed_request ch.requests) s)) (lists_joined is_id_before same_request (joins_request ch.maker ch.grows) lists)))
      ≡ queued_requests x (changed c ch s)
  request-list lists here many =
      let t = grown c ch.maker ch.grows s in
      let wait = leaves_request ch.maker ch.requests (holder_at (removed_request ch.requests) s) in
      at-ended x (ending ch.sessions) _
      ∙ ap (list_ended x (ending ch.sessions)) (
      at-left same_request x wait _
      ∙ ap (list_left same_request x wait) (
      at-joined same_request x is_id_before (joins_request ch.maker ch.grows) lists (joins_request-within s ch.maker ch.grows (length lists) given.maker many)
      ∙ ap (list_joined is_id_before same_request x (joins_request ch.maker ch.grows)) here)
      ∙ request-removed ch.requests given.requests
      ∙ ap (λ (list : List RequestId). list_removed same_request (removed_request ch.requests) (list_left same_request x (leaves_request ch.maker ch.requests None) list)) (sym (requests-grown c x s ch ch.maker ch.grows old.numbered given.grows))
      ∙ sym (requests-changed x ch.maker ch.requests t.requests (grown-numbered c s ch.maker ch.grows old.numbered).requests_rise))
      ∙ sym (requests-left x ch.sessions (requests_changed ch.maker ch.requests t.requests))

-- ## all parts

pub lookups-changed : (c : Configuration) (s : State) (ch : Changes) (l : LookupsOf) → Invariant c s → AreUnused s → Premises c s ch → AreLookupsOf c s l → HasRoom s l
    → AreLookupsOf c (changed c ch s) (lookups_settled c ch (holder_at (removed_request ch.requests) s) (queue_at (removed_node ch.nodes) s) (lookups_grown ch s.next_node l))
lookups-changed c s ch l old unused given is room = record {
  unfinished = unfinished-changed c s ch l.unfinished given.jobs is.unfinished;
  requests = record {
    each = λ x. request-list c s ch old given x l.requests (is.requests.each x) is.requests.many;
    many =
        let same = length-changed (λ (e : SessionId). e.0) (λ _ _. []) (ending ch.sessions) _
        ∙ length-changed (λ (w : Wait RequestId). w.session.0) (λ w. without_id same_request w.id) (leaves_request ch.maker ch.requests (holder_at (removed_request ch.requests) s)) _
        ∙ length-changed (λ (w : Wait RequestId). w.session.0) (λ w. with_id is_id_before same_request w.id) (joins_request ch.maker ch.grows) l.requests in
        omega (arith, session-more c s ch, room.requests, same);
  };
  nodes = record {
    each = λ x. node-list c s ch old given x l.nodes (is.nodes.each x) is.nodes.many;
    many =
        let same = length-changed (λ (e : SessionId). e.0) (λ _ _. []) (ending ch.sessions) _
        ∙ length-removed same_node (removed_node ch.nodes) (queue_at (removed_node ch.nodes) s) _
        ∙ length-changed (λ (w : Wait NodeId). w.session.0) (λ w. without_id same_node w.id) (leaves_node ch.maker ch.nodes) _
        ∙ length-changed (λ (w : Wait NodeId). w.session.0) (λ w. with_id is_node_before same_node w.id) (joins_node ch.maker ch.grows s.next_node) l.nodes in
        omega (arith, session-more c s ch, room.nodes, same);
  };
  owners = owners-changed c s ch old unused given l.owners is.owners;
}

-- what the tests of a planned event have shown
premises-of : (c : Configuration) (s : State) (ch : Changes) → IsPlanned c s ch → Premises c s ch
premises-of c s ch planned = subst (Premises c s) (sym planned.plan) (premises c s planned.event planned.accepted)

-- as a keeper changes: what was read of the state before, and what was made of the lookups
pub lookups-after : (c site conf : Configuration) (s t : State) (ch : Changes) (next : ℕ) (holder : Option SessionId) (queue : List SessionId) (room grown settled : LookupsOf)
    → IsReached c s → IsPlanned c s ch → AreLookupsOf c s room → HasRoom s room
    → next ≡ s.next_node → holder ≡ holder_at (removed_request ch.requests) s → queue ≡ queue_at (removed_node ch.nodes) s
    → grown ≡ lookups_grown ch next room → settled ≡ lookups_settled conf ch holder queue grown → conf ≡ site → site ≡ c → t ≡ changed c ch s → AreLookupsOf site t settled
lookups-after c site conf s t ch next holder queue room grown settled reached planned is has_room next_is holder_is queue_is grown_is settled_is conf_is site_is t_is =
    rw (settled_is, grown_is, next_is, holder_is, queue_is, conf_is, site_is, t_is)
    (lookups-changed c s ch room (invariant-Runs c reached.journal s reached.runs) (unused-reached c s reached) (premises-of c s ch planned) is has_room)

-- where a session ends, nothing grows
pub ends-same : (c : Configuration) (s : State) (ch : Changes) (next : ℕ) (session : SessionId) (room grown : LookupsOf)
    → IsPlanned c s ch → ch.sessions ≡ SessionsChange.End session → AreLookupsOf c s room → grown ≡ lookups_grown ch next room → AreLookupsOf c s grown
ends-same c s ch next session room grown planned ends is grown_is =
    let given : SessionsPremise s ch (SessionsChange.End session) = subst (SessionsPremise s ch) ends (premises-of c s ch planned).sessions in
    rw (grown_is, given.same_size) is
