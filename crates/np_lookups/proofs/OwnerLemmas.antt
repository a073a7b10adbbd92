-- the owners of nodes: the first job that has a node, after a change, and made node by node
use Rattle.np_lookups.proofs.Prelude.{AllByRecursion, AreOwners, Asked, AsksForJob, Bool, Changes, Configuration, EndAs, EndsNode, Entry, Event, FinishesJob, Frees, GivesUp, Growth, Invariant, IsReached, Job, JobId, JobRecord, JobsChange, JobsPremise, List, Maker, Marked, NodeEntry, NodeId, NodeRecord, NodeState, NodesChange, NodesPremise, None, Option, Phase, Premises, PutsJob, PutsNode, Reports, RequestId, RequestsChange, Rises, Some, Starts, State, TakesOver, Withdraws, all-at, all-change_at, all-map, all-set, ap, arith, by_bool, cases_lt, change_at, changed, cond, ended_as, eqb-true, false, false_from_ne_true, false≢true, found-same, freed, from-map_some, grown, grown-node, grown-numbered, inl, inr, invariant-changed, invariant-start, is_asked, is_building, is_marked, is_new, is_ok, is_over, is_ready, is_request, is_using, jobs-grown, jobs_changed, judge, le_refl, leave-node, length, length-append, length-set, list_any, list_any-map, list_any-none, map, marked, member-there, nat_lt, nat_tests, new_job, next, next-more, node-place, node_in, node_in-allocated, node_in-below, node_in-freed, node_in-in_use, node_in-other, node_in-put, node_in-remove, node_in-removed, nodes-after, nodes_changed, none-list_any, none-some, option_map, or_left, or_right, owner_at, owner_of, owners_changed, owners_grown, owners_with, owns-if, plan, plan-next, position, position-here, position-later, premises, refl, remove_node, request_after_withdraw, same_Some, set-here, set-other, slice_get, slice_get-left, slice_get-middle, slice_get_past, slice_get_within, slice_set, start, state_after, subst, suc, sym, true, unended, unwrap_or, used_from, with_mark, zero, ℕ, [], ◌++◌, ◌+◌, ◌<◌, ◌==◌, ◌||◌, ◌∙◌, ◌∷◌, ◌≡◌, ◌≤◌, ◌⊎◌}
use Rattle.np_lookups.proofs.QueueLemmas.{at-push}

-- # the place of the first member that passes, as one member of the list changes

module _ {X : Type 0} (p : X → Bool) where
  -- ## if none passes

  pub none-there : (xs : List X) (i : ℕ) (x : X) → list_any p xs ≡ false → slice_get xs i ≡ Some x → p x ≡ false
  none-there xs i x none is = all-at (λ y. p y ≡ false) xs i x (none-list_any p xs none) is

  pub none-set : (xs : List X) (i : ℕ) (x : X) → list_any p xs ≡ false → p x ≡ false → list_any p (slice_set xs i x) ≡ false
  none-set xs i x none out = list_any-none p (slice_set xs i x) (all-set (λ y. p y ≡ false) xs i x out (none-list_any p xs none))

  pub none-first : (xs : List X) → list_any p xs ≡ false → position p xs ≡ None
  none-first [] none = refl
  none-first (x ∷ xs) none = grind (arith, position-later p x xs, none-first xs)

  -- a member that passes is the first if there was none before
  pub first-set : (xs : List X) (i : ℕ) (x y : X) → list_any p xs ≡ false → slice_get xs i ≡ Some x → p y ≡ true → position p (slice_set xs i y) ≡ Some i
  first-set [] i x y none is passes = absurd cc
  first-set (z ∷ xs) zero x y none is passes = position-here p y xs passes
  first-set (z ∷ xs) (suc i) x y none is passes = grind (arith, position-later p z (slice_set xs i y), first-set xs i x y)

  -- ## if the member passes after the change as before it

  abbrev ahead : Bool → Option ℕ → Option ℕ
  ahead b o = cond b (Some 0) (option_map (λ (i : ℕ). suc i) o)

  position-cons : (x : X) (xs : List X) → position p (x ∷ xs) ≡ ahead (p x) (position p xs)
  position-cons x xs = grind (arith, position-here p x xs, position-later p x xs)

  pub first-same : (xs : List X) (i : ℕ) (x y : X) → slice_get xs i ≡ Some x → p y ≡ p x → position p (slice_set xs i y) ≡ position p xs
  first-same [] i x y is same = absurd cc
  first-same (z ∷ xs) zero x y is same = let here : z ≡ x = cc in grind (arith, same, here, position-cons y xs, position-cons z xs)
  first-same (z ∷ xs) (suc i) x y is same = position-cons z (slice_set xs i y) ∙ ap (ahead (p z)) (first-same xs i x y is same) ∙ sym (position-cons z xs)

  pub first-changed : (i : ℕ) (f : X → X) (xs : List X) → ((x : X) → p (f x) ≡ p x) → position p (change_at i f xs) ≡ position p xs
  first-changed i f [] same = refl
  first-changed zero f (x ∷ xs) same = position-cons (f x) xs ∙ ap (λ (b : Bool). ahead b (position p xs)) (same x) ∙ sym (position-cons x xs)
  first-changed (suc i) f (x ∷ xs) same = position-cons x (change_at i f xs) ∙ ap (ahead (p x)) (first-changed i f xs same) ∙ sym (position-cons x xs)

-- # what the changes of an event make of the nodes of a job

-- ## which nodes it has

-- a mark leaves a job its nodes
pub marked-has : (m n : NodeId) (job : JobRecord) → is_marked n (with_mark m job) ≡ is_marked n job
marked-has m n job = list_any-map (λ x. x.node.0 == n.0) (marked m) job.nodes (λ x. refl)

-- those of a request are the nodes of the job that took them over
pub unended-has : (n : NodeId) (numbers : List NodeId) → list_any (λ m. m.node.0 == n.0) (map unended numbers) ≡ list_any (λ m. m.0 == n.0) numbers
unended-has n [] = refl
unended-has n (m ∷ numbers) = ap (λ (b : Bool). (m.0 == n.0) || b) (unended-has n numbers)

-- ## a job whose record is put

-- new or asked
abbrev pub is_early : Phase → Bool
is_early p = is_new p || is_asked p

pub early-open : (p : Phase) → is_early p ≡ true → is_over p ≡ false
early-open Phase.New is = refl
early-open Phase.Asked is = refl
early-open _ is = absurd cc

-- it keeps the nodes that it had, uses none after the change, and if it is not over then, it was new or asked
pub record KeepsNodes (s : State) (j : JobId) (later : JobRecord) : Type 0 where
  pub kept : JobRecord
  pub stands : slice_get s.jobs j.0 ≡ Some kept
  pub same : later.nodes ≡ kept.nodes
  pub idle : is_using later.phase ≡ false
  pub early : is_over later.phase ≡ false → is_early kept.phase ≡ true

-- it takes over those of its request
pub record TakesNodes (c : Configuration) (s : State) (ch : Changes) (j : JobId) (later : JobRecord) : Type 0 where
  pub request : RequestId
  pub takes : TakesOver c s ch request
  pub stands : slice_get s.jobs j.0 ≡ Some takes.kept
  pub all : later.nodes ≡ map unended takes.request.nodes
  pub in_use : later.phase ≡ Phase.Using

put-is : (i j : JobId) (a b : JobRecord) → JobsChange.Put i a ≡ JobsChange.Put j b → a ≡ b
put-is i j a b is = cc

pub put-nodes : (c : Configuration) (s : State) (ch : Changes) (j : JobId) (later : JobRecord) → ch.jobs ≡ JobsChange.Put j later → PutsJob c s ch j later → KeepsNodes s j later ⊎ TakesNodes c s ch j later
put-nodes c s ch j later at puts = by puts.way where
  over_after : (kept after : JobRecord) → slice_get s.jobs j.0 ≡ Some kept → after.nodes ≡ kept.nodes → after.phase ≡ Phase.Over → KeepsNodes s j after
  over_after kept after stands same over = record {
    kept = kept;
    stands = stands;
    same = same;
    idle = ap is_using over;
    early = λ not_over. absurd (false≢true (sym not_over ∙ ap is_over over));
  }

  by : ((priority : ℕ) × (asked : Asked) × (asks : AsksForJob c s ch priority asked) × ((ch.grows ≡ Growth.Request priority asked) × (asks.number ≡ j)))
      ⊎ (((r : RequestId) × (takes : TakesOver c s ch r) × ((ch.requests ≡ RequestsChange.Remove r) × (takes.number ≡ j)))
      ⊎ (FinishesJob c s ch j puts.kept later
      ⊎ (Withdraws s ch j puts.kept × (ch.requests ≡ request_after_withdraw puts.kept.request))))
      → KeepsNodes s j later ⊎ TakesNodes c s ch j later
  by (inl is) = let asks = is.2 in rw (put-is j asks.number later _ (sym at ∙ asks.puts)) (inl (record {
    kept = asks.kept;
    stands = subst (λ (i : JobId). slice_get s.jobs i.0 ≡ Some asks.kept) is.3.1 asks.stands;
    same = refl;
    idle = refl;
    early = λ _. or_left _ _ asks.new;
  }))
  by (inr (inl is)) = let takes = is.1 in rw (put-is j takes.number later _ (sym at ∙ takes.puts)) (inr (record {
    request = is.0;
    takes = takes;
    stands = subst (λ (i : JobId). slice_get s.jobs i.0 ≡ Some takes.kept) is.2.1 takes.stands;
    all = refl;
    in_use = refl;
  }))
  by (inr (inr (inl finishes))) = rw (finishes.record_after) (inl (over_after puts.kept _ puts.stands refl refl))
  by (inr (inr (inr withdraws))) = rw (put-is j j later _ (sym at ∙ withdraws.0.puts)) (inl (over_after puts.kept _ puts.stands refl refl))

-- # a node that no job has used is no job's: this holds of every state that a run leads to

-- ## what is said

-- building or ready
abbrev pub is_unused : NodeState → Bool
is_unused state = is_building state || is_ready state

-- no job has the node
abbrev pub IsFree : List JobRecord → NodeId → Type 0
IsFree rows n = list_any (is_marked n) rows ≡ false

abbrev UnusedFree : List JobRecord → List NodeEntry → Type 0
UnusedFree rows entries = (n : NodeId) (k : NodeRecord) → node_in n entries ≡ Some k → is_unused k.state ≡ true → IsFree rows n

-- a job that is new or asked has no node
abbrev IsBare : JobRecord → Type 0
IsBare job = is_early job.phase ≡ true → job.nodes ≡ []

-- neither has any job a node that is building or ready, or that is not there yet
pub record AreUnused (s : State) : Type 0 where
  pub early : AllByRecursion IsBare s.jobs
  pub unused : UnusedFree s.jobs s.nodes
  pub later : (n : NodeId) → s.next_node ≤ n.0 → IsFree s.jobs n

-- ## the nodes, later

module _ (rows : List JobRecord) where
  same-looks : (entries later : List NodeEntry) → ((n : NodeId) → node_in n later ≡ node_in n entries) → UnusedFree rows entries → UnusedFree rows later
  same-looks entries later looks old = λ n k is. old n k (sym (looks n) ∙ is)

  -- each node was unused if it is
  mapped : (entries later : List NodeEntry) (f : NodeId → NodeRecord → NodeRecord) → ((n : NodeId) → node_in n later ≡ option_map (f n) (node_in n entries))
      → ((n : NodeId) (k : NodeRecord) → node_in n entries ≡ Some k → is_unused (f n k).state ≡ true → is_unused k.state ≡ true) → UnusedFree rows entries → UnusedFree rows later
  mapped entries later f looks was old = λ n k is unused.
      let x = from-map_some (f n) (node_in n entries) k (sym (looks n) ∙ is) in
      old n x.0 x.1 (was n x.0 x.1 (ap (λ (y : NodeRecord). is_unused y.state) x.2 ∙ unused))

  removed : (n0 : NodeId) (entries : List NodeEntry) → Rises (λ (a b : NodeEntry). nat_lt a.id.0 b.id.0) entries → UnusedFree rows entries → UnusedFree rows (remove_node n0 entries)
  removed n0 entries rises old = λ n k is.
      by_bool (λ _. is_unused k.state ≡ true → IsFree rows n) (n0.0 == n.0)
      (λ same. absurd (none-some k (sym (node_in-removed n0 n entries rises same) ∙ is))) (λ other. old n k (sym (node_in-remove n0 n entries other) ∙ is))

  pushed : (new : NodeEntry) (entries : List NodeEntry) → IsFree rows new.id → UnusedFree rows entries → UnusedFree rows (entries ++ new ∷ [])
  pushed new entries free old = λ n k is unused.
      by_bool (λ _. IsFree rows n) (new.id.0 == n.0)
      (λ same. subst (λ (i : ℕ). IsFree rows (record { 0 = i })) (eqb-true new.id.0 n.0 same) free) (λ other. old n k (sym (node_in-other new n entries other) ∙ is) unused)

-- a node that is changed or not: if it is unused afterwards, it was
if-unused : (b : Bool) (x y : NodeRecord) → (b ≡ true → is_unused x.state ≡ true → is_unused y.state ≡ true) → is_unused (cond b x y).state ≡ true → is_unused y.state ≡ true
if-unused true x y was unused = was refl unused
if-unused false x y was unused = unused

ended-used : (as_what : EndAs) → is_unused (ended_as as_what) ≡ true → ⊥
ended-used EndAs.Used is = false≢true is
ended-used EndAs.Hold is = false≢true is

module _ (c : Configuration) (s : State) (ch : Changes) (inv : Invariant c s) (old : AreUnused s) (given : Premises c s ch) where
  abbrev g : State
  g = grown c ch.maker ch.grows s

  abbrev t : State
  t = changed c ch s

  -- a node whose record is put
  put-was : (n : NodeId) (kept : NodeRecord) (puts : PutsNode c s ch n kept) → is_unused kept.state ≡ true → is_unused puts.node.state ≡ true
  put-was n kept puts unused = by puts.way where
    by : Starts s ch puts.node kept ⊎ (Reports c s ch puts.node kept ⊎ (EndsNode s ch n puts.node kept ⊎ (GivesUp s ch puts.node kept ⊎ Frees s ch puts.node kept))) → is_unused puts.node.state ≡ true
    by (inl starts) = ap (λ (x : NodeRecord). is_unused x.state) (sym starts.record_after) ∙ unused
    by (inr (inl reports)) = or_left _ _ (inv.owned.launches n puts.node puts.held.stands reports.running)
    by (inr (inr (inl ends))) = absurd (ended-used ends.as_what (ap (λ (x : NodeRecord). is_unused x.state) (sym ends.record_after) ∙ unused))
    by (inr (inr (inr (inl gives_up)))) = absurd (false≢true (ap (λ (x : NodeRecord). is_unused x.state) (sym gives_up.record_after) ∙ unused))
    by (inr (inr (inr (inr frees)))) = ap (λ (x : NodeRecord). is_unused x.state) (sym frees.record_after) ∙ unused

  unused-allocated : (maker : Option Maker) (growth : Growth) → UnusedFree s.jobs (grown c maker growth s).nodes
  unused-allocated maker (Growth.Node kept) = pushed s.jobs _ s.nodes (old.later (record { 0 = s.next_node }) (le_refl s.next_node)) old.unused
  unused-allocated None (Growth.Allocate n r tenant) = old.unused
  unused-allocated (Some maker) (Growth.Allocate m r tenant) =
      mapped s.jobs s.nodes _ (λ n k. cond (m.0 == n.0) (record k { allocated_to = Some r; tenant = tenant }) k) (λ n. node_in-allocated m n r tenant maker.session s.nodes)
      (λ n k is. if-unused (m.0 == n.0) (record k { allocated_to = Some r; tenant = tenant }) k (λ _ unused. unused)) old.unused
  unused-allocated maker growth = same-looks s.jobs s.nodes _ (λ n. grown-node c maker growth s n tt) old.unused

  -- no job had a node that is unused after what happens to nodes
  unused-was : (change : NodesChange) → NodesPremise c s ch change → UnusedFree s.jobs (nodes_changed ch.maker g.tick change g.nodes)
  unused-was NodesChange.Same premise = unused-allocated ch.maker ch.grows
  unused-was (NodesChange.Put m kept) premise =
      mapped s.jobs s.nodes _ (λ n k. cond (m.0 == n.0) kept k)
      (λ n. node_in-put m n kept g.nodes ∙ ap (λ (x : Growth). option_map (λ k. cond (m.0 == n.0) kept k) (node_in n (grown c ch.maker x s).nodes)) premise.same_size)
      (λ n k is. if-unused (m.0 == n.0) kept k (λ same unused. subst (λ (x : NodeRecord). is_unused x.state ≡ true) (found-same s.nodes m n premise.node k same premise.held.stands is) (put-was m kept premise unused)))
      old.unused
  unused-was (NodesChange.Remove m) premise = removed s.jobs m g.nodes (grown-numbered c s ch.maker ch.grows inv.numbered).nodes_rise (unused-allocated ch.maker ch.grows)
  unused-was (NodesChange.Leave m) premise = same-looks s.jobs g.nodes _ (λ n. leave-node ch.maker m n g.nodes) (unused-allocated ch.maker ch.grows)
  unused-was (NodesChange.FreeAll r) premise =
      mapped s.jobs g.nodes _ (λ n k. cond (is_request r k.allocated_to) (freed k) k) (λ n. node_in-freed r n g.nodes)
      (λ n k is. if-unused (is_request r k.allocated_to) (freed k) k (λ _ unused. unused)) (unused-allocated ch.maker ch.grows)
  unused-was (NodesChange.TakeOver numbers) premise =
      mapped s.jobs g.nodes _ (λ n k. cond (list_any (λ m. m.0 == n.0) numbers) (used_from g.tick k) k) (λ n. node_in-in_use g.tick numbers n g.nodes)
      (λ n k is. if-unused (list_any (λ m. m.0 == n.0) numbers) (used_from g.tick k) k (λ _ unused. absurd (false≢true unused))) (unused-allocated ch.maker ch.grows)

  unused-before : UnusedFree s.jobs t.nodes
  unused-before = same-looks s.jobs _ t.nodes (nodes-after c s ch ch.maker ch.grows ch.nodes refl refl refl) (unused-was ch.nodes given.nodes)

  -- nodes that a job takes over are used
  taken-used : (numbers : List NodeId) → ch.nodes ≡ NodesChange.TakeOver numbers → (n : NodeId) (k : NodeRecord) → node_in n t.nodes ≡ Some k → is_unused k.state ≡ true → list_any (λ m. m.0 == n.0) numbers ≡ false
  taken-used numbers takes n k is unused =
      by (list_any (λ m. m.0 == n.0) numbers) (node_in n g.nodes) (sym (nodes-after c s ch ch.maker ch.grows (NodesChange.TakeOver numbers) refl refl takes n ∙ node_in-in_use g.tick numbers n g.nodes) ∙ is)
    where
      by : (b : Bool) (o : Option NodeRecord) → option_map (λ x. cond b (used_from g.tick x) x) o ≡ Some k → b ≡ false
      by false o here = refl
      by true None here = absurd (none-some k here)
      by true (Some x) here = absurd (false≢true (ap (λ (y : NodeRecord). is_unused y.state) (same_Some (used_from g.tick x) k here) ∙ unused))

  -- ## the jobs, later

  -- so a node that is taken over is no job's, and there
  pub taken-free : (r : RequestId) (takes : TakesOver c s ch r) (n : NodeId) → list_any (λ m. m.0 == n.0) takes.request.nodes ≡ true → IsFree s.jobs n × (n.0 < s.next_node)
  taken-free r takes n among =
      let owns = owns-if s r takes.request takes.request.state takes.fulfilled (inv.owned.requests r takes.request takes.request_stands) in
      let place = node-place n takes.request.nodes among in
      let label = member-there takes.request.labels place.0 (subst (λ (size : ℕ). place.0 < size) owns.as_many (slice_get_within takes.request.nodes place.0 n place.1)) in
      let is = owns.each place.0 n label.0 place.1 label.1 in
      (old.unused n is.node is.stands (or_right _ _ is.ready), node_in-below n s.next_node is.node s.nodes inv.numbered.nodes_below is.stands)

  -- no job has a node that none had and none takes over
  still-free : (change : JobsChange) → ch.jobs ≡ change → JobsPremise c s ch change → (n : NodeId) → IsFree s.jobs n
      → ((r : RequestId) (takes : TakesOver c s ch r) → list_any (λ m. m.0 == n.0) takes.request.nodes ≡ false) → IsFree (jobs_changed change s.jobs) n
  still-free JobsChange.Same at premise n free none = free
  still-free (JobsChange.EndNode j m) at premise n free none =
      list_any-none (is_marked n) (change_at j.0 (with_mark m) s.jobs) (all-change_at (λ job. is_marked n job ≡ false) j.0 (with_mark m) s.jobs (λ job out. marked-has m n job ∙ out) (none-list_any (is_marked n) s.jobs free))
  still-free (JobsChange.Put j later) at premise n free none = none-set (is_marked n) s.jobs j.0 later free (by (put-nodes c s ch j later at premise)) where
    by : KeepsNodes s j later ⊎ TakesNodes c s ch j later → is_marked n later ≡ false
    by (inl keeps) = ap (λ (marks : List Marked). list_any (λ m. m.node.0 == n.0) marks) keeps.same ∙ none-there (is_marked n) s.jobs j.0 keeps.kept free keeps.stands
    by (inr takes) = ap (λ (marks : List Marked). list_any (λ m. m.node.0 == n.0) marks) takes.all ∙ unended-has n takes.takes.request.nodes ∙ none takes.request takes.takes

  still-bare : (change : JobsChange) → ch.jobs ≡ change → JobsPremise c s ch change → AllByRecursion IsBare (jobs_changed change s.jobs)
  still-bare JobsChange.Same at premise = old.early
  still-bare (JobsChange.EndNode j m) at premise =
      all-change_at IsBare j.0 (with_mark m) s.jobs (λ job bare early. ap (λ (marks : List Marked). map (marked m) marks) (bare early)) old.early
  still-bare (JobsChange.Put j later) at premise = all-set IsBare s.jobs j.0 later (by (put-nodes c s ch j later at premise)) old.early where
    by : KeepsNodes s j later ⊎ TakesNodes c s ch j later → IsBare later
    by (inl keeps) = λ early. keeps.same ∙ all-at IsBare s.jobs j.0 keeps.kept old.early keeps.stands (keeps.early (early-open later.phase early))
    by (inr takes) = λ early. absurd (false≢true (sym (ap is_early takes.in_use) ∙ early))

  as-grown : (P : List JobRecord → Type 0) → P (jobs_changed ch.jobs s.jobs) → P t.jobs
  as-grown P is = subst (λ (rows : List JobRecord). P (jobs_changed ch.jobs rows)) (sym (jobs-grown c ch.maker ch.grows s)) is

  pub unused-changed : AreUnused t
  unused-changed = record {
    early = as-grown (λ rows. AllByRecursion IsBare rows) (still-bare ch.jobs refl given.jobs);
    unused = λ n k is unused.
        as-grown (λ rows. IsFree rows n) (still-free ch.jobs refl given.jobs n (unused-before n k is unused) (λ r takes. taken-used takes.request.nodes takes.takes n k is unused));
    later = λ n past.
        let was : s.next_node ≤ n.0 = omega (arith, next-more c ch.maker ch.grows s, past) in
        as-grown (λ rows. IsFree rows n) (still-free ch.jobs refl given.jobs n (old.later n was) (λ r takes.
        false_from_ne_true (list_any (λ m. m.0 == n.0) takes.request.nodes) (λ among. let below : n.0 < s.next_node = (taken-free r takes n among).1 in omega arith)));
  }

-- ## every state that a run leads to

unused-start : (c : Configuration) → AreUnused (start c)
unused-start c = record {
  early = all-map IsBare (λ (_ : Job). new_job) c.jobs (λ row early. refl);
  unused = λ n k is unused. absurd cc;
  later = λ n past. list_any-none (is_marked n) (map (λ _. new_job) c.jobs) (all-map (λ job. is_marked n job ≡ false) (λ (_ : Job). new_job) c.jobs (λ row. refl));
}

abbrev Holds : Configuration → State → Type 0
Holds c s = Invariant c s × AreUnused s

holds-next : (c : Configuration) (s : State) (e : Event) → Holds c s → Holds c (next c s e)
holds-next c s e old = by_bool (λ _. Holds c (next c s e)) (is_ok (judge c s e))
    (λ ok. let given : Premises c s (plan c s e) = premises c s e ok in
    subst (Holds c) (plan-next c s e ok) (invariant-changed c s (plan c s e) old.0 given, unused-changed c s (plan c s e) old.0 old.1 given))
    (λ refused. rw refused old)

holds-after : (c : Configuration) (s : State) (journal : List Entry) → Holds c s → Holds c (state_after c s journal)
holds-after c s [] old = old
holds-after c s (entry ∷ journal) old = holds-after c (next c s entry.event) journal (holds-next c s entry.event old)

pub unused-reached : (c : Configuration) (s : State) → IsReached c s → AreUnused s
unused-reached c s reached = subst AreUnused reached.runs.ends (holds-after c (start c) reached.journal (invariant-start c, unused-start c)).1

-- # what the changes of an event make of the owners of nodes

-- ## lists by place

pub owner_at-past : (i : ℕ) (owners : List (Option JobId)) → length owners ≤ i → owner_at i owners ≡ None
owner_at-past i owners past = ap (λ (o : Option (Option JobId)). unwrap_or o None) (slice_get_past owners i past)

length-with : (j : JobId) (nodes : List Marked) (owners : List (Option JobId)) → length (owners_with j nodes owners) ≡ length owners
length-with j [] owners = refl
length-with j (m ∷ nodes) owners = length-with j nodes (slice_set owners m.node.0 (Some j)) ∙ length-set owners m.node.0 (Some j)

owner_at-set : (i k : ℕ) (o : Option JobId) (owners : List (Option JobId)) → k < length owners → owner_at k (slice_set owners i o) ≡ cond (i == k) o (owner_at k owners)
owner_at-set i k o owners within =
    let there = member-there owners k within in
    by_bool (λ (b : Bool). owner_at k (slice_set owners i o) ≡ cond b o (owner_at k owners)) (i == k)
    (λ is. ap (λ (n : ℕ). owner_at k (slice_set owners n o)) (eqb-true i k is) ∙ ap (λ (x : Option (Option JobId)). unwrap_or x None) (set-here owners k o there.0 there.1))
    (λ other. ap (λ (x : Option (Option JobId)). unwrap_or x None) (set-other owners i k o (λ same. absurd (grind (arith, nat_tests)))))

-- at the place of a node is the job if it has the node, and else what was there
owner_at-with : (j : JobId) (k : ℕ) (nodes : List Marked) (owners : List (Option JobId)) → k < length owners → owner_at k (owners_with j nodes owners) ≡ cond (list_any (λ m. m.node.0 == k) nodes) (Some j) (owner_at k owners)
owner_at-with j k [] owners within = refl
owner_at-with j k (m ∷ nodes) owners within =
    owner_at-with j k nodes (slice_set owners m.node.0 (Some j)) (omega (arith, length-set owners m.node.0 (Some j), within))
    ∙ grind (arith, owner_at-set m.node.0 k (Some j) owners within)

-- ## owners, by the changes of an event

abbrev as_job : Option ℕ → Option JobId
as_job o = option_map (λ (at : ℕ). record { 0 = at }) o

-- what grows
owners-grown : (c : Configuration) (s : State) (maker : Option Maker) (growth : Growth) (owners : List (Option JobId)) → AreOwners s owners → AreOwners (grown c maker growth s) (owners_grown growth owners)
owners-grown c s maker (Growth.Node kept) owners is = record {
  each = λ n. at-push None n.0 owners ∙ is.each n;
  many = let more : length (owners ++ None ∷ []) ≡ length owners + 1 = simp length-append refl in omega (arith, more, is.many);
}
owners-grown c s None growth owners is = record { each = is.each; many = is.many }
owners-grown c s (Some m) growth owners is = record { each = is.each; many = is.many }

module _ (c : Configuration) (s : State) (ch : Changes) (inv : Invariant c s) (unused : AreUnused s) (given : Premises c s ch) where
  -- the owner of a node, after a job's record was put
  module _ (j : JobId) (later : JobRecord) where
    kept-owner : (n : NodeId) → KeepsNodes s j later → owner_of n (slice_set s.jobs j.0 later) ≡ owner_of n s.jobs
    kept-owner n keeps =
        ap as_job (first-same (is_marked n) s.jobs j.0 keeps.kept later keeps.stands (ap (λ (marks : List Marked). list_any (λ m. m.node.0 == n.0) marks) keeps.same))

    -- the job had no node before
    had-none : (n : NodeId) (takes : TakesNodes c s ch j later) → is_marked n takes.takes.kept ≡ false
    had-none n takes =
        let early : is_early takes.takes.kept.phase ≡ true = or_right _ _ takes.takes.asked in
        let none : takes.takes.kept.nodes ≡ [] = all-at _ s.jobs j.0 takes.takes.kept unused.early takes.stands early in
        ap (λ (marks : List Marked). list_any (λ m. m.node.0 == n.0) marks) none

    taken-owner : (n : NodeId) → TakesNodes c s ch j later → owner_of n (slice_set s.jobs j.0 later) ≡ cond (is_marked n later) (Some j) (owner_of n s.jobs)
    taken-owner n takes = by (is_marked n later) refl where
      by : (b : Bool) → is_marked n later ≡ b → owner_of n (slice_set s.jobs j.0 later) ≡ cond b (Some j) (owner_of n s.jobs)
      by true has =
          let among : list_any (λ m. m.0 == n.0) takes.takes.request.nodes ≡ true =
          sym (unended-has n takes.takes.request.nodes) ∙ ap (λ (marks : List Marked). list_any (λ m. m.node.0 == n.0) marks) (sym takes.all) ∙ has in
          ap as_job (first-set (is_marked n) s.jobs j.0 takes.takes.kept later (taken-free c s ch inv unused given takes.request takes.takes n among).0 takes.stands has)
      by false has = ap as_job (first-same (is_marked n) s.jobs j.0 takes.takes.kept later takes.stands (has ∙ sym (had-none n takes)))

  -- what happens to jobs: t is the state after it
  module _ (t : State) (owners : List (Option JobId)) (each : (n : NodeId) → owner_at n.0 owners ≡ owner_of n s.jobs) (many : length owners ≡ t.next_node) (later : AreUnused t) where
    owners-settled : (change : JobsChange) → ch.jobs ≡ change → JobsPremise c s ch change → t.jobs ≡ jobs_changed change s.jobs → AreOwners t (owners_changed change owners)
    owners-settled JobsChange.Same at premise jobs_are = record { each = λ n. each n ∙ ap (owner_of n) (sym jobs_are); many = many }
    owners-settled (JobsChange.EndNode j m) at premise jobs_are = record {
      each = λ n. each n ∙ ap as_job (sym (first-changed (is_marked n) j.0 (with_mark m) s.jobs (marked-has m n))) ∙ ap (owner_of n) (sym jobs_are);
      many = many;
    }
    owners-settled (JobsChange.Put j kept) at premise jobs_are = by (put-nodes c s ch j kept at premise) where
      by : KeepsNodes s j kept ⊎ TakesNodes c s ch j kept → AreOwners t (cond (is_using kept.phase) (owners_with j kept.nodes owners) owners)
      by (inl keeps) = rw keeps.idle (record { each = λ n. each n ∙ sym (kept-owner j kept n keeps) ∙ ap (owner_of n) (sym jobs_are); many = many })
      by (inr takes) = let using : is_using kept.phase ≡ true = ap is_using takes.in_use in rw using (record {
        each = λ n. at_place n (cases_lt n.0 (length owners));
        many = length-with j kept.nodes owners ∙ many;
      }) where
        at_place : (n : NodeId) → (n.0 < length owners) ⊎ (length owners ≤ n.0) → owner_at n.0 (owners_with j kept.nodes owners) ≡ owner_of n t.jobs
        at_place n (inl within) =
            owner_at-with j n.0 kept.nodes owners within
            ∙ ap (λ (o : Option JobId). cond (is_marked n kept) (Some j) o) (each n)
            ∙ sym (taken-owner j kept n takes)
            ∙ ap (owner_of n) (sym jobs_are)
        at_place n (inr past) =
            owner_at-past n.0 (owners_with j kept.nodes owners) (omega (arith, length-with j kept.nodes owners, past))
            ∙ ap as_job (sym (none-first (is_marked n) t.jobs (later.later n (omega (arith, many, past)))))

  pub owners-changed : (owners : List (Option JobId)) → AreOwners s owners → AreOwners (changed c ch s) (owners_changed ch.jobs (owners_grown ch.grows owners))
  owners-changed owners is =
      let g = grown c ch.maker ch.grows s in
      let made = owners-grown c s ch.maker ch.grows owners is in
      let same : g.jobs ≡ s.jobs = jobs-grown c ch.maker ch.grows s in
      owners-settled (changed c ch s) (owners_grown ch.grows owners) (λ n. made.each n ∙ ap (owner_of n) same) made.many (unused-changed c s ch inv unused given) ch.jobs refl given.jobs (ap (jobs_changed ch.jobs) same)

-- # the owners of nodes, made node by node

-- the owners of the nodes below a number
pub record AreOwnersBelow (s : State) (number : ℕ) (owners : List (Option JobId)) : Type 0 where
  pub many : length owners ≡ number
  pub each : (n : NodeId) → n.0 < number → owner_at n.0 owners ≡ owner_of n s.jobs

-- one more
pub owners-more : (s : State) (number : ℕ) (owners later : List (Option JobId)) (o : Option JobId) → AreOwnersBelow s number owners → later ≡ owners ++ o ∷ [] → o ≡ owner_of (record { 0 = number }) s.jobs → AreOwnersBelow s (number + 1) later
owners-more s number owners later o made added read = record {
  many = let more : length (owners ++ o ∷ []) ≡ length owners + 1 = simp length-append refl in omega (arith, ap length added, more, made.many);
  each = λ n below. ap (owner_at n.0) added ∙ by n below (cases_lt n.0 number);
} where
  by : (n : NodeId) → n.0 < number + 1 → (n.0 < number) ⊎ (number ≤ n.0) → owner_at n.0 (owners ++ o ∷ []) ≡ owner_of n s.jobs
  by n below (inl before) = ap (λ (x : Option (Option JobId)). unwrap_or x None) (slice_get-left owners [] o n.0 (omega (arith, made.many, before))) ∙ made.each n before
  by n below (inr past) =
      let last : n.0 ≡ length owners = omega (arith, made.many, below, past) in
      let same : number ≡ n.0 = omega (arith, below, past) in
      ap (λ (x : Option (Option JobId)). unwrap_or x None) (slice_get-middle owners [] o n.0 last) ∙ read ∙ ap (λ (i : ℕ). owner_of (record { 0 = i }) s.jobs) same

-- a node that was not made yet has none
pub owners-all : (c : Configuration) (s : State) → IsReached c s → (number : ℕ) (owners : List (Option JobId)) → number ≡ s.next_node → AreOwnersBelow s number owners → AreOwners s owners
owners-all c s reached number owners all made = record { each = λ n. by n (cases_lt n.0 number); many = made.many ∙ all } where
  by : (n : NodeId) → (n.0 < number) ⊎ (number ≤ n.0) → owner_at n.0 owners ≡ owner_of n s.jobs
  by n (inl below) = made.each n below
  by n (inr past) =
      owner_at-past n.0 owners (omega (arith, made.many, past))
      ∙ ap (λ (o : Option ℕ). option_map (λ (at : ℕ). record { 0 = at }) o) (sym (none-first (is_marked n) s.jobs ((unused-reached c s reached).later n (omega (arith, all, past)))))
