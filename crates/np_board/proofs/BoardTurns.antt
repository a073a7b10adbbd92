-- what a turn at a board leaves: its entries, outstanding plans, due nodes and watches
use Rattle.np_board.proofs.Prelude.{AllByRecursion, AreFreshPaths, AreOfSpots, Ask, Bool, Configuration, Entry, Err, Event, FreshAreAccepted, FreshCommits, HasNoNews, Holds, IfOk, IsAsBefore, IsCommitted, IsDue, IsKept, IsLater, IsMayDo, IsNewPlan, IsNotKept, IsOutstanding, IsPlanTaken, IsPlanning, IsReplied, IsStored, IsTaken, IsUseful, Janitor, Launcher, List, MatchResult, NoMemory, NodeId, NodeRecord, None, Ok, OnErr, Option, Outstanding, PlanAsk, PlanTurn, Planning, PoolId, Ran, Reply, Result, Role, Runs, RunsOn-reached, SessionId, Since, Some, Spot, SpotsHaveParents, SpotsHavePaths, StaleHasParent, StandsIn, State, TakenNews, TreeState, Turn, Watch, after, all-find, all-remove_first, and_from, and_parts, answer_of, answers, answers_act, answers_do, answers_due, answers_sweep, ap, append-nil, applied, arith, change_at, change_at-twice, current-has, dite, entries_of, equal-itself, equal-numbers, false, false_from_ne_true, find, fired_spot, from-map_some, get_or_from_slice_get, has_current, has_key, has_room, holder-queued, holder-waits, if◌then◌else◌, insert_before, is_current, is_deleting, is_due, is_fired, is_legal, is_ok, is_session_of, is_some, is_swept, is_watched, judge, key_before, later-joined, later-than-itself, legal-next, length, length-append, length-change_at, length-map, length-replicate, length-take-le, list_any, member-there, nat_lt, nat_tests, node_holder, node_in, node_queue, not, ok-is, one-current, option_and_then, option_map_or, path_at, paths_at, plan_answers, plan_in, plan_of, plan_recorded, queued-node, queued_nodes, recorded, refl, remove_first, remove_first-absent, replicate, reply_of, rules, slice_get, slice_get-change_at, slice_get-change_at_other, spots_of, subst, suc, sym, take, take-append-le, take-length, take_more, told_by, true, turn-replied, watch_of, watches_from, watches_of, with_plan, with_watch, zero, ℕ, ℕ_discrete, [], ◌&&◌, ◌++◌, ◌+◌, ◌<◌, ◌==◌, ◌∙◌, ◌∷◌, ◌≡◌, ◌≤◌}
use Rattle.np_board.specs.Outstanding.{ran_of}

-- # outstanding plans, from turn to turn

-- ## lists

pub is-some-within : {X : Type 0} (xs : List X) (i : ℕ) → i < length xs → is_some (slice_get xs i) ≡ true
is-some-within xs i within = let x = member-there xs i within in rw x.1 refl

-- ## the plan of a pool

pub plan-there : (p : PoolId) (plans : List (Option Outstanding)) (x : Outstanding) → plan_of p plans ≡ Some x → slice_get plans p.0 ≡ Some (Some x)
plan-there p plans x is = grind arith

same-put : (i : ℕ) (o : Option Outstanding) (plans : List (Option Outstanding)) → plan_in (slice_get plans i) ≡ o → change_at i (λ _. o) plans ≡ plans
same-put i o [] there = refl
same-put zero o (x ∷ plans) there = ap (λ (y : Option Outstanding). y ∷ plans) (sym there)
same-put (suc i) o (x ∷ plans) there = ap (λ (rest : List (Option Outstanding)). x ∷ rest) (same-put i o plans there)

-- a pool's own plan, or none, put in its place
pub with-same : (p : PoolId) (o : Option Outstanding) (plans : List (Option Outstanding)) → plan_of p plans ≡ o → with_plan p o plans ≡ plans
with-same p o plans is = same-put p.0 o plans is

-- a plan that is put in place of another
pub with-twice : (p : PoolId) (a b : Option Outstanding) (plans : List (Option Outstanding)) → with_plan p b (with_plan p a plans) ≡ with_plan p b plans
with-twice p a b plans = change_at-twice p.0 (λ (_ : Option Outstanding). b) (λ (_ : Option Outstanding). a) plans

-- ## a plan, later

-- over a longer journal and a later tree, with all watches or fewer
outstanding-on : (c : Configuration) (journal longer : List Entry) (t u : TreeState) (p : ℕ) (x : Outstanding) (ws : List Watch) → length journal ≤ length longer → ((k : ℕ) → k ≤ length journal → take k longer ≡ take k journal) → IsLater t u → (AreOfSpots x → AreOfSpots (record x { watches = ws })) →
    IsOutstanding c journal t p x → IsOutstanding c longer u p (record x { watches = ws })
outstanding-on c journal longer t u p x ws more same later fewer old = record {
  pool = old.pool;
  place = old.place;
  within = omega (arith, more, old.within);
  before = old.before;
  runs = subst (λ (j : List Entry). Runs c j old.before) (sym (same old.place old.within)) old.runs;
  peeked = old.peeked;
  stored = old.stored;
  at = old.at;
  later = later-joined old.peeked t u old.later later;
  useful = old.useful;
  planned = old.planned;
  spots = old.spots;
  paths = old.paths;
  watches = fewer old.watches;
}

-- ## a new plan

all-of-spots : (spots : List Spot) (z k : ℕ) (paths : List (List ℕ)) → k + length paths ≤ length spots → AllByRecursion (λ (w : Watch). is_some (slice_get spots w.key) ≡ true) (watches_from z k paths)
all-of-spots spots z k [] few = tt
all-of-spots spots z k (path ∷ paths) few = (is-some-within spots k (omega arith), all-of-spots spots z (suc k) paths (omega arith))

pub stored-of : (c : Configuration) (s : State) (t : TreeState) → Holds c s t → IsStored c s t
stored-of c s t holds = subst (λ (u : State). IsStored c u t) holds.state holds.held.stored

pub new-outstanding : (c : Configuration) (journal : List Entry) (s : State) (t : TreeState) (p : PoolId) (x : Outstanding) → Runs c journal s → Holds c s t → IsNewPlan c s t p x → IsOutstanding c journal t p.0 x
new-outstanding c journal s t p x runs holds new =
    let watches : AreOfSpots x = rw (new.watches, new.paths) (all-of-spots x.plan.spots x.plan.at 0 (paths_at x.plan.spots) (omega (arith, length-map path_at x.plan.spots))) in
    record {
      pool = ap (λ (q : PoolId). q.0) new.pool;
      place = length journal;
      within = omega arith;
      before = s;
      runs = subst (λ (j : List Entry). Runs c j s) (sym (take-length journal)) runs;
      peeked = t;
      stored = stored-of c s t holds;
      at = sym new.at;
      later = later-than-itself t;
      useful = subst (λ (q : PoolId). IsUseful c s (Launcher q) x.plan.event) (sym new.pool) new.useful;
      planned = new.planned;
      spots = new.spots;
      paths = new.paths;
      watches = watches;
    }

-- ## the board

-- what the tree and the journal did, no plan is lost
pub planning-later : (m n : Planning) (es : List Entry) → IsPlanning m → n.configuration ≡ m.configuration → n.journal ≡ m.journal ++ es → IsLater m.tree n.tree → n.plans ≡ m.plans → n.commits ≡ m.commits → IsPlanning n
planning-later m n es planning configuration journal later plans commits = record {
  plans = λ p x there.
      let was : slice_get m.plans p ≡ Some (Some x) = subst (λ (ps : List (Option Outstanding)). slice_get ps p ≡ Some (Some x)) plans there in
      let after : IsOutstanding m.configuration (m.journal ++ es) n.tree p x = outstanding-on m.configuration m.journal (m.journal ++ es) m.tree n.tree p x x.watches (omega (arith, length-append {A = Entry} m.journal es)) (λ k within. take-append-le k m.journal es within) later (λ of. of) (planning.plans p x was) in
      rw (configuration, journal) after;
  room = rw (plans, configuration) planning.room;
  commits = rw (commits, journal) (omega (arith, planning.commits, length-append {A = Entry} m.journal es));
}

-- a pool's plan is another
pub planning-with : (m : Planning) (p : PoolId) (o : Option Outstanding) → IsPlanning m → ((x : Outstanding) → o ≡ Some x → IsOutstanding m.configuration m.journal m.tree p.0 x) → IsPlanning (record m { plans = with_plan p o m.plans })
planning-with m p o planning new = record {
  plans = each;
  room = length-change_at p.0 (λ (_ : Option Outstanding). o) m.plans ∙ planning.room;
  commits = planning.commits;
} where
  each : (q : ℕ) (x : Outstanding) → slice_get (with_plan p o m.plans) q ≡ Some (Some x) → IsOutstanding m.configuration m.journal m.tree q x
  each q x there = dite (ℕ_discrete q p.0)
      (λ same. subst (λ (k : ℕ). IsOutstanding m.configuration m.journal m.tree k x) (sym same) (new x (from-map_some (λ (_ : Option Outstanding). o) (slice_get m.plans p.0) (Some x) (sym (slice_get-change_at p.0 (λ (_ : Option Outstanding). o) m.plans) ∙ subst (λ (k : ℕ). slice_get (with_plan p o m.plans) k ≡ Some (Some x)) same there)).2))
      (λ other. planning.plans q x (sym (slice_get-change_at_other p.0 q (λ (_ : Option Outstanding). o) m.plans other) ∙ there))

-- ## what a plan says now

module _ (m : Planning) (p : PoolId) (x : Outstanding) (planning : IsPlanning m) (there : plan_of p m.plans ≡ Some x) where
  pub plan-out : IsOutstanding m.configuration m.journal m.tree p.0 x
  plan-out = planning.plans p.0 x (plan-there p m.plans x there)

  -- its paths are those of its event
  same-paths : x.paths ≡ paths_at (spots_of plan-out.before x.plan.event)
  same-paths = plan-out.paths ∙ ap paths_at plan-out.spots

  pub plan-few : SpotsHavePaths → length x.paths ≤ 68
  plan-few law =
      let have = law m.configuration (take plan-out.place m.journal) plan-out.before plan-out.peeked x.plan.event plan-out.runs plan-out.stored plan-out.planned plan-out.useful.accepted in
      rw same-paths (omega (arith, have.few, length-map path_at (spots_of plan-out.before x.plan.event)))

  module _ (runs : Runs m.configuration m.journal m.state) (holds : Holds m.configuration m.state m.tree) where
    since-plan : Since x.plan.at plan-out.peeked m.tree
    since-plan = plan-out.later.since x.plan.at (omega (arith, plan-out.at))

    pub plan-accepted : FreshCommits → AreFreshPaths x.plan.at m.tree x.paths → is_ok (judge m.configuration m.state x.plan.event) ≡ true
    plan-accepted law fresh =
        law m.configuration m.journal plan-out.before m.state plan-out.peeked m.tree x.plan.at x.plan.event runs plan-out.stored (stored-of m.configuration m.state m.tree holds) since-plan
        (subst (λ (paths : List (List ℕ)). AreFreshPaths x.plan.at m.tree paths) same-paths fresh) plan-out.planned plan-out.useful.accepted

    pub plan-parent : SpotsHaveParents → StaleHasParent m.tree x.plan.at x.paths
    plan-parent law =
        rw same-paths (law m.configuration (take plan-out.place m.journal) plan-out.before m.state plan-out.peeked m.tree x.plan.at x.plan.event plan-out.runs plan-out.stored (stored-of m.configuration m.state m.tree holds) since-plan plan-out.planned plan-out.useful.accepted)

-- of each outstanding plan, a spot isn't fresh, or the event is accepted
pub fresh-accepted : (m : Planning) → FreshCommits → IsPlanning m → Runs m.configuration m.journal m.state → Holds m.configuration m.state m.tree → FreshAreAccepted m
fresh-accepted m law planning runs holds = λ p x is fresh. plan-accepted m p x planning is runs holds law fresh

-- ## each turn

-- before the first event
pub start-planning : (m : Planning) (n : ℕ) → n ≡ length m.configuration.pools → m.plans ≡ replicate n None → m.commits ≡ 0 → IsPlanning m
start-planning m n pools plans commits = record {
  plans = λ p x there. absurd (never n p x (subst (λ (ps : List (Option Outstanding)). slice_get ps p ≡ Some (Some x)) plans there));
  room = ap (λ (ps : List (Option Outstanding)). length ps) plans ∙ (length-replicate {A = Option Outstanding} n None ∙ pools);
  commits = omega (arith, commits);
} where
  never : (k p : ℕ) (x : Outstanding) → slice_get (replicate k None) p ≡ Some (Some x) → ⊥
  never zero p x is = cc
  never (suc k) zero x is = cc
  never (suc k) (suc p) x is = never k p x is

module _ (m n : Planning) (planning : IsPlanning m) (later : IsLater m.tree n.tree) where
  -- memory ran out
  pub planning-same : ran_of n ≡ ran_of m → n.plans ≡ m.plans → n.commits ≡ m.commits → IsPlanning n
  planning-same same plans commits =
      planning-later m n [] planning (ap (λ (r : Ran). r.configuration) same) (ap (λ (r : Ran). r.journal) same ∙ sym (append-nil m.journal)) later plans commits

  -- a turn without a plan
  pub planning-taken : (a : Ask) (r : Result Turn NoMemory) → IfOk r (λ t. IsTaken (ran_of m) a t (ran_of n)) → OnErr r (ran_of n ≡ ran_of m) → n.plans ≡ m.plans → n.commits ≡ m.commits → IsPlanning n
  planning-taken a (Ok t) taken same plans commits = planning-later m n (entries_of (recorded a t)) planning taken.configuration taken.journal later plans commits
  planning-taken a (Err e) taken same plans commits = planning-same same plans commits

  -- a commit
  pub planning-committed : (p : PoolId) (e : Entry) → n.configuration ≡ m.configuration → n.journal ≡ m.journal ++ e ∷ [] → n.plans ≡ with_plan p None m.plans → n.commits ≡ m.commits + 1 → IsPlanning n
  planning-committed p e configuration journal plans commits =
      let grown : Planning = record n { plans = m.plans; commits = m.commits } in
      let mid : IsPlanning grown = planning-later m grown (e ∷ []) planning configuration journal later refl refl in
      let done : IsPlanning (record grown { plans = with_plan p None m.plans }) = planning-with grown p None mid (λ x is. absurd cc) in
      record {
        plans = λ q x there. done.plans q x (subst (λ (ps : List (Option Outstanding)). slice_get ps q ≡ Some (Some x)) plans there);
        room = ap (λ (ps : List (Option Outstanding)). length ps) plans ∙ done.room;
        commits = rw (commits, journal) (omega (arith, planning.commits, length-append {A = Entry} m.journal (e ∷ [])));
      }

-- a watch of a pool's plan was taken out
pub planning-news : (m : Planning) (p : PoolId) (x : Outstanding) → IsPlanning m → plan_of p m.plans ≡ Some x → IsPlanning (record m { plans = with_plan p (Some (record x { watches = remove_first (is_fired m.tree) x.watches })) m.plans })
planning-news m p x planning there =
    let less : Outstanding = record x { watches = remove_first (is_fired m.tree) x.watches } in
    let out = outstanding-on m.configuration m.journal m.journal m.tree m.tree p.0 x less.watches (omega arith) (λ k _. refl) (later-than-itself m.tree) (all-remove_first (λ (w : Watch). is_some (slice_get x.plan.spots w.key) ≡ true) (is_fired m.tree) x.watches) (plan-out m p x planning there) in
    planning-with m p (Some less) planning (λ y is. let same : less ≡ y = cc in subst (λ (z : Outstanding). IsOutstanding m.configuration m.journal m.tree p.0 z) same out)

-- # what a turn at a board leaves

-- ## news

module _ (old : Planning) (p : PoolId) (x : Outstanding) (there : plan_of p old.plans ≡ Some x) where
  -- the board with the plan put back with one watch less
  abbrev less : Outstanding
  less = record x { watches = remove_first (is_fired old.tree) x.watches }

  no-news : AreOfSpots x → fired_spot old.tree x ≡ None → find (is_fired old.tree) x.watches ≡ None
  no-news of none =
      let some : (w : Watch) → find (is_fired old.tree) x.watches ≡ Some w → is_some (slice_get x.plan.spots w.key) ≡ true = λ w. all-find (λ (v : Watch). is_some (slice_get x.plan.spots v.key) ≡ true) (is_fired old.tree) x.watches w of in
      grind (arith, some)

  fired-by : (spot : Spot) (o : Option Watch) → option_and_then (λ (w : Watch). slice_get x.plan.spots w.key) o ≡ Some spot → (w : Watch) × ((o ≡ Some w) × (slice_get x.plan.spots w.key ≡ Some spot))
  fired-by spot None is = absurd cc
  fired-by spot (Some w) is = (w, (refl, is))

  -- what the news of a plan are: no watch of it fires, or the first that does
  pub news-taken : (o : Option Spot) (new : Planning) → AreOfSpots x → o ≡ fired_spot old.tree x → new ≡ record old { plans = with_plan p (Some less) (with_plan p None old.plans) } → TakenNews old p (told_by o) new
  news-taken None new of is left =
      let quiet = no-news of (sym is) in (
        λ plan stands. let same : x ≡ plan = cc in subst (λ (y : Outstanding). find (is_fired old.tree) y.watches ≡ None) same quiet,
        left ∙ ap (λ (plans : List (Option Outstanding)). record old { plans = plans })
            (ap (λ (ws : List Watch). with_plan p (Some (record x { watches = ws })) (with_plan p None old.plans)) (remove_first-absent (is_fired old.tree) x.watches quiet)
            ∙ (with-twice p None (Some x) old.plans ∙ with-same p (Some x) old.plans there)),
      )
  news-taken (Some spot) new of is left =
      let fired = fired-by spot (find (is_fired old.tree) x.watches) (sym is) in
      record {
        plan = x;
        there = there;
        watch = fired.0;
        fired = fired.1.0;
        of = fired.1.1;
        left = left ∙ ap (λ (plans : List (Option Outstanding)). record old { plans = plans }) (with-twice p None (Some less) old.plans);
      }

-- ## a commit

module _ (old new : Planning) (p : PoolId) (e : Event) (r : Reply) where
  pub committed : FreshAreAccepted old → IsPlanning old → Runs old.configuration old.journal old.state → (may : IsMayDo old p e) → r ≡ answer_of (ran_of old) e → ran_of new ≡ applied (ran_of old) e → new.plans ≡ with_plan p None old.plans → new.commits ≡ old.commits + 1 → IsLater old.tree new.tree → IsCommitted old p (record { event = e; reply = r }) new
  committed accept planning runs may replied is plans commits later =
      let x = may.plan in
      let out = planning.plans p.0 x (plan-there p old.plans x may.there) in
      let accepted : is_ok (judge old.configuration old.state e) ≡ true = subst (λ (f : Event). is_ok (judge old.configuration old.state f) ≡ true) may.event (accept p x may.there may.fresh) in
      let roomy : has_room (ran_of old) ≡ true = let room = may.room in grind (arith, nat_tests) in
      let reply-is : r ≡ reply_of (judge old.configuration old.state e) = replied ∙ rw roomy refl in
      let ends : old.state ≡ after old.configuration old.journal = sym runs.ends in
      let done = ok-is (judge old.configuration old.state e) accepted in
      record {
        plan = x;
        there = may.there;
        fresh = may.fresh;
        event = sym may.event;
        was = record {
          planned = rw (← may.event) out.planned;
          place = out.place;
          within = out.within;
          useful = rw (out.runs.ends, ← may.event) (subst (λ (q : PoolId). IsUseful old.configuration out.before (Launcher q) x.plan.event) (ap (λ (n : ℕ). record { 0 = n }) out.pool) out.useful);
          accepted = subst (λ (s : State). is_ok (judge old.configuration s e) ≡ true) ends accepted;
        };
        replied = record { room = may.room; reply = reply-is ∙ ap (λ (s : State). reply_of (judge old.configuration s e)) ends };
        done = done.0;
        accepted = reply-is ∙ ap reply_of done.1;
        configuration = ap (λ (m : Ran). m.configuration) is;
        journal = ap (λ (m : Ran). m.journal) is ∙ rw roomy (ap (λ (y : Reply). old.journal ++ record { event = e; reply = y } ∷ []) (sym reply-is));
        plans = plans;
        commits = commits;
        later = later;
      }

-- ## at a desk

module _ (old new : Planning) where
  -- the turn answers as a desk wants it
  pub taken-answers : (a : PlanAsk) (t : PlanTurn) → IsPlanTaken old a t new → plan_answers old.configuration old.journal a t
  taken-answers (PlanAsk.Plain plain) (PlanTurn.Plain t) taken = taken.taken.answer
  taken-answers (PlanAsk.Commit p) (PlanTurn.Did e) taken = (taken.was, taken.replied)
  taken-answers (PlanAsk.Commit p) PlanTurn.Full taken = taken.0.full
  taken-answers (PlanAsk.Peek p) (PlanTurn.Planned plan) taken = tt
  taken-answers (PlanAsk.News p) (PlanTurn.Fired spot) taken = tt
  taken-answers _ _ taken = search rules

  -- what a turn does to the journal
  abbrev pub Grows : PlanAsk → PlanTurn → Type 0
  Grows a t = (new.configuration ≡ old.configuration) × (new.journal ≡ old.journal ++ entries_of (plan_recorded a t))

  still : {next : Planning} → new ≡ next → next.configuration ≡ old.configuration → next.journal ≡ old.journal → (new.configuration ≡ old.configuration) × (new.journal ≡ old.journal ++ [])
  still is configuration journal = (ap (λ (m : Planning). m.configuration) is ∙ configuration, ap (λ (m : Planning). m.journal) is ∙ (journal ∙ sym (append-nil old.journal)))

  pub taken-grows : (a : PlanAsk) (t : PlanTurn) → IsPlanTaken old a t new → Grows a t
  taken-grows (PlanAsk.Plain plain) (PlanTurn.Plain t) taken = (taken.taken.configuration, taken.taken.journal)
  taken-grows (PlanAsk.Commit p) (PlanTurn.Did e) taken = (taken.configuration, taken.journal)
  taken-grows (PlanAsk.Peek p) (PlanTurn.Planned plan) taken = still taken.left refl refl
  taken-grows (PlanAsk.News p) (PlanTurn.Fired spot) taken = still taken.left refl refl
  taken-grows (PlanAsk.Commit p) (PlanTurn.Stale spot change) taken = still taken.left refl refl
  taken-grows (PlanAsk.Peek p) PlanTurn.Idle taken = still taken.1 refl refl
  taken-grows (PlanAsk.News p) PlanTurn.Idle taken = still taken.1 refl refl
  taken-grows (PlanAsk.Commit p) PlanTurn.Idle taken = still taken.1 refl refl
  taken-grows (PlanAsk.Commit p) PlanTurn.Full taken = still taken.1 refl refl
  taken-grows _ _ taken = absurd taken

-- each entry of a turn has the machine's reply
plan-replied : (c : Configuration) (journal : List Entry) (a : PlanAsk) (t : PlanTurn) (e : Entry) → plan_answers c journal a t → plan_recorded a t ≡ Some e → IsReplied c journal e
plan-replied c journal (PlanAsk.Plain plain) (PlanTurn.Plain t) e answer is = turn-replied c journal plain t e answer is
plan-replied c journal (PlanAsk.Commit p) (PlanTurn.Did d) e answer is = let same : d ≡ e = cc in subst (λ (x : Entry). IsReplied c journal x) same answer.1
plan-replied c journal _ _ e answer is = absurd cc

legal-by : (c : Configuration) (journal : List Entry) (a : PlanAsk) (t : PlanTurn) (o : Option Entry) → plan_recorded a t ≡ o → is_legal c journal ≡ true → plan_answers c journal a t → is_legal c (journal ++ entries_of o) ≡ true
legal-by c journal a t None is legal answer = subst (λ (j : List Entry). is_legal c j ≡ true) (sym (append-nil journal)) legal
legal-by c journal a t (Some e) is legal answer = legal-next c journal e legal (plan-replied c journal a t e answer is)

pub plan-legal : (old new : Planning) (a : PlanAsk) (r : Result PlanTurn NoMemory) → is_legal old.configuration old.journal ≡ true → IfOk r (λ t. IsPlanTaken old a t new) → OnErr r (IsAsBefore old new) → is_legal old.configuration new.journal ≡ true
plan-legal old new a (Ok t) legal taken before =
    subst (λ (j : List Entry). is_legal old.configuration j ≡ true) (sym (taken-grows old new a t taken).1)
    (legal-by old.configuration old.journal a t (plan_recorded a t) refl legal (taken-answers old new a t taken))
plan-legal old new a (Err e) legal taken before = subst (λ (m : Ran). is_legal old.configuration m.journal ≡ true) (sym before.ran) legal

pub plan-history : (old new : Planning) (a : PlanAsk) (r : Result PlanTurn NoMemory) → IfOk r (λ t. IsPlanTaken old a t new) → OnErr r (IsAsBefore old new) → (new.configuration ≡ old.configuration) × MatchResult r (λ t. new.journal ≡ old.journal ++ entries_of (plan_recorded a t)) (λ _. new.journal ≡ old.journal)
plan-history old new a (Ok t) taken before = taken-grows old new a t taken
plan-history old new a (Err e) taken before = (ap (λ (m : Ran). m.configuration) before.ran, ap (λ (m : Ran). m.journal) before.ran)

-- ## what the methods leave

-- what holds where a turn does nothing, and what a choice has to know
pub ruleset turned = (later-than-itself, RunsOn-reached)

pub not-at-all : (old new : Planning) → new ≡ old → IsAsBefore old new
not-at-all old new is = rw is (record { ran = refl; plans = refl; commits = refl; later = later-than-itself old.tree })

-- there is no plan, and so no news
pub no-plan-news : (old new : Planning) (p : PoolId) → plan_of p old.plans ≡ None → new ≡ record old { plans = with_plan p None old.plans } → HasNoNews old p × (new ≡ old)
no-plan-news old new p none left = (
  λ plan there. absurd cc,
  left ∙ ap (λ (plans : List (Option Outstanding)). record old { plans = plans }) (with-same p None old.plans none),
)

pub err-before : (old new : Planning) (r : Result PlanTurn NoMemory) → OnErr r (new ≡ old) → OnErr r (IsAsBefore old new)
err-before old new (Ok t) is = is
err-before old new (Err e) is = not-at-all old new is

-- # what a turn leaves

-- ## a turn that records nothing

pub none-taken : (m : Ran) (ask : Ask) (t : Turn) → recorded ask t ≡ None → answers m.configuration m.journal ask t → IsTaken m ask t m
none-taken m ask t none answer = record {
  answer = answer;
  configuration = refl;
  journal = sym (ap (λ (o : Option Entry). m.journal ++ entries_of o) none ∙ append-nil m.journal);
}

-- ## an event that happens

pub do-taken : (old new : Ran) (e : Event) (r : Reply) → Runs old.configuration old.journal old.state → length old.journal < 262144 → r ≡ answer_of old e → new ≡ applied old e → IsTaken old (Ask.Do e) (Turn.Did (record { event = e; reply = r })) new
do-taken old new e r runs room replied is =
    let roomy : has_room old ≡ true = grind (arith, nat_tests) in
    let reply : r ≡ reply_of (judge old.configuration old.state e) = replied ∙ rw roomy refl in
    record {
      answer = (refl, record { room = room; reply = reply ∙ ap (λ (s : State). reply_of (judge old.configuration s e)) (sym runs.ends) });
      configuration = ap (λ (m : Ran). m.configuration) is;
      journal = ap (λ (m : Ran). m.journal) is ∙ rw roomy (ap (λ (x : Reply). old.journal ++ record { event = e; reply = x } ∷ []) (sym reply));
    }

-- ## a role's event

act-answers : (c : Configuration) (journal : List Entry) (role : Role) (e : Event) (t : Turn) → IsUseful c (after c journal) role e → answers_do c journal e t → answers_act c journal role t
act-answers c journal role e (Turn.Did d) useful answer =
    (subst (λ (x : Event). IsUseful c (after c journal) role x) (sym answer.0) useful, answer.1)
act-answers c journal role e Turn.Full useful answer = ((e, useful), answer)
act-answers c journal role e other useful answer = absurd answer

same-entries : (one other : Ask) (t : Turn) → recorded one t ≡ recorded other t
same-entries one other (Turn.Did d) = refl
same-entries one other rest = refl

retaken : (old new : Ran) (one other : Ask) (t : Turn) → answers old.configuration old.journal other t → IsTaken old one t new → IsTaken old other t new
retaken old new one other t answer taken = record {
  answer = answer;
  configuration = taken.configuration;
  journal = taken.journal ∙ ap (λ (o : Option Entry). old.journal ++ entries_of o) (same-entries one other t);
}

pub act-taken : (old new : Ran) (role : Role) (e : Event) (t : Turn) → Runs old.configuration old.journal old.state → IsUseful old.configuration old.state role e → IsTaken old (Ask.Do e) t new → IsTaken old (Ask.Act role) t new
act-taken old new role e t runs useful taken =
    let here : IsUseful old.configuration (after old.configuration old.journal) role e = subst (λ (s : State). IsUseful old.configuration s role e) (sym runs.ends) useful in
    retaken old new (Ask.Do e) (Ask.Act role) t (act-answers old.configuration old.journal role e t here taken.answer) taken

pub idle-taken : (m : Ran) (role : Role) → Runs m.configuration m.journal m.state → ((e : Event) → IsUseful m.configuration m.state role e → ⊥) → IsTaken m (Ask.Act role) Turn.Idle m
idle-taken m role runs none =
    none-taken m (Ask.Act role) Turn.Idle refl (λ e useful. none e (subst (λ (s : State). IsUseful m.configuration s role e) runs.ends useful))

-- ## a sweep

sweep-answers : (c : Configuration) (journal : List Entry) (p : PoolId) (session : SessionId) (n : NodeId) (x : ℕ) (t : Turn) → IsNotKept p n x (after c journal) → is_swept n x (after c journal).swept ≡ false → is_current (Janitor p) session (after c journal) ≡ true → answers_do c journal (Event.Sweep session n x) t → answers_sweep c journal p n x t
sweep-answers c journal p session n x (Turn.Did d) lost unswept current answer =
    (lost, unswept, record { session = session; current = current; event = answer.0 }, answer.1)
sweep-answers c journal p session n x Turn.Full lost unswept current answer = (lost, unswept, answer)
sweep-answers c journal p session n x other lost unswept current answer = absurd answer

pub sweep-taken : (old new : Ran) (p : PoolId) (session : SessionId) (n : NodeId) (x : ℕ) (t : Turn) → Runs old.configuration old.journal old.state → IsNotKept p n x old.state → is_swept n x old.state.swept ≡ false → is_current (Janitor p) session old.state ≡ true → IsTaken old (Ask.Do (Event.Sweep session n x)) t new → IsTaken old (Ask.Sweep p n x) t new
sweep-taken old new p session n x t runs lost unswept current taken =
    let c = old.configuration in
    let before = sym runs.ends in
    retaken old new (Ask.Do (Event.Sweep session n x)) (Ask.Sweep p n x) t
    (sweep-answers c old.journal p session n x t
    (subst (λ (s : State). IsNotKept p n x s) before lost)
    (subst (λ (s : State). is_swept n x s.swept ≡ false) before unswept)
    (subst (λ (s : State). is_current (Janitor p) session s ≡ true) before current)
    taken.answer)
    taken

pub kept-taken : (m : Ran) (p : PoolId) (n : NodeId) (x : ℕ) → Runs m.configuration m.journal m.state → IsKept p n x m.state → IsTaken m (Ask.Sweep p n x) Turn.Idle m
kept-taken m p n x runs kept =
    none-taken m (Ask.Sweep p n x) Turn.Idle refl (subst (λ (s : State). IsKept p n x s) (sym runs.ends) kept)

pub swept-taken : (m : Ran) (p : PoolId) (n : NodeId) (x : ℕ) → Runs m.configuration m.journal m.state → IsNotKept p n x m.state → is_swept n x m.state.swept ≡ true → IsTaken m (Ask.Sweep p n x) Turn.Swept m
swept-taken m p n x runs lost swept =
    none-taken m (Ask.Sweep p n x) Turn.Swept refl
    (subst (λ (s : State). IsNotKept p n x s) (sym runs.ends) lost, subst (λ (s : State). is_swept n x s.swept ≡ true) (sym runs.ends) swept)

-- ## a node that is due

unrecorded : (c : Configuration) (journal : List Entry) (p : PoolId) (t : Turn) → answers_due c journal p t → recorded (Ask.Due p) t ≡ None
unrecorded c journal p (Turn.Did d) answer = absurd answer
unrecorded c journal p other answer = refl

pub due-taken : (m : Ran) (p : PoolId) (t : Turn) → answers_due m.configuration m.journal p t → IsTaken m (Ask.Due p) t m
due-taken m p t answer = none-taken m (Ask.Due p) t (unrecorded m.configuration m.journal p t answer) answer

-- # the nodes that are due

module _ (s : State) (p : PoolId) (session : SessionId) where
  abbrev seen : NodeId → Bool
  seen n = option_map_or (λ k. (k.pool.0 == p.0) && is_deleting k.state) (node_in n s.nodes) false

  abbrev held : NodeId → Bool
  held n = is_session_of session (node_holder n s.nodes)

  -- ## the search

  -- of the nodes in whose queues the session is, the one at this place is not due
  abbrev pub IsNotDueAt : ℕ → Type 0
  IsNotDueAt k = (n : NodeId) → slice_get (queued_nodes session s) k ≡ Some n → is_due p session n s ≡ false

  pub not-due-at : (k : ℕ) (node : NodeId) → slice_get (queued_nodes session s) k ≡ Some node → is_due p session node s ≡ false → IsNotDueAt k
  not-due-at k node here fails = λ n there. let same : node ≡ n = cc in subst (λ (m : NodeId). is_due p session m s ≡ false) same fails

  place : (n : NodeId) → is_due p session n s ≡ true → StandsIn n (queued_nodes session s)
  place n is = queued-node s session n (holder-queued session (node_queue n s.nodes) (and_parts (seen n) (held n) is).1)

  -- who holds a node is in its queue, so if none is due there, none is
  pub none-left : ((k : ℕ) → k < length (queued_nodes session s) → IsNotDueAt k) → (n : NodeId) → is_due p session n s ≡ false
  none-left none n = false_from_ne_true (is_due p session n s) (λ is. let at = place n is in let fails = none at.at at.within n at.there in cc)

  -- ## as a turn asks

  pub no-node : (n : NodeId) → node_in n s.nodes ≡ None → is_due p session n s ≡ true → ⊥
  no-node n none is = let sees = rw none at (and_parts (seen n) (held n) is).0 in cc

  module _ (current : is_current (Janitor p) session s ≡ true) where
    pub due-is : (n : NodeId) (kept : NodeRecord) → node_in n s.nodes ≡ Some kept → is_due p session n s ≡ true → IsDue p s n kept.server
    due-is n kept stands is =
        let both = and_parts (seen n) (held n) is in
        let sees = and_parts (kept.pool.0 == p.0) (is_deleting kept.state) (rw stands at both.0) in
        record {
          node = kept;
          stands = stands;
          of_pool = equal-numbers kept.pool.0 p.0 sees.0;
          deleting = sees.1;
          server = refl;
          session = session;
          holder = holder-waits session (node_holder n s.nodes) both.1;
          current = current;
        }

    pub none-due : (n : NodeId) (x : Option ℕ) → is_due p session n s ≡ false → IsDue p s n x → ⊥
    none-due n x none due =
        let one : due.session ≡ session = one-current (Janitor p) s due.session session due.current current in
        let sees : seen n ≡ true = rw (due.stands, due.of_pool) (and_from (p.0 == p.0) (is_deleting due.node.state) (equal-itself p.0) due.deleting) in
        let holds : held n ≡ true = rw (due.holder, one) (equal-itself session.0) in
        let is : is_due p session n s ≡ true = and_from (seen n) (held n) sees holds in
        cc

pub no-janitor : (s : State) (p : PoolId) → has_current (Janitor p) s ≡ false → (n : NodeId) (x : Option ℕ) → IsDue p s n x → ⊥
no-janitor s p none n x due = let some : has_current (Janitor p) s ≡ true = current-has (Janitor p) s due.session due.current in absurd cc

-- # watches of all paths, set one after another

abbrev watch_at : ℕ → ℕ → List ℕ → Watch
watch_at z k path = record { key = k; path = path; at = z }

past-end : (z k j : ℕ) (paths : List (List ℕ)) (path : List ℕ) → j ≡ k + length paths → insert_before (key_before (watch_at z j path)) (watch_at z j path) (watches_from z k paths) ≡ watches_from z k (paths ++ path ∷ [])
past-end z k j [] path is = let same : j ≡ k = omega (arith, is) in ap (λ (i : ℕ). watch_at z i path ∷ []) same
past-end z k j (first ∷ paths) path is =
    let later : nat_lt j k ≡ false = grind (arith, nat_tests) in
    rw later (ap (λ (rest : List Watch). watch_at z k first ∷ rest) (past-end z (suc k) j paths path (omega (arith, is))))

new-key : (z k j : ℕ) (paths : List (List ℕ)) → k + length paths ≤ j → list_any (has_key j) (watches_from z k paths) ≡ false
new-key z k j [] past = refl
new-key z k j (first ∷ paths) past =
    let other : (k == j) ≡ false = grind (arith, nat_tests) in
    rw (other, new-key z (suc k) j paths (omega (arith, past))) refl

-- the next path is watched too
pub set-next : (t : TreeState) (paths : List (List ℕ)) (k : ℕ) (path : List ℕ) (old new : List Watch) (is_new : Bool) → k < length paths → slice_get paths k ≡ Some path → old ≡ watches_of t.changes (take k paths) → is_new ≡ not (is_watched k old) → new ≡ (if is_new then with_watch (watch_of t k path) old else old) → new ≡ watches_of t.changes (take (k + 1) paths)
set-next t paths k path old new is_new within there was fresh set =
    let long : length (take k paths) ≡ k = length-take-le k paths (omega arith) in
    let unwatched : is_watched k old ≡ false = rw was (new-key t.changes 0 k (take k paths) (omega (arith, long))) in
    let next : with_watch (watch_of t k path) (watches_of t.changes (take k paths)) ≡ watches_of t.changes (take k paths ++ path ∷ []) = past-end t.changes 0 k (take k paths) path (omega (arith, long)) in
    let taken : take (k + 1) paths ≡ take k paths ++ path ∷ [] = take_more paths k path within ∙ ap (λ (y : List ℕ). take k paths ++ y ∷ []) (get_or_from_slice_get paths k path path there) in
    set ∙ rw (fresh ∙ ap not unwatched) (ap (λ (ws : List Watch). with_watch (watch_of t k path) ws) was ∙ (next ∙ ap (watches_of t.changes) (sym taken)))
