-- how and why servers leave: sweeps, and removals that come right after a turn that named the server
use Rattle.np_worker.proofs.Prelude.{All, All-contains, All-contains_itself, All-filter, All-weaker, Answer, Answered, AreAsksOf, AreInOrder, Ask, Bool, Configuration, Contains, Contains-append_left, Contains-push, Contains-push_cases, Done, Drives, Driving, Drove, Entry, Err, Event, Growth, HasServers, IsAskOf, IsDue, IsOfRound, IsOfServer, IsOnlyNodeOfItsNumber, IsOnlyOfItsNumber, IsSweepAt, IsSweptAfter, Janitor, Launch, Leads, LeftWithCause, List, Maker, Move, NodeId, None, Ok, Option, Outcome, Player, PlayerEnd, PlaysFrom, PoolId, Records, Reply, Role, Server, SessionId, Sight, Some, StartsWith, State, StaysKept, SweepsServers, Swept, Tag, Turn, Walk, WasDue, WasFull, WasKept, WasLaunched, WasRemoved, WasSwept, Work, after, answers_of, answers_sweep, ap, arith, asked, by_bool, cond, effect, ended, eq-eqb, eqb-true, false, filter, first_phase, fresh_sight, get_or, grown, if◌then◌else◌, inl, inr, insert_before, is_current, is_pair, is_pair_after, is_remove, is_swept, is_unwanted, is_wanted, janitor, judge, launched, launches_of, length, length-append, list_any-insert_before, nat_tests, next, not, of_pool, or_left, or_right, plan, plan-next, recorded, refl, removed, reply_of, servers_after, slice_get, stage_of, start, starts_on, starts_same, state_after, subst, suc, sym, true, with_act, with_launched, with_pair, without_number, zero, ℕ, [], ⊎_elim, ◌++◌, ◌+◌, ◌<◌, ◌==◌, ◌∙◌, ◌∷◌, ◌≡◌, ◌⊎◌}
use Rattle.np_changes.specs.Prelude.{acting}
use Rattle.np_worker.proofs.Records.{if-accepted, state_after-append}
use Rattle.np_worker.specs.Trace.{NamesServer, AreNamed}
use Rattle.np_worker.proofs.Walks.{get_last, member-cases, starts_length, turn_seen, walk_seen}
use Rattle.np_worker.proofs.Steps.{are_named, asks_of, in_order, is_at_end}
use Rattle.np_worker.proofs.Made.{told}

-- # a sweep by the current janitor, as the machine judges it

module _ (s : State) (p : PoolId) (session : SessionId) where
  pub janitor-is : is_current (Janitor p) session s ≡ true → janitor s session ≡ Ok p
  janitor-is x1 = grind (arith, nat_tests)

  pub sweep_judged : (c : Configuration) (n : NodeId) (x : ℕ) → is_current (Janitor p) session s ≡ true → judge c s (Event.Sweep session n x) ≡ Ok (if is_wanted s n x then Done.Keep else Done.Remove)
  sweep_judged c n x current = rw (janitor-is current) refl

pub sweep_removes : (c : Configuration) (journal : List Entry) (p : PoolId) (n : NodeId) (x : ℕ) (e : Entry) → answers_sweep c journal p n x (Turn.Did e) → e.reply ≡ Reply.Done Done.Remove
sweep_removes c journal p n x e answer =
    let by = answer.2 in
    let says : judge c (after c journal) (Event.Sweep by.session n x) ≡ Ok Done.Remove =
    sweep_judged (after c journal) p by.session c n x by.current ∙ ap (λ (b : Bool). Ok (if b then Done.Keep else Done.Remove)) answer.0.unwanted in
    answer.3.reply ∙ ap (λ (f : Event). reply_of (judge c (after c journal) f)) by.event ∙ ap reply_of says

-- # Swept pairs: what a sweep adds, and that none goes.

-- ## a pair more

abbrev pair : NodeId → ℕ → Swept
pair n x = record { node = n; server = x }

-- the pair that joined is there
pair-there : (n : NodeId) (x : ℕ) (swept : List Swept) → is_swept n x (with_pair n x swept) ≡ true
pair-there n x swept = by_bool (λ b. is_swept n x (cond b swept (insert_before (is_pair_after n x) (pair n x) swept)) ≡ true) (is_swept n x swept) (λ t. t) (λ f. list_any-insert_before (is_pair n x) (is_pair_after n x) (pair n x) swept ∙ or_left (is_pair n x (pair n x)) (is_swept n x swept) (rw (eq-eqb n.0 n.0 refl, eq-eqb x x refl) refl))

pair-keeps_by : (n m : NodeId) (x y : ℕ) (swept : List Swept) (b : Bool) → is_swept m y swept ≡ true → is_swept m y (cond b swept (insert_before (is_pair_after n x) (pair n x) swept)) ≡ true
pair-keeps_by n m x y swept true is = is
pair-keeps_by n m x y swept false is = list_any-insert_before (is_pair m y) (is_pair_after n x) (pair n x) swept ∙ or_right (is_pair m y (pair n x)) (is_swept m y swept) is

-- ## what an event leaves

-- each pair that is swept at first is swept then
abbrev pub KeepsSwept : State → State → Type 0
KeepsSwept s t = (n : NodeId) (x : ℕ) → is_swept n x s.swept ≡ true → is_swept n x t.swept ≡ true

grown-keeps : (c : Configuration) (maker : Option Maker) (growth : Growth) (s : State) → KeepsSwept s (grown c maker growth s)
grown-keeps c maker (Growth.Swept n x) s m y is = pair-keeps_by n m x y s.swept (is_swept n x s.swept) is
grown-keeps c None (Growth.Registration p) s m y is = is
grown-keeps c maker _ s m y is = is

-- ## over journals

-- no event takes a swept pair away
later-keeps : (c : Configuration) (s : State) (journal : List Entry) → KeepsSwept s (state_after c s journal)
later-keeps c s [] n x is = is
later-keeps c s (e ∷ journal) n x is = later-keeps c (next c s e.event) journal n x
    (if-accepted (λ t. is_swept n x t.swept ≡ true) c s e.event is (λ ok. subst (λ (t : State). is_swept n x t.swept ≡ true) (plan-next c s e.event ok) (grown-keeps c (plan c s e.event).maker (plan c s e.event).grows s n x is)))

-- what is swept after a history is swept after each that continues it
pub swept-stays : (c : Configuration) (seen before : List Entry) → StartsWith seen before → KeepsSwept (after c before) (after c seen)
swept-stays c seen before h =
    subst (λ (t : State). KeepsSwept (after c before) t) (sym (ap (λ (l : List Entry). after c l) h.1 ∙ state_after-append c (start c) before h.0))
    (later-keeps c (after c before) h.0)

-- ## what a sweep adds

accepted-next_by : (P : State → Type 0) (c : Configuration) (s : State) (e : Event) (a : Answer) → judge c s e ≡ a → is_remove (reply_of a) ≡ true → P (with_act (acting s e) (effect c s e)) → P (next c s e)
accepted-next_by P c s e (Ok what) is removes new = rw is new
accepted-next_by P c s e (Err why) is removes new = absurd cc

added-by : (s : State) (n : NodeId) (x : ℕ) (b : Bool) → b ≡ false → is_swept n x (cond b s.swept (with_pair n x s.swept)) ≡ true
added-by s n x b unwanted = grind (arith, nat_tests, pair-there)

-- a sweep that is answered `Remove` leaves its pair swept
pub swept-after : (c : Configuration) (journal : List Entry) (e : Entry) (session : SessionId) (n : NodeId) (x : ℕ) → e.event ≡ Event.Sweep session n x → is_wanted (after c journal) n x ≡ false → e.reply ≡ reply_of (judge c (after c journal) e.event) → is_remove e.reply ≡ true → is_swept n x (after c (journal ++ e ∷ [])).swept ≡ true
swept-after c journal e session n x is unwanted reply removes =
    subst (λ (s : State). is_swept n x s.swept ≡ true) (sym (state_after-append c (start c) journal (e ∷ [])))
    (accepted-next_by (λ (s : State). is_swept n x s.swept ≡ true) c (after c journal) e.event (judge c (after c journal) e.event) refl
    (sym (ap is_remove reply) ∙ removes) (subst (λ (f : Event). is_swept n x (with_act (acting (after c journal) f) (effect c (after c journal) f)).swept ≡ true) (sym is) (added-by (after c journal) n x (is_wanted (after c journal) n x) unwanted)))

-- # How servers leave a driver.

kept_at : (f : Server → Bool) (xs : List Server) (s : Server) → f s ≡ true → (k : ℕ) → k < length xs → get_or xs k s ≡ s → Contains (filter f xs) s
kept_at f [] s e k l i = absurd (omega arith)
kept_at f (x ∷ xs) s e zero l i = by_bool (λ b. Contains (cond b (x ∷ filter f xs) (filter f xs)) s) (f x) (λ t. (0, omega arith, i)) (λ t. let u : f x ≡ f s = ap f i in absurd (cc))
kept_at f (x ∷ xs) s e (suc k) l i = let r = kept_at f xs s e k (omega arith) i in by_bool (λ b. Contains (cond b (x ∷ filter f xs) (filter f xs)) s) (f x) (λ t. (suc r.0, omega (arith, r.1), r.2)) (λ t. r)

pub launched_stay : (tag : Tag) (o : Outcome) (servers : List Server) (s : Server) → Contains servers s → Contains (with_launched tag o servers) s
launched_stay tag (Outcome.Launched x) servers s h = Contains-append_left servers (record { tag = tag; number = x } ∷ []) s h
launched_stay tag Outcome.Failed servers s h = h

pub leaves_one : (x : ℕ) (servers : List Server) (s : Server) → Contains servers s → (Contains (without_number x servers) s) ⊎ (x ≡ s.number)
leaves_one x servers s h = by_bool (λ b. (not b ≡ true → Contains (without_number x servers) s) → (b ≡ true → x ≡ s.number) → (Contains (without_number x servers) s) ⊎ (x ≡ s.number)) (s.number == x) (λ t f g. inr (g refl)) (λ t f g. inl (f refl)) (λ e. kept_at (λ (y : Server). not (y.number == x)) servers s e h.0 h.1 h.2) (λ e. sym (eqb-true s.number x e))

pub stays_or_goes : (ms : List Move) (servers : List Server) (s : Server) → Contains servers s → (Contains (servers_after ms servers) s) ⊎ WasRemoved s.number ms
stays_or_goes [] servers s h = inl h
stays_or_goes (asked a t ∷ ms) servers s h = stays_or_goes ms servers s h
stays_or_goes (launched tag o ∷ ms) servers s h = stays_or_goes ms (with_launched tag o servers) s (launched_stay tag o servers s h)
stays_or_goes (removed x ∷ ms) servers s h = elim (leaves_one x servers s h) [
  | inl k ↦ elim (stays_or_goes ms (without_number x servers) s k) [ inl i ↦ inl i | inr i ↦ inr (inr i) ]
  | inr e ↦ inr (inl e)
]

-- # Why a server left: a removal comes right after a turn that named the server.

-- ## members of lists

-- a member that a filter keeps was there
pub filtered-member : {X : Type 0} (f : X → Bool) (xs : List X) (s : X) → Contains (filter f xs) s → Contains xs s
filtered-member f xs s h = All-contains (Contains xs) (filter f xs) s (All-filter f (Contains xs) xs (All-contains_itself xs)) h

-- ## the servers of a round

-- a server that was launched is there in the end, or its number was removed
launched-stays : (ms : List Move) (now : List Server) (s : Server) → WasLaunched ms s → (Contains (servers_after ms now) s) ⊎ WasRemoved s.number ms
launched-stays [] now s h = absurd (omega (arith, h.1))
launched-stays (asked a t ∷ ms) now s h = launched-stays ms now s h
launched-stays (launched tag o ∷ ms) now s h = ⊎_elim
    (λ (same : ◌≡◌ {A = Launch} (record { tag = tag; outcome = o }) (record { tag = s.tag; outcome = Outcome.Launched s.number })). stays_or_goes ms (with_launched tag o now) s (subst (λ (l : Launch). Contains (with_launched l.tag l.outcome now) s) (sym same) (Contains-push now s)))
    (λ later. launched-stays ms (with_launched tag o now) s later)
    (member-cases (record { tag = tag; outcome = o }) (launches_of ms) (record { tag = s.tag; outcome = Outcome.Launched s.number }) h)
launched-stays (removed x ∷ ms) now s h = elim (launched-stays ms (without_number x now) s h) [ inl k ↦ inl k | inr k ↦ inr (inr k) ]

-- ## causes

module _ (plans : Bool) (c : Configuration) (pool : PoolId) (history : List Entry) (w : Sight Entry) (trace : List Move) (servers : List Server) where
  abbrev pub HasCause : ℕ → Type 0
  HasCause x = WasDue c history w.seen pool x ⊎ WasSwept c w.seen trace servers x

  abbrev pub AreOfRound : List Server → Type 0
  AreOfRound now = (s : Server) → Contains now s → IsOfRound trace servers s

  abbrev pub LaunchesAreOfRound : List Move → Type 0
  LaunchesAreOfRound ms = (s : Server) → WasLaunched ms s → IsOfRound trace servers s

  more-of_round : (tag : Tag) (o : Outcome) (ms : List Move) (now : List Server) → AreOfRound now → LaunchesAreOfRound (launched tag o ∷ ms) → AreOfRound (with_launched tag o now)
  more-of_round tag (Outcome.Launched x) ms now own launches = λ s h.
      elim (Contains-push_cases now (record { tag = tag; number = x }) s h) [
        | inl k ↦ own s k
        | inr e ↦ subst (IsOfRound trace servers) e (launches (record { tag = tag; number = x }) (zero, omega arith, refl))
      ]
  more-of_round tag Outcome.Failed ms now own launches = own

  -- after the answer that nobody wants the server, it is swept
  unwanted-swept : (before : List Entry) (p : PoolId) (n : NodeId) (x : ℕ) (t : Turn) (v u : Sight Entry) → answers_sweep c before p n x t → is_unwanted t ≡ true → Records (recorded (Ask.Sweep p n x) t) before v u → is_swept n x (after c u.seen).swept ≡ true
  unwanted-swept before p n x (Turn.Did e) v u h unwanted r =
      subst (λ (l : List Entry). is_swept n x (after c l).swept ≡ true) (sym r.0) (swept-after c before e h.2.session n x h.2.event h.0.unwanted h.3.reply unwanted)
  unwanted-swept before p n x (Turn.DueNode m y) v u h unwanted r = absurd h
  unwanted-swept before p n x Turn.Swept v u h unwanted r = subst (λ (l : List Entry). is_swept n x (after c l).swept ≡ true) (sym r.0) h.1
  unwanted-swept before p n x _ v u h unwanted r = absurd cc

  server-swept : (now : List Server) → AreOfRound now → (p : PoolId) (n : NodeId) (x : ℕ) → IsOfServer (Ask.Sweep p n x) now → is_swept n x (after c w.seen).swept ≡ true → WasSwept c w.seen trace servers x
  server-swept now own p n x there swept = record {
    server = there.0;
    of_round = own there.0 there.1;
    number = there.3;
    swept = subst (λ (m : NodeId). is_swept m there.0.number (after c w.seen).swept ≡ true) (sym there.2)
        (subst (λ (y : ℕ). is_swept n y (after c w.seen).swept ≡ true) (sym there.3) swept);
  }

  node-due : (before : List Entry) (p : PoolId) (n : NodeId) (x y : ℕ) → p ≡ pool → x ≡ y → StartsWith before history → StartsWith w.seen before → IsDue p (after c before) n (Some x) → WasDue c history w.seen pool y
  node-due before p n x y its_pool its_number from to due = record {
    before = before;
    node = n;
    of_round = from;
    of_seen = to;
    due = subst (λ (q : PoolId). IsDue q (after c before) n (Some y)) its_pool (subst (λ (z : ℕ). IsDue p (after c before) n (Some z)) its_number due);
  }

  -- a turn that named a server gave the cause
  named-cause : (now : List Server) → AreOfRound now → (a : Ask) (t : Turn) (y : ℕ) (v u : Sight Entry) → IsAskOf (of_pool pool) a → IsOfServer a now → NamesServer a t y → StartsWith v.seen history → StartsWith w.seen u.seen → Answered (answers_of plans) recorded c v a t u → HasCause y
  named-cause now own (Ask.Due p) (Turn.DueNode n (Some x)) y v u mine there names from to h =
      inl (node-due h.0 p n x y mine names (starts_on h.0 v.seen history h.1 from) (subst (λ (l : List Entry). StartsWith w.seen l) h.3.0 to) h.2)
  named-cause now own (Ask.Sweep p n x) t y v u mine there names from to h =
      inr (subst (WasSwept c w.seen trace servers) names.0
      (server-swept now own p n x there (swept-stays c w.seen u.seen to n x (unwanted-swept h.0 p n x t v u h.2 names.1 h.3))))
  named-cause now own _ _ y v u mine there names from to h = absurd names

  pub removed-cause : (ms : List Move) (now : List Server) (v : Sight Entry) (x : ℕ) → StartsWith v.seen history → Walk (answers_of plans) c ms v w → AreNamed ms → AreAsksOf (of_pool pool) ms → SweepsServers ms now → AreOfRound now → LaunchesAreOfRound ms → WasRemoved x ms → HasCause x
  removed-cause (asked a t ∷ asked b s ∷ ms) now v x from walk named mine swept own launches gone =
      removed-cause (asked b s ∷ ms) now walk.0 x (starts_on walk.0.seen v.seen history (turn_seen (answers_of plans) c a t v walk.0 walk.1) from) walk.2 named mine.1 swept.1 own launches gone
  removed-cause (asked a t ∷ launched tag o ∷ ms) now v x from walk named mine swept own launches gone =
      removed-cause (launched tag o ∷ ms) now walk.0 x (starts_on walk.0.seen v.seen history (turn_seen (answers_of plans) c a t v walk.0 walk.1) from) walk.2 named mine.1 swept.1 own launches gone
  removed-cause (asked a t ∷ removed y ∷ ms) now v x from walk named mine swept own launches (inl is) =
      subst HasCause is (named-cause now own a t y v walk.0 mine.0 swept.0 named.0 from (walk_seen (answers_of plans) c ms walk.0 w walk.2) walk.1)
  removed-cause (asked a t ∷ removed y ∷ ms) now v x from walk named mine swept own launches (inr gone) =
      removed-cause ms (without_number y now) walk.0 x (starts_on walk.0.seen v.seen history (turn_seen (answers_of plans) c a t v walk.0 walk.1) from) walk.2 named.1 mine.1 swept.1 (λ s h. own s (filtered-member (λ (server : Server). not (server.number == y)) now s h)) launches gone
  removed-cause (launched tag o ∷ ms) now v x from walk named mine swept own launches gone =
      removed-cause ms (with_launched tag o now) v x from walk named mine swept (more-of_round tag o ms now own launches) (λ s h. launches s (suc h.0, omega (arith, h.1), h.2)) gone
  removed-cause (removed y ∷ ms) now v x from walk named mine swept own launches gone = absurd named
  removed-cause _ now v x from walk named mine swept own launches gone = absurd gone

-- ## Where servers stay: each was kept at its sweep, and from the first sweep on a round only sweeps.

-- each of one's own places is one of what was seen
abbrev pub AreBelow : Sight Entry → Type 0
AreBelow v = (x : ℕ) → Contains v.mine x → x < length v.seen

pub below-turn : (r : Option Entry) (before : List Entry) (v u : Sight Entry) → StartsWith before v.seen → Records r before v u → AreBelow v → AreBelow u
below-turn None before v u from h below = λ x there.
    let old : x < length v.seen = below x (subst (λ (l : List ℕ). Contains l x) h.1 there) in
    omega (arith, old, starts_length before v.seen from, ap length h.0)
below-turn (Some e) before v u from h below = λ x there.
    let long : length u.seen ≡ length before + 1 = omega (arith, ap length h.0, length-append before (e ∷ [])) in
    elim (Contains-push_cases v.mine (length before) x (subst (λ (l : List ℕ). Contains l x) h.1 there)) [
      | inl k ↦ let old : x < length v.seen = below x k in omega (arith, old, starts_length before v.seen from, long)
      | inr k ↦ omega (arith, k, long)
    ]

module _ (plans : Bool) (c : Configuration) where
  -- ## sweeps come last

  sweep-stands : (before : List Entry) (p : PoolId) (n : NodeId) (y : ℕ) (e : Entry) (u w : Sight Entry) → answers_sweep c before p n y (Turn.Did e) → u.seen ≡ before ++ e ∷ [] → StartsWith w.seen u.seen → IsSweepAt w.seen (length before)
  sweep-stands before p n y e u w h seen to = record {
    entry = e;
    stands = subst (λ (l : List Entry). slice_get l (length before) ≡ Some e) (sym (to.1 ∙ ap (λ (l : List Entry). l ++ to.0) seen)) (get_last before e to.0);
    session = h.2.session;
    node = n;
    server = y;
    event = h.2.event;
  }

  sweep-made : (p : PoolId) (n : NodeId) (y : ℕ) (t : Turn) (v u w : Sight Entry) → Answered (answers_of plans) recorded c v (Ask.Sweep p n y) t u → StartsWith w.seen u.seen → (x : ℕ) → Contains u.mine x → (Contains v.mine x) ⊎ IsSweepAt w.seen x
  sweep-made p n y (Turn.Did e) v u w h to x there =
      elim (Contains-push_cases v.mine (length h.0) x (subst (λ (l : List ℕ). Contains l x) h.3.1 there)) [
        | inl k ↦ inl k
        | inr k ↦ inr (subst (IsSweepAt w.seen) k (sweep-stands h.0 p n y e u w h.2 h.3.0 to))
      ]
  sweep-made p n y (Turn.DueNode m z) v u w h to x there = absurd h.2
  sweep-made p n y _ v u w h to x there = inl (subst (λ (l : List ℕ). Contains l x) h.3.1 there)

  sweeps-last : (ms : List Move) (v w : Sight Entry) → AreInOrder 2 ms → Walk (answers_of plans) c ms v w → (x : ℕ) → Contains w.mine x → (Contains v.mine x) ⊎ IsSweepAt w.seen x
  sweeps-last [] v w order walk x there = inl (subst (λ (l : List ℕ). Contains l x) walk.1 there)
  sweeps-last (asked (Ask.Sweep p n y) t ∷ ms) v w order walk x there =
      elim (sweeps-last ms walk.0 w order.1 walk.2 x there) [
        | inl k ↦ sweep-made p n y t v walk.0 w walk.1 (walk_seen (answers_of plans) c ms walk.0 w walk.2) x k
        | inr s ↦ inr s
      ]
  sweeps-last (asked (Ask.Act (Role.Janitor p)) t ∷ ms) v w order walk x there = absurd (omega (arith, order.0))
  sweeps-last (asked a t ∷ ms) v w order walk x there = absurd (omega (arith, order.0))
  sweeps-last (move ∷ ms) v w order walk x there = sweeps-last ms v w order walk x there

  -- ## a server that was kept

  module _ (removes : (journal : List Entry) (p : PoolId) (n : NodeId) (y : ℕ) (e : Entry) → answers_sweep c journal p n y (Turn.Did e) → e.reply ≡ Reply.Done Done.Remove)
      (history : List Entry) (w : Sight Entry) (pool : PoolId) (server : Server) where
    abbrev this_move : Turn → Move
    this_move t = asked (Ask.Sweep pool server.tag.node server.number) t

    turn-kept : (t : Turn) (ms : List Move) (v : Sight Entry) (stage : ℕ) → is_unwanted t ≡ false → (WasFull (this_move t ∷ ms) → ⊥) → AreInOrder stage (this_move t ∷ ms) → StartsWith v.seen history → AreBelow v → Walk (answers_of plans) c (this_move t ∷ ms) v w → StaysKept c history w pool server
    turn-kept (Turn.Did e) ms v stage unwanted room order from below walk =
        let is : is_remove e.reply ≡ is_remove (Reply.Done Done.Remove) = ap is_remove (removes walk.1.0 pool server.tag.node server.number e walk.1.2) in
        absurd cc
    turn-kept (Turn.DueNode m y) ms v stage unwanted room order from below walk = absurd walk.1.2
    turn-kept Turn.Swept ms v stage unwanted room order from below walk = absurd cc
    turn-kept Turn.Full ms v stage unwanted room order from below walk = absurd (room (inl refl))
    turn-kept Turn.Idle ms v stage unwanted room order from below walk = record {
      before = walk.1.0;
      of_round = starts_on walk.1.0 v.seen history walk.1.1 from;
      of_seen = subst (λ (l : List Entry). StartsWith w.seen l) walk.1.3.0 (walk_seen (answers_of plans) c ms walk.0 w walk.2);
      kept = walk.1.2;
      rest = λ x there far.
          elim (sweeps-last ms walk.0 w order.1 walk.2 x there) [
            | inl k ↦
                let old : x < length v.seen = below x (subst (λ (l : List ℕ). Contains l x) walk.1.3.1 k) in
                absurd (omega (arith, old, starts_length walk.1.0 v.seen walk.1.1, far))
            | inr s ↦ s
          ];
    }

    first-kept : (t : Turn) (m : Move) (ms : List Move) (v : Sight Entry) (stage : ℕ) → is_unwanted t ≡ false → m ≡ this_move t → (WasFull (m ∷ ms) → ⊥) → AreInOrder stage (m ∷ ms) → StartsWith v.seen history → AreBelow v → Walk (answers_of plans) c (m ∷ ms) v w → StaysKept c history w pool server
    first-kept t m ms v stage unwanted is =
        subst (λ (n : Move). (WasFull (n ∷ ms) → ⊥) → AreInOrder stage (n ∷ ms) → StartsWith v.seen history → AreBelow v → Walk (answers_of plans) c (n ∷ ms) v w → StaysKept c history w pool server) (sym is)
        (turn-kept t ms v stage unwanted)

    pub kept-stays : (t : Turn) (ms : List Move) (v : Sight Entry) (stage k : ℕ) → is_unwanted t ≡ false → k < length ms → get_or ms k (this_move t) ≡ this_move t → (WasFull ms → ⊥) → AreInOrder stage ms → StartsWith v.seen history → AreBelow v → Walk (answers_of plans) c ms v w → StaysKept c history w pool server
    kept-stays t [] v stage k unwanted l is room order from below walk = absurd (omega (arith, l))
    kept-stays t (m ∷ ms) v stage zero unwanted l is room order from below walk = first-kept t m ms v stage unwanted is room order from below walk
    kept-stays t (asked a s ∷ ms) v stage (suc k) unwanted l is room order from below walk =
        kept-stays t ms walk.0 (stage_of a) k unwanted (omega (arith, l)) is (λ full. room (inr full)) order.1
        (starts_on walk.0.seen v.seen history (turn_seen (answers_of plans) c a s v walk.0 walk.1) from)
        (below-turn (recorded a s) walk.1.0 v walk.0 walk.1.1 walk.1.3 below) walk.2
    kept-stays t (move ∷ ms) v stage (suc k) unwanted l is room order from below walk = kept-stays t ms v stage k unwanted (omega (arith, l)) is room order from below walk

-- ## What became of a driver's servers in a player's round.

servers-left : (trace : List Move) (d e : Driving) (before now : List Server) → Drives trace d e → d.facts.servers ≡ Some before → e.facts.servers ≡ Some now → now ≡ servers_after trace before
servers-left trace d e before now x1 x2 x3 = grind (arith, nat_tests)

pub left_with_cause : (plans : Bool) (c : Configuration) (history : List Entry) (player : Player) (end : PlayerEnd) (pool : PoolId) (before now : List Server) (plays : PlaysFrom plans c history player end) → player.work ≡ of_pool pool → HasServers player before → HasServers end.player now → (server : Server) → IsOfRound plays.trace before server → (Contains now server → ⊥) → LeftWithCause c history end.sight.seen pool plays.trace before server
left_with_cause plans c history player end pool before now plays work had has server own gone =
    let drives : Drives plays.trace had.driving has.driving =
    subst (λ (o : Option Driving). Drove plays.trace (Some had.driving) o) has.drives (subst (λ (o : Option Driving). Drove plays.trace o end.player.driving) had.drives plays.drove) in
    let left : now ≡ servers_after plays.trace before = servers-left plays.trace had.driving has.driving before now drives had.told has.told in
    let led : Leads (first_phase (of_pool pool)) plays.trace end.phase = subst (λ (k : Work). Leads (first_phase k) plays.trace end.phase) work plays.led in
    ⊎_elim
    (λ (there : Contains (servers_after plays.trace before) server). absurd (gone (subst (λ (l : List Server). Contains l server) (sym left) there)))
    (λ (was : WasRemoved server.number plays.trace). removed-cause plans c pool history end.sight plays.trace before plays.trace before (fresh_sight history) server.number (starts_same history) plays.walked
    (are_named (first_phase (of_pool pool)) end.phase plays.trace (λ owes. owes) led) (asks_of (of_pool pool) end.phase plays.trace led)
    (told (SweepsServers plays.trace) had.driving.facts.servers before had.told drives.swept) (λ s h. inl h) (λ s h. inr h) was)
    (⊎_elim (stays_or_goes plays.trace before server) (launched-stays plays.trace before server) own)

-- with no other server of its number, it is itself that is swept
pub own_pair : (c : Configuration) (history seen : List Entry) (pool : PoolId) (trace : List Move) (servers : List Server) (server : Server) → LeftWithCause c history seen pool trace servers server → IsOnlyOfItsNumber trace servers server → WasDue c history seen pool server.number ⊎ IsSweptAfter c seen server
own_pair c history seen pool trace servers server (inl due) only = inl due
own_pair c history seen pool trace servers server (inr swept) only = inr (subst (IsSweptAfter c seen) (only swept.server swept.of_round swept.number) swept.swept)

-- with no other node of its number, the due one is its own
pub own_node : (c : Configuration) (history seen : List Entry) (pool : PoolId) (server : Server) → IsOnlyNodeOfItsNumber c history seen pool server → (due : WasDue c history seen pool server.number) → due.node ≡ server.tag.node
own_node c history seen pool server only due = only due.before due.of_round due.of_seen due.node due.due.node due.due.stands due.due.of_pool due.due.server

-- ## staying

pub kept_stay : (plans : Bool) (c : Configuration) (history : List Entry) (player : Player) (end : PlayerEnd) (pool : PoolId) (servers : List Server) (plays : PlaysFrom plans c history player end) → (end.phase ≡ ended → ⊥) → All (WasKept pool plays.trace) servers → All (StaysKept c history end.sight pool) servers
kept_stay plans c history player end pool servers plays room kept =
    All-weaker (WasKept pool plays.trace) (StaysKept c history end.sight pool)
    (λ server was. kept-stays plans c (sweep_removes c) history end.sight pool server was.0 plays.trace (fresh_sight history) 0 was.1.0 was.2 was.1.1 was.1.2
    (λ full. room (is_at_end (first_phase player.work) end.phase plays.trace plays.led full)) (in_order (first_phase player.work) end.phase plays.trace plays.led) (starts_same history) (λ x there. absurd (omega (arith, there.1))) plays.walked) servers kept
