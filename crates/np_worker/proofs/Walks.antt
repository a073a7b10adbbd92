-- the walk of a round: its parts one after the other, their traces and drivers, and the history that it gains
use Rattle.np_worker.proofs.Prelude.{All, All-contains, All-contains_itself, All-from_recursion, All-weaker, AllByRecursion, Answered, Answers, AreKept, AreOrderly, AreRising, AreSoundAlone, Ask, Asked, Bool, Comes, Configuration, Contains, Contains-append_left, Contains-append_right, Contains-push, Counts, Drives, Driving, Drove, EndsAs, Entry, Err, FailFull, FailsFull, FollowsPlan, Gains, Goes, HasMoves, Heard, Hears, IfSome, IsAsPlanned, IsDealtWith, IsOfDriver, IsOfServer, IsOfWork, IsOver, IsReplied, IsSoundAlone, IsTrue, KeepsCounts, Launch, LaunchFault, Leads, List, MatchResult, MayAsk, MayRemove, Move, Next, NoMemory, None, Ok, Option, Outcome, OwesRemoval, Part, Phase, Playing, PoolId, Records, RemovalEnds, RemovalFailed, Rests, Result, RolesTook, Server, Sight, Some, Soundness, StandAt, StartsWith, SweepsAll, SweepsOne, SweepsServers, Tag, Took, Turn, Turned, Unturned, Walk, Walked, WasKept, WentFar, WentOn, Work, after_removal, after_sweep, after_turn, all-filter_to, all-weaker, answers, ap, append-nil, append_assoc, arith, ask_of, asked, asks, by_bool, cond, drop, drop-past, drop-there, drop_all, entries_of, entry_count, eq-eqb, false, filter, first_phase, get_or, inl, inr, is_full, is_number, is_unwanted, launched, launches_of, length, length-append, nat_tests, not, numbers_of, of_pool, of_reaper, of_requester, option_map, or_left, or_right, owes_swept, phase_of, recorded, refl, removed, rests, rising_more, servers_after, slice_get, starts_more, starts_on, steps_left, subst, suc, sweeps, sym, true, unturned_on, unturned_same, with_launch, with_launched, without_number, zero, ℕ, [], ⊎_elim, ◌++◌, ◌+◌, ◌<◌, ◌==◌, ◌^◌, ◌∙◌, ◌∷◌, ◌≡◌, ◌≤◌, ◌⊎◌}
use Rattle.std.proofs.lemmas.Option.{IfSome_then}
use Rattle.np_cloud.specs.Sound.{IsFull}
use Rattle.np_worker.proofs.Steps.{are_named, are_reported, asks_no_server, asks_of, ends_where_full, in_order, is_at_end, janitor_took, launcher_took, may_ask, pool_swept, reaper_took, requester_took, starts_launched, steps_after, tags_of_launches, work_after}
use Rattle.np_desk.specs.Series as turned

-- # Histories that go on, and the places of one's own, which rise in them

-- ## what a history begins with

module _ {E : Type 0} where
  pub starts_equal : (log seen : List E) → log ≡ seen → StartsWith log seen
  starts_equal log seen e = ([], e ∙ sym (append-nil seen))

  pub starts_length : (log seen : List E) → StartsWith log seen → length seen ≤ length log
  starts_length log seen h = omega (arith, ap length h.1, length-append seen h.0)

-- ## rising places

rising_same : (a n m : ℕ) (xs ys : List ℕ) → ys ≡ xs → n ≤ m → AreRising a xs n → AreRising a ys m
rising_same a n m xs ys e le h = subst (λ (l : List ℕ). AreRising a l m) (sym e) (rising_more a n m xs le h)

rising_push : (a n m : ℕ) (xs : List ℕ) → a ≤ m → n ≤ m → AreRising a xs n → AreRising a (xs ++ m ∷ []) (suc m)
rising_push a n m [] low le h = (low, omega arith, tt)
rising_push a n m (x ∷ xs) low le h = (h.0, omega (arith, h.1), rising_push (suc x) n m xs (omega (arith, h.1)) le h.2)

pub rising_lower : (a b n : ℕ) (xs : List ℕ) → b ≤ a → AreRising a xs n → AreRising b xs n
rising_lower a b n [] le h = tt
rising_lower a b n (x ∷ xs) le h = (omega (arith, h.0), h.1, h.2)

all_least : (a b n : ℕ) (xs : List ℕ) → b ≤ a → AreRising a xs n → AllByRecursion (λ x. b ≤ x) xs
all_least a b n [] le h = tt
all_least a b n (x ∷ xs) le h = (omega (arith, h.0), all_least (suc x) b n xs (omega (arith, h.0)) h.2)

pub rising_least : (a n : ℕ) (xs : List ℕ) → AreRising a xs n → (x : ℕ) → Contains xs x → a ≤ x
rising_least a n xs h x k = All-contains (λ y. a ≤ y) xs x (All-from_recursion (λ y. a ≤ y) xs (all_least a a n xs (omega arith) h)) k

-- ## walks

-- the places of one's own rise from this one on, in a history that is at least that long
abbrev pub Rises : ℕ → Sight Entry → Type 0
Rises n v = (n ≤ length v.seen) × AreRising n v.mine (length v.seen)

rises_seen : (n : ℕ) (v w : Sight Entry) → StartsWith w.seen v.seen → w.mine ≡ v.mine → Rises n v → Rises n w
rises_seen n v w s m h = let le : length v.seen ≤ length w.seen = starts_length w.seen v.seen s in (omega (arith, h.0), rising_same n (length v.seen) (length w.seen) v.mine w.mine m le h.1)

rises_turn : (n : ℕ) (r : Option Entry) (before : List Entry) (v w : Sight Entry) → StartsWith before v.seen → Records r before v w → Rises n v → Rises n w
rises_turn n None before v w s r h = rises_seen n v w (subst (λ (l : List Entry). StartsWith l v.seen) (sym r.0) s) r.1 h
rises_turn n (Some e) before v w s r h =
    let le : length v.seen ≤ length before = starts_length before v.seen s in
    let long : length w.seen ≡ suc (length before) = omega (arith, ap length r.0, length-append before (e ∷ [])) in
    (omega (arith, h.0), rising_same n (suc (length before)) (length w.seen) (v.mine ++ length before ∷ []) w.mine r.1 (omega arith) (rising_push n (length v.seen) (length before) v.mine (omega (arith, h.0)) le h.1))

module _ {F : Type 0} (answers : F → List Entry → Ask → Turn → Type 0) (f : F) where
  pub walk_rises : (n : ℕ) (ms : List Move) (v w : Sight Entry) → Walk answers f ms v w → Rises n v → Rises n w
  walk_rises n [] v w h k = rises_seen n v w h.0 h.1 k
  walk_rises n (asked a t ∷ ms) v w h k = walk_rises n ms h.0 w h.2 (rises_turn n (recorded a t) h.1.0 v h.0 h.1.1 h.1.3 k)
  walk_rises n (move ∷ ms) v w h k = walk_rises n ms v w h k

-- ## lists that are split at a member, and places that rise

module _ {A : Type 0} where
  -- the place of a member determines what comes before it, the member, and what follows it
  pub same-split : (a b x y : List A) (d e : A) → a ++ d ∷ x ≡ b ++ e ∷ y → length a ≡ length b → (a ≡ b) × (d ≡ e) × (x ≡ y)
  same-split [] [] x y d e is long = (refl, cc, cc)
  same-split (u ∷ a) (v ∷ b) x y d e is long =
      let head : u ≡ v = cc in
      let tail : a ++ d ∷ x ≡ b ++ e ∷ y = cc in
      let short : length a ≡ length b = omega arith in
      let rest = same-split a b x y d e tail short in
      (cc (head, rest.0), rest.1, rest.2)
  same-split _ _ x y d e is long = absurd (omega arith)

  -- a member that comes early enough is in the beginning of the list
  pub split-within : (a b x y : List A) (d : A) → a ++ d ∷ x ≡ b ++ y → length a < length b → (z : List A) × (b ≡ a ++ d ∷ z)
  split-within a [] x y d is less = absurd (omega arith)
  split-within [] (v ∷ b) x y d is less = (b, cc)
  split-within (u ∷ a) (v ∷ b) x y d is less =
      let head : u ≡ v = cc in
      let tail : a ++ d ∷ x ≡ b ++ y = cc in
      let short : length a < length b = omega arith in
      let rest = split-within a b x y d tail short in
      (rest.0, cc (head, rest.1))

  -- a member of what a member follows
  pub split-outer : (b a x y : List A) (e d : A) (journal : List A) → journal ≡ b ++ e ∷ y → b ≡ a ++ d ∷ x → journal ≡ a ++ d ∷ (x ++ e ∷ y)
  split-outer b a x y e d journal outer inner =
      let same : (a ++ d ∷ x) ++ e ∷ y ≡ a ++ d ∷ (x ++ e ∷ y) = append_assoc a (d ∷ x) (e ∷ y) in
      cc

  pub length-split : (a x : List A) (d : A) (b : List A) → b ≡ a ++ d ∷ x → length a < length b
  length-split a x d b is = omega (arith, length-append a (d ∷ x), ap length is)

  -- ## members

  member-at : (x : A) (xs : List A) (y : A) (k : ℕ) → k < length (x ∷ xs) → get_or (x ∷ xs) k y ≡ y → (x ≡ y) ⊎ Contains xs y
  member-at x xs y k x1 x2 = grind (arith, nat_tests)

  pub member-cases : (x : A) (xs : List A) (y : A) → Contains (x ∷ xs) y → (x ≡ y) ⊎ Contains xs y
  member-cases x xs y h = member-at x xs y h.0 h.1 h.2

  pub no-member : {P : Type 0} (y : A) → Contains [] y → P
  no-member y h = let less : h.0 < 0 = h.1 in absurd (omega arith)

  pub All-left : (P : A → Type 0) (xs ys : List A) → All P (xs ++ ys) → All P xs
  All-left P xs ys h = All-weaker (Contains xs) P (λ x there. All-contains P (xs ++ ys) x h (Contains-append_left xs ys x there)) xs (All-contains_itself xs)

  pub All-right : (P : A → Type 0) (xs ys : List A) → All P (xs ++ ys) → All P ys
  All-right P xs ys h = All-weaker (Contains ys) P (λ y there. All-contains P (xs ++ ys) y h (Contains-append_right xs ys y there)) ys (All-contains_itself ys)

-- ## places that rise

first-below : (from : ℕ) (earlier : List ℕ) (i : ℕ) (later : List ℕ) (end : ℕ) → AreRising from (earlier ++ i ∷ later) end → from ≤ i
first-below from [] i later end rises = rises.0
first-below from (z ∷ earlier) i later end rises = omega (arith, rises.0, first-below (suc z) earlier i later end rises.2)

-- no place is between two that follow one another
pub none-between : (from : ℕ) (earlier : List ℕ) (i x : ℕ) (later : List ℕ) (end y : ℕ) → AreRising from (earlier ++ i ∷ x ∷ later) end → Contains (earlier ++ i ∷ x ∷ later) y → i < y → y < x → ⊥
none-between from [] i x later end y rises h above below =
    ⊎_elim (λ (same : i ≡ y). omega arith)
    (λ (more : Contains (x ∷ later) y). ⊎_elim (λ (same : x ≡ y). omega arith) (λ (last : Contains later y). omega (arith, rising_least (suc x) end later rises.2.2 y last)) (member-cases x later y more))
    (member-cases i (x ∷ later) y h)
none-between from (z ∷ earlier) i x later end y rises h above below =
    ⊎_elim (λ (same : z ≡ y). omega (arith, first-below (suc z) earlier i (x ∷ later) end rises.2))
    (λ (more : Contains (earlier ++ i ∷ x ∷ later) y). none-between (suc z) earlier i x later end y rises.2 more above below)
    (member-cases z (earlier ++ i ∷ x ∷ later) y h)

-- # an entry that a turn recorded

pub turn-replied : (c : Configuration) (journal : List Entry) (ask : Ask) (t : Turn) (e : Entry) → answers c journal ask t → recorded ask t ≡ Some e → IsReplied c journal e
turn-replied c journal ask t e x1 x2 = grind (arith, nat_tests)

-- under a name that an attribute can give
pub ruleset turn_replied = (turn-replied)

-- # What a walk gained of the history.

-- an entry is where it was added, in each history that continues from there
pub get_last : (before : List Entry) (e : Entry) (rest : List Entry) → slice_get ((before ++ e ∷ []) ++ rest) (length before) ≡ Some e
get_last [] e rest = refl
get_last (b ∷ bs) e rest = get_last bs e rest

records_seen : (r : Option Entry) (before : List Entry) (v u : Sight Entry) → Records r before v u → StartsWith before v.seen → StartsWith u.seen v.seen
records_seen None before v u h k = subst (λ (l : List Entry). StartsWith l v.seen) (sym h.0) k
records_seen (Some e) before v u h k = subst (λ (l : List Entry). StartsWith l v.seen) (sym h.0) (starts_more before v.seen (e ∷ []) k)

gained_turn : (r : Option Entry) (before : List Entry) (v u w : Sight Entry) (es : List Entry) → Records r before v u → StartsWith w.seen u.seen → Gains u es w → Gains v (turned.entries_of r ++ es) w
gained_turn None before v u w es h k i = (i.0, i.1 ∙ ap (λ (l : List ℕ). l ++ i.0) h.1, i.2)
gained_turn (Some e) before v u w es h k i = (length before ∷ i.0, i.1 ∙ (ap (λ (l : List ℕ). l ++ i.0) h.1 ∙ append_assoc v.mine (length before ∷ []) i.0), (subst (λ (l : List Entry). slice_get l (length before) ≡ Some e) (sym (k.1 ∙ ap (λ (l : List Entry). l ++ k.0) h.0)) (get_last before e k.0), i.2))

stand_length : (seen : List Entry) (xs : List ℕ) (es : List Entry) → StandAt seen xs es → length xs ≡ length es
stand_length seen [] [] h = refl
stand_length seen (x ∷ xs) (e ∷ es) h = ap suc (stand_length seen xs es h.1)
stand_length seen _ _ h = absurd h

pub gains_counted : (v : Sight Entry) (es : List Entry) (w : Sight Entry) → Gains v es w → length w.mine ≡ length v.mine + length es
gains_counted v es w h = omega (arith, ap length h.1, length-append v.mine h.0, stand_length w.seen h.0 es h.2)

module _ {F : Type 0} (answers : F → List Entry → Ask → Turn → Type 0) (f : F) where
  -- what a turn saw begins with what was seen before it
  pub turn_seen : (a : Ask) (t : Turn) (v u : Sight Entry) → Answered answers recorded f v a t u → StartsWith u.seen v.seen
  turn_seen a t v u h = records_seen (recorded a t) h.0 v u h.3 h.1

  pub walk_seen : (ms : List Move) (v w : Sight Entry) → Walk answers f ms v w → StartsWith w.seen v.seen
  walk_seen [] v w h = h.0
  walk_seen (asked a t ∷ ms) v w h = starts_on w.seen h.0.seen v.seen (walk_seen ms h.0 w h.2) (turn_seen a t v h.0 h.1)
  walk_seen (move ∷ ms) v w h = walk_seen ms v w h

  pub walk_gains : (ms : List Move) (v w : Sight Entry) → Walk answers f ms v w → Gains v (entries_of ms) w
  walk_gains [] v w h = ([], h.1 ∙ sym (append-nil v.mine), tt)
  walk_gains (asked a t ∷ ms) v w h = gained_turn (recorded a t) h.1.0 v h.0 w (entries_of ms) h.1.3 (walk_seen ms h.0 w h.2) (walk_gains ms h.0 w h.2)
  walk_gains (move ∷ ms) v w h = walk_gains ms v w h

-- # The moves of a round are orderly.

roles_took : (work : Work) (trace : List Move) (to : Phase) → Leads (first_phase work) trace to → RolesTook work trace to
roles_took (of_pool pool) trace to led = (launcher_took pool to trace led, janitor_took pool to trace led)
roles_took (of_requester q) trace to led = λ is. requester_took q trace (subst (λ (p : Phase). Leads (first_phase (of_requester q)) trace p) is led)
roles_took of_reaper trace to led = λ is. reaper_took trace (subst (λ (p : Phase). Leads (first_phase of_reaper) trace p) is led)

pub orderly : (work : Work) (trace : List Move) (to : Phase) → Leads (first_phase work) trace to → AreOrderly work trace to
orderly work trace to led = record {
  asks = asks_of work to trace led;
  order = in_order (first_phase work) to trace led;
  launched = let all = starts_launched (first_phase work) to trace led in let tags = tags_of_launches trace in grind (arith, nat_tests);
  reported = are_reported (first_phase work) to trace led;
  removed = are_named (first_phase work) to trace (λ owes. grind (arith, nat_tests)) led;
  took = roles_took work trace to led;
  last = ends_where_full (first_phase work) to trace led;
  full = is_at_end (first_phase work) to trace led;
}

-- those of a part from the first phase on
pub has_moves : {F : Type 0} {answers : F → List Entry → Ask → Turn → Type 0} {f : F} {v w : Sight Entry} {before now : Option Driving} {Holds : List Move → Phase → Type 0} (work : Work) → Part answers f (first_phase work) v w before now Holds → HasMoves answers f work v w before now
has_moves {answers} {f} {v} {w} work p = record {
  trace = p.trace;
  to = p.to;
  walked = p.walked;
  gained = walk_gains answers f p.trace v w p.walked;
  drove = p.drove;
  orderly = orderly work p.trace p.to p.led;
}

-- # Traces one after the other.

pub leads-append : (p q r : Phase) (ms ns : List Move) → Leads p ms q → Leads q ns r → Leads p (ms ++ ns) r
leads-append p q r [] ns e h = subst (λ (s : Phase). Leads s ns r) (sym e) h
leads-append p q r (asked a t ∷ ms) ns l h = (l.0, leads-append _ q r ms ns l.1 h)
leads-append p q r (move ∷ ms) ns l h = (l.0, leads-append _ q r ms ns l.1 h)

pub launches-append : (ms ns : List Move) → launches_of (ms ++ ns) ≡ launches_of ms ++ launches_of ns
launches-append [] ns = refl
launches-append (launched tag o ∷ ms) ns = ap (λ (ls : List Launch). record { tag = tag; outcome = o } ∷ ls) (launches-append ms ns)
launches-append (move ∷ ms) ns = launches-append ms ns

pub servers-append : (ms ns : List Move) (s : List Server) → servers_after (ms ++ ns) s ≡ servers_after ns (servers_after ms s)
servers-append [] ns s = refl
servers-append (asked a t ∷ ms) ns s = servers-append ms ns s
servers-append (launched tag o ∷ ms) ns s = servers-append ms ns (with_launched tag o s)
servers-append (removed x ∷ ms) ns s = servers-append ms ns (without_number x s)

pub sweeps-append : (ms ns : List Move) (s : List Server) → SweepsServers ms s → SweepsServers ns (servers_after ms s) → SweepsServers (ms ++ ns) s
sweeps-append [] ns s h k = k
sweeps-append (asked a t ∷ ms) ns s h k = (h.0, sweeps-append ms ns s h.1 k)
sweeps-append (launched tag o ∷ ms) ns s h k = sweeps-append ms ns (with_launched tag o s) h k
sweeps-append (removed x ∷ ms) ns s h k = sweeps-append ms ns (without_number x s) h k

pub plan-append : (plan : Tag → Option Outcome) (ms ns : List Move) → FollowsPlan plan ms → FollowsPlan plan ns → FollowsPlan plan (ms ++ ns)
plan-append plan [] ns h k = k
plan-append plan (launched tag o ∷ ms) ns h k = (h.0, plan-append plan ms ns h.1 k)
plan-append plan (move ∷ ms) ns h k = plan-append plan ms ns h k

pub alone-append : (sound : List ℕ → Bool) (ms ns : List Move) → AreSoundAlone sound ms → AreSoundAlone sound ns → AreSoundAlone sound (ms ++ ns)
alone-append sound [] ns h k = k
alone-append sound (launched tag o ∷ ms) ns h k = (h.0, alone-append sound ms ns h.1 k)
alone-append sound (move ∷ ms) ns h k = alone-append sound ms ns h k

-- the launches of these moves come last
abbrev pub with_launches : List Move → List Launch → List Launch
with_launches ms launches = launches ++ launches_of ms

pub map_twice : {A : Type 0} (f g h : A → A) → ((x : A) → g (f x) ≡ h x) → (o : Option A) → option_map g (option_map f o) ≡ option_map h o
map_twice f g h x1 o = grind (arith, nat_tests)

pub map_same : {A : Type 0} (f : A → A) → ((x : A) → x ≡ f x) → (o : Option A) → o ≡ option_map f o
map_same f x1 o = grind (arith, nat_tests)

module _ (room : ℕ) (ns : List Move) where
  same-fulls : (ls ls' : Option (List Launch)) (s s' : Option (List Server)) → ls ≡ ls' → s ≡ s' → FailFull room ns ls s → FailFull room ns ls' s'
  same-fulls ls ls' s s' e f h = subst (λ (x : Option (List Server)). FailFull room ns ls' x) f (subst (λ (x : Option (List Launch)). FailFull room ns x s) e h)

  pub full-append : (ms : List Move) (ls : Option (List Launch)) (s : Option (List Server)) → FailFull room ms ls s → FailFull room ns (option_map (with_launches ms) ls) (option_map (servers_after ms) s) → FailFull room (ms ++ ns) ls s
  full-append [] ls s h k = same-fulls _ ls _ s (sym (map_same (with_launches []) (λ l. sym (append-nil l)) ls)) (sym (map_same (servers_after []) (λ l. refl) s)) k
  full-append (asked a t ∷ ms) ls s h k = full-append ms ls s h k
  full-append (launched tag o ∷ ms) ls s h k = (
    h.0,
    full-append ms (option_map (with_launch tag o) ls) (option_map (with_launched tag o) s) h.1 (same-fulls _ _ _ _
        (sym (map_twice (with_launch tag o) (with_launches ms) (with_launches (launched tag o ∷ ms)) (λ l. append_assoc l (record { tag = tag; outcome = o } ∷ []) (launches_of ms)) ls))
        (sym (map_twice (with_launched tag o) (servers_after ms) (servers_after (launched tag o ∷ ms)) (λ l. refl) s)) k),
  )
  full-append (removed x ∷ ms) ls s h k = full-append ms ls (option_map (without_number x) s) h (same-fulls _ _ _ _ refl (sym (map_twice (without_number x) (servers_after ms) (servers_after (removed x ∷ ms)) (λ l. refl) s)) k)

module _ {F : Type 0} (answers : F → List Entry → Ask → Turn → Type 0) (f : F) where
  pub records-from : (e : Option Entry) (before : List Entry) (u v w : Sight Entry) → v.mine ≡ u.mine → Records e before v w → Records e before u w
  records-from None before u v w m h = (h.0, h.1 ∙ m)
  records-from (Some e) before u v w m h = (h.0, h.1 ∙ ap (λ (l : List ℕ). l ++ length before ∷ []) m)

  pub walk-from : (u v w : Sight Entry) (ms : List Move) → Unturned u v → Walk answers f ms v w → Walk answers f ms u w
  walk-from u v w [] h k = unturned_on u v w h k
  walk-from u v w (asked a t ∷ ms) h k = (k.0, (k.1.0, starts_on k.1.0 v.seen u.seen k.1.1 h.0, k.1.2, records-from (recorded a t) k.1.0 u v k.0 h.1 k.1.3), k.2)
  walk-from u v w (move ∷ ms) h k = walk-from u v w ms h k

  pub walk-append : (u v w : Sight Entry) (ms ns : List Move) → Walk answers f ms u v → Walk answers f ns v w → Walk answers f (ms ++ ns) u w
  walk-append u v w [] ns h k = walk-from u v w ns h k
  walk-append u v w (asked a t ∷ ms) ns h k = (h.0, h.1, walk-append h.0 v w ms ns h.2 k)
  walk-append u v w (move ∷ ms) ns h k = walk-append u v w ms ns h k

-- # What a part of a round did with its driver.

if_some : {A : Type 0} (o : Option A) (P : A → Type 0) → ((x : A) → P x) → IfSome o P
if_some None P h = tt
if_some (Some x) P h = h x

swept_both : (ms ns : List Move) (o : Option (List Server)) → IfSome o (λ s. SweepsServers ms s) → IfSome (option_map (servers_after ms) o) (λ s. SweepsServers ns s) → IfSome o (λ s. SweepsServers (ms ++ ns) s)
swept_both ms ns o x1 x2 = grind (arith, nat_tests, sweeps-append)

alone_both : (sound : List ℕ → Bool) (ms ns : List Move) (o : Option (List Server)) → IfSome o (λ s. AreSoundAlone sound ms) → IfSome (option_map (servers_after ms) o) (λ s. AreSoundAlone sound ns) → IfSome o (λ s. AreSoundAlone sound (ms ++ ns))
alone_both sound ms ns o x1 x2 = grind (arith, nat_tests, alone-append)

pub drives-append : (a b c : Driving) (ms ns : List Move) → Drives ms a b → Drives ns b c → Drives (ms ++ ns) a c
drives-append a b c ms ns h k = record {
  answered = k.answered ∙ (ap (option_map (λ (ls : List Launch). ls ++ launches_of ns)) h.answered ∙ map_twice (λ (ls : List Launch). ls ++ launches_of ms) (λ (ls : List Launch). ls ++ launches_of ns) (λ (ls : List Launch). ls ++ launches_of (ms ++ ns)) (λ ls. append_assoc ls (launches_of ms) (launches_of ns) ∙ ap (λ (l : List Launch). ls ++ l) (sym (launches-append ms ns))) a.facts.answered);
  servers = k.servers ∙ (ap (option_map (servers_after ns)) h.servers ∙ map_twice (servers_after ms) (servers_after ns) (servers_after (ms ++ ns)) (λ s. sym (servers-append ms ns s)) a.facts.servers);
  swept = swept_both ms ns a.facts.servers h.swept (subst (λ (o : Option (List Server)). IfSome o (λ s. SweepsServers ns s)) h.servers k.swept);
  planned = plan-append a.plan ms ns h.planned (subst (λ (p : Tag → Option Outcome). FollowsPlan p ns) h.plan k.planned);
  alone = alone_both a.sound ms ns a.facts.servers h.alone (rw (← h.servers, ← h.sound) k.alone);
  full = full-append a.room ns ms a.facts.answered a.facts.servers h.full (rw (← h.answered, ← h.servers, ← h.room) k.full);
  plan = k.plan ∙ h.plan;
  sound = k.sound ∙ h.sound;
  room = k.room ∙ h.room;
  counts = let i = h.counts.launches in let j = k.counts.launches in let m = h.counts.removals in let n = k.counts.removals in record { launches = omega arith; removals = omega arith };
}

pub drove-append : (a b c : Option Driving) (ms ns : List Move) → Drove ms a b → Drove ns b c → Drove (ms ++ ns) a c
drove-append (Some a) (Some b) (Some c) ms ns h k = drives-append a b c ms ns h k
drove-append (Some a) (Some b) None ms ns h k = k
drove-append None None None ms ns h k = tt
drove-append None None (Some c) ms ns h k = k
drove-append _ _ c ms ns h k = absurd h

-- what is sound and how much room there is stayed
pub record StaysSame (a b : Driving) : Type 0 where
  pub plan : b.plan ≡ a.plan
  pub sound : b.sound ≡ a.sound
  pub room : b.room ≡ a.room
  pub counts : KeepsCounts a.facts b.facts

stays_same : (d : Driving) → StaysSame d d
stays_same d = record { plan = refl; sound = refl; room = refl; counts = record { launches = omega arith; removals = omega arith } }

drives_of : (ms : List Move) (a b : Driving) → b.facts.answered ≡ option_map (with_launches ms) a.facts.answered → b.facts.servers ≡ option_map (servers_after ms) a.facts.servers → IfSome a.facts.servers (λ s. SweepsServers ms s) → FollowsPlan a.plan ms → IfSome a.facts.servers (λ s. AreSoundAlone a.sound ms)
    → FailFull a.room ms a.facts.answered a.facts.servers → StaysSame a b → Drives ms a b
drives_of ms a b answered servers swept planned alone full k =
    record { answered = answered; servers = servers; swept = swept; planned = planned; alone = alone; full = full; plan = k.plan; sound = k.sound; room = k.room; counts = k.counts }

none_more : (o : Option (List Launch)) → o ≡ option_map (with_launches []) o
none_more o = map_same (with_launches []) (λ ls. sym (append-nil ls)) o

same_servers : (o : Option (List Server)) → o ≡ option_map (servers_after []) o
same_servers o = map_same (servers_after []) (λ s. refl) o

pub drives_kept : (a b : Driving) → b.facts.answered ≡ a.facts.answered → b.facts.servers ≡ a.facts.servers → StaysSame a b → Drives [] a b
drives_kept a b h s k = drives_of [] a b (h ∙ none_more a.facts.answered) (s ∙ same_servers a.facts.servers) (if_some a.facts.servers _ (λ s. tt)) tt (if_some a.facts.servers _ (λ s. tt)) tt k

pub drives_none : (d : Driving) → Drives [] d d
drives_none d = drives_kept d d refl refl (stays_same d)

pub drove_none : (d : Option Driving) → Drove [] d d
drove_none None = tt
drove_none (Some d) = drives_none d

pub drove_ask : (d : Option Driving) (a : Ask) (t : Turn) → IsOfDriver a d → Drove (asked a t ∷ []) d d
drove_ask None a t h = tt
drove_ask (Some d) a t h = drives_of (asked a t ∷ []) d d (none_more d.facts.answered) (same_servers d.facts.servers) (IfSome_then d.facts.servers h (λ s of. (of, tt))) tt (if_some d.facts.servers _ (λ s. tt)) tt (stays_same d)

drives_launched : (a b : Driving) (tag : Tag) (o : Outcome) → Answers a.facts tag o b.facts → IfSome (a.plan tag) (λ planned. planned ≡ o) → IfSome a.facts.servers (λ _. IsSoundAlone a.sound o) → FailsFull a.room o a.facts.answered a.facts.servers → StaysSame a b → Drives (launched tag o ∷ []) a b
drives_launched a b tag o h p alone full k = drives_of (launched tag o ∷ []) a b h.answered h.servers (if_some a.facts.servers _ (λ s. tt)) (p, tt) (IfSome_then a.facts.servers alone (λ s sound. (sound, tt))) (full, tt) k

as_planned : (p : Option Outcome) → ((x : ℕ) → IsAsPlanned p (Ok x) → IfSome p (λ planned. planned ≡ Outcome.Launched x)) × (IsAsPlanned p (Err LaunchFault.Failed) → IfSome p (λ planned. planned ≡ Outcome.Failed))
as_planned p = ((λ x is. grind (arith, nat_tests)), (λ is. grind (arith, nat_tests)))

-- the number of the last server is one of the numbers
last_number : (x : ℕ) (tag : Tag) (servers : List Server) → is_number x (numbers_of (with_launched tag (Outcome.Launched x) servers)) ≡ true
last_number x tag [] = or_left (x == x) (is_number x []) (eq-eqb x x refl)
last_number x tag (s ∷ servers) = or_right (s.number == x) (is_number x (numbers_of (with_launched tag (Outcome.Launched x) servers))) (last_number x tag servers)

-- a server that was launched just now is sound by itself
alone_launched : (a b : Driving) (tag : Tag) (x : ℕ) (s : Option (List Server)) → b.facts.servers ≡ option_map (with_launched tag (Outcome.Launched x)) s → b.sound ≡ a.sound → Soundness b.facts b.sound → IfSome s (λ _. IsTrue (a.sound (x ∷ [])))
alone_launched a b tag x None e f h = tt
alone_launched a b tag x (Some s) e f h =
    let now : List Server = with_launched tag (Outcome.Launched x) s in
    let sound : IsTrue (b.sound (numbers_of now)) = subst (λ (o : Option (List Server)). IfSome o (λ servers. IsTrue (b.sound (numbers_of servers)))) e h.servers in
    subst (λ (g : List ℕ → Bool). IsTrue (g (x ∷ []))) f (h.fewer (numbers_of now) (x ∷ []) sound (refl, tt) (last_number x tag s, tt))

pub drives_launch : (a b : Driving) (tag : Tag) (x : ℕ) → Answers a.facts tag (Outcome.Launched x) b.facts → IsAsPlanned (a.plan tag) (Ok x) → Soundness b.facts b.sound → StaysSame a b → Drives (launched tag (Outcome.Launched x) ∷ []) a b
drives_launch a b tag x h p sound k = drives_launched a b tag (Outcome.Launched x) h ((as_planned (a.plan tag)).0 x p) (alone_launched a b tag x a.facts.servers h.servers k.sound sound) tt k

pub drives_failed : (a b : Driving) (tag : Tag) → Answers a.facts tag Outcome.Failed b.facts → IsAsPlanned (a.plan tag) (Err LaunchFault.Failed) → IsFull a.facts a.room → StaysSame a b → Drives (launched tag Outcome.Failed ∷ []) a b
drives_failed a b tag h p full k = drives_launched a b tag Outcome.Failed h ((as_planned (a.plan tag)).1 p) (if_some a.facts.servers _ (λ s. tt)) full k

pub drives_removed : (a b : Driving) (x : ℕ) → b.facts.answered ≡ a.facts.answered → b.facts.servers ≡ option_map (without_number x) a.facts.servers → StaysSame a b → Drives (removed x ∷ []) a b
drives_removed a b x h s k = drives_of (removed x ∷ []) a b (h ∙ none_more a.facts.answered) s (if_some a.facts.servers _ (λ s. tt)) tt (if_some a.facts.servers _ (λ s. tt)) tt k

pub failed_before : (a b c : Option Driving) (ms : List Move) → Drove ms a b → RemovalFailed b c → RemovalFailed a c
failed_before a b c ms x1 x2 = grind (arith, nat_tests)

pub same_driving : (a b : Driving) → a.facts ≡ b.facts → a.plan ≡ b.plan → a.sound ≡ b.sound → a.room ≡ b.room → a ≡ b
same_driving a b x1 x2 x3 x4 = grind (arith, nat_tests)

-- # The servers that were asked about, the last first.

-- the servers from a place on were asked about and kept
abbrev pub KeptFrom : PoolId → List Move → ℕ → Option (List Server) → Type 0
KeptFrom pool trace n None = Unit {0}
KeptFrom pool trace n (Some s) = AllByRecursion (WasKept pool trace) (drop n s)

drop_more : (P : Server → Type 0) (n : ℕ) (s : List Server) → AllByRecursion P (drop n s) → AllByRecursion P (drop (suc n) s)
drop_more P zero [] h = tt
drop_more P zero (x ∷ xs) h = h.1
drop_more P (suc n) [] h = tt
drop_more P (suc n) (x ∷ xs) h = drop_more P n xs h

drop_filter : (P : Server → Type 0) (f : Server → Bool) (n : ℕ) (s : List Server) → AllByRecursion (λ x. f x ≡ true → P x) (drop n s) → AllByRecursion P (drop n (filter f s))
drop_filter P f zero s h = all-filter_to (λ x. f x ≡ true → P x) P f s (λ x is each. each is) h
drop_filter P f (suc n) [] h = tt
drop_filter P f (suc n) (x ∷ xs) h = by_bool (λ b. AllByRecursion P (drop (suc n) (cond b (x ∷ filter f xs) (filter f xs)))) (f x) (λ e. drop_filter P f n xs h) (λ e. drop_filter P f (suc n) xs (drop_more (λ y. f y ≡ true → P y) n xs h))

not_itself : (a : ℕ) → not (a == a) ≡ true → ⊥
not_itself a h = let e : (a == a) ≡ true = eq-eqb a a refl in let k : not (a == a) ≡ false = ap not e in cc

was_kept_after : (pool : PoolId) (ms ns : List Move) (x : Server) → WasKept pool ns x → WasKept pool (ms ++ ns) x
was_kept_after pool ms ns x h = (h.0, Contains-append_right ms ns (asked (Ask.Sweep pool x.tag.node x.number) h.0) h.1, h.2)

pub kept_start : (pool : PoolId) (ms : List Move) (n : ℕ) (o : Option (List Server)) → IfSome o (λ s. length s ≤ n) → KeptFrom pool ms n o
kept_start pool ms n None h = tt
kept_start pool ms n (Some s) h = subst (AllByRecursion (WasKept pool ms)) (sym (drop_all n s h)) tt

pub kept_all : (pool : PoolId) (ms : List Move) (o : Option (List Server)) → KeptFrom pool ms 0 o → IfSome o (λ s. All (WasKept pool ms) s)
kept_all pool ms None h = tt
kept_all pool ms (Some s) h = All-from_recursion (WasKept pool ms) s h

-- more moves came before the sweeps
pub are_kept_after : (pool : PoolId) (ms ns : List Move) (d : Driving) → AreKept pool ns (Some d) → AreKept pool (ms ++ ns) (Some d)
are_kept_after pool ms ns d h = IfSome_then d.facts.servers h (λ s all k e l. was_kept_after pool ms ns (get_or s k e) (all k e l))

pub kept_none : (pool : PoolId) (ms : List Move) (n : ℕ) (o : Option (List Server)) → IfSome o (λ s. None ≡ slice_get s n) → KeptFrom pool ms n o
kept_none pool ms n None h = tt
kept_none pool ms n (Some s) h = subst (AllByRecursion (WasKept pool ms)) (sym (drop-past s n (sym h))) tt

later : (pool : PoolId) (n : ℕ) (ms ns : List Move) (s : List Server) → AllByRecursion (WasKept pool ms) (drop (suc n) s) → AllByRecursion (WasKept pool (ms ++ ns)) (drop (suc n) s)
later pool n ms ns s k = all-weaker (WasKept pool ms) (WasKept pool (ms ++ ns)) (λ x h. (h.0, Contains-append_left ms ns (asked (Ask.Sweep pool x.tag.node x.number) h.0) h.1, h.2)) (drop (suc n) s) k

kept_stays : (pool : PoolId) (n : ℕ) (x : Server) (ms ns : List Move) (o : Option (List Server)) → IfSome o (λ s. Some x ≡ slice_get s n) → KeptFrom pool ms (suc n) o → WasKept pool ns x → KeptFrom pool (ms ++ ns) n o
kept_stays pool n x ms ns None h k w = tt
kept_stays pool n x ms ns (Some s) h k w = subst (AllByRecursion (WasKept pool (ms ++ ns))) (sym (drop-there s n x (sym h))) (was_kept_after pool ms ns x w, later pool n ms ns s k)

kept_goes : (pool : PoolId) (n : ℕ) (x : Server) (ms ns : List Move) (o : Option (List Server)) → IfSome o (λ s. Some x ≡ slice_get s n) → KeptFrom pool ms (suc n) o → KeptFrom pool (ms ++ ns) n (option_map (without_number x.number) o)
kept_goes pool n x ms ns None h k = tt
kept_goes pool n x ms ns (Some s) h k =
    let P : Server → Type 0 = WasKept pool (ms ++ ns) in
    let Q : Server → Type 0 = λ y. not (y.number == x.number) ≡ true → WasKept pool (ms ++ ns) y in
    drop_filter P (λ (y : Server). not (y.number == x.number)) n s (subst (AllByRecursion Q) (sym (drop-there s n x (sym h))) ((λ e. absurd (not_itself x.number e)), all-weaker P Q (λ y p e. p) (drop (suc n) s) (later pool n ms ns s k)))

pub kept_one : (pool : PoolId) (n : ℕ) (x : Server) (d e : Driving) (ms ns : List Move) → IfSome d.facts.servers (λ s. Some x ≡ slice_get s n) → KeptFrom pool ms (suc n) d.facts.servers → IsDealtWith pool x d e ns → KeptFrom pool (ms ++ ns) n e.facts.servers
kept_one pool n x d e ms ns h k dealt = elim dealt [
  | inl w ↦ subst (KeptFrom pool (ms ++ ns) n) (sym w.1) (kept_stays pool n x ms ns d.facts.servers h k w.0)
  | inr w ↦ subst (KeptFrom pool (ms ++ ns) n) (sym w) (kept_goes pool n x ms ns d.facts.servers h k)
]

-- # Parts of a round one after the other.

module _ {F : Type 0} {answers : F → List Entry → Ask → Turn → Type 0} {f : F} where
  -- a part with these moves
  pub with_moves : {from : Phase} {v w : Sight Entry} {d e : Option Driving} {P : List Move → Phase → Type 0} (trace : List Move) (to : Phase)
      → Walk answers f trace v w → Drove trace d e → Leads from trace to → P trace to → Part answers f from v w d e P
  with_moves trace to walked drove led r = record { trace = trace; to = to; walked = walked; drove = drove; led = led; holds = r }

  -- one part after another, which begins in the phase that the first led to
  pub follow : {from to : Phase} {u v w : Sight Entry} {d e x : Option Driving} {P Q R : List Move → Phase → Type 0}
      → (p : Part answers f from u v d e P) → p.to ≡ to → (q : Part answers f to v w e x Q)
      → R (p.trace ++ q.trace) q.to → Part answers f from u w d x R
  follow {from} {to} {u} {v} {w} {d} {e} {x} p h q r = with_moves (p.trace ++ q.trace) q.to (walk-append answers f u v w p.trace q.trace p.walked q.walked) (drove-append d e x p.trace q.trace p.drove q.drove)
      (leads-append from to q.to p.trace q.trace (subst (λ (t : Phase). Leads from p.trace t) h p.led) q.led) r

  -- something else holds of the same part
  pub of_part : {from : Phase} {u v : Sight Entry} {d e : Option Driving} {P R : List Move → Phase → Type 0}
      → (p : Part answers f from u v d e P) → R p.trace p.to → Part answers f from u v d e R
  of_part p r = with_moves p.trace p.to p.walked p.drove p.led r

  -- no turn, and nothing of the driver
  pub no_turn : (p : Phase) (v w : Sight Entry) (d : Option Driving) {P : List Move → Phase → Type 0}
      → Unturned v w → P [] p → Part answers f p v w d d P
  no_turn p v w d h r = with_moves [] p h (drove_none d) refl r

  -- one turn
  pub one_turn : (p : Phase) (v w : Sight Entry) (d : Option Driving) (a : Ask) (t : Turn) {P : List Move → Phase → Type 0}
      → MayAsk p a → IsOfDriver a d → Answered answers recorded f v a t w
      → P (asked a t ∷ []) (after_turn p a t) → Part answers f p v w d d P
  one_turn p v w d a t may of h r = with_moves (asked a t ∷ []) (after_turn p a t) (w, h, unturned_same w) (drove_ask d a t of) (may, refl) r

module _ {F : Type 0} {answers : F → List Entry → Ask → Turn → Type 0} where
  pub same_fixed : {f g : F} {from : Phase} {u v : Sight Entry} {d e : Option Driving} {P : List Move → Phase → Type 0}
      → g ≡ f → Part answers g from u v d e P → Part answers f from u v d e P
  same_fixed {f} {g} {from} {u} {v} {d} {e} {P} h p = subst (λ (x : F). Part answers x from u v d e P) h p

module _ {F : Type 0} (answers : F → List Entry → Ask → Turn → Type 0) where
  pub with_recorded : (r : Ask → Turn → Option Entry) → r ≡ recorded → (f : F) (v w : Sight Entry) (a : Ask) (t : Result Turn NoMemory) → Turned answers r f v a t w → Turned answers recorded f v a t w
  with_recorded r e f v w a t h = subst (λ (s : Ask → Turn → Option Entry). Turned answers s f v a t w) e h

-- ## asks, and how parts end

-- an ask that is about no server
pub of_no_server : (a : Ask) → ((s : List Server) → IsOfServer a s) → (d : Option Driving) → IsOfDriver a d
of_no_server a h None = tt
of_no_server a h (Some d) = if_some d.facts.servers (IsOfServer a) h

-- a removal and what it comes to
module _ {F : Type 0} {answers : F → List Entry → Ask → Turn → Type 0} {f : F} where
  pub removal : (from go idle : Phase) (v : Sight Entry) (d e : Driving) (x : ℕ) (n : Next)
      → MayRemove from x → OwesRemoval from → after_removal from ≡ go → RemovalEnds x d e n
      → Part answers f from v v (Some d) (Some e) (Comes go idle (Some d) (Some e) (Ok n))
  removal from go idle v d e x Next.Go may owes h r = with_moves (removed x ∷ []) (after_removal from) (unturned_same v) r (may, refl) h
  removal from go idle v d e x Next.Failed may owes h r = with_moves [] from (unturned_same v) r.0 refl (owes, r.1)
  removal from go idle v d e x n may owes h r = absurd r

  pub swept_removal : (pool : PoolId) (v : Sight Entry) (d e : Driving) (server : Server) (n : Next)
      → RemovalEnds server.number d e n
      → Part answers f (owes_swept pool server.number) v v (Some d) (Some e) (SweepsOne pool server d e (Ok n))
  swept_removal pool v d e server Next.Go r = with_moves (removed server.number ∷ []) (sweeps pool) (unturned_same v) r (refl, refl) (refl, inr r.servers)
  swept_removal pool v d e server Next.Failed r = with_moves [] (owes_swept pool server.number) (unturned_same v) r.0 refl (tt, r.1)
  swept_removal pool v d e server n r = absurd r

-- a part that began with a turn ends as its rest does
pub sweeps_one_on : (pool : PoolId) (server : Server) (d e : Driving) (n : Next) (trace trace' : List Move) (to : Phase)
    → (n ≡ Next.Go → IsDealtWith pool server d e trace') → SweepsOne pool server d e (Ok n) trace to → SweepsOne pool server d e (Ok n) trace' to
sweeps_one_on pool server d e n trace trace' to x1 x2 = grind (arith, nat_tests)

pub removed_deals : (pool : PoolId) (server : Server) (d e : Driving) (n : Next) (trace : List Move) → RemovalEnds server.number d e n → n ≡ Next.Go → IsDealtWith pool server d e trace
removed_deals pool server d e n trace x1 x2 = grind (arith, nat_tests)

pub after_sweep_turn : (pool : PoolId) (x : ℕ) (t : Turn) → (t ≡ Turn.Full → ⊥) → after_sweep pool x t ≡ cond (is_unwanted t) (owes_swept pool x) (sweeps pool)
after_sweep_turn pool x t x1 = grind (arith, nat_tests)

-- ## the end of a round

pub sweeps_before : (pool : PoolId) (d0 d e : Driving) (ms ns : List Move) (r : Result Next NoMemory) (to : Phase) → Drove ms (Some d0) (Some d) → SweepsAll pool d e r ns to → SweepsAll pool d0 e r (ms ++ ns) to
sweeps_before pool d0 d e ms ns r to x1 x2 = let failed = failed_before (Some d0) (Some d) (Some e) ms x1 in let kept = are_kept_after pool ms ns e in grind (arith, nat_tests)

pub ends_alone : (w : Work) (n : Next) (entries : ℕ) (trace : List Move) (to : Phase) → ((p : Phase) → p ≡ rests → Rests w None None trace p) → Goes rests rests (Ok n) trace to → EndsAs w None None (Ok (record { entries = entries; full = is_full n })) trace to
ends_alone w n entries trace to x1 x2 = grind (arith, nat_tests)

-- an entry is counted once
pub counts_turn : (n m : ℕ) (a : Ask) (t : Turn) (before : List Entry) (v w : Sight Entry)
    → m ≡ n + entry_count t → Records (recorded a t) before v w → Counts n v m w
counts_turn n m a (Turn.Did e) before v w h r = omega (arith, ap length r.1, length-append v.mine (length before ∷ []))
counts_turn n m a t before v w h r = omega (arith, ap length r.1)

pub counts_on : (n m k : ℕ) (u v w : Sight Entry) → Counts n u m v → Counts m v k w → Counts n u k w
counts_on n m k u v w h i = omega arith

-- ## phases in the loops over 16 turns

-- a part that neither was cut off nor failed went on
pub comes_to : (go : Phase) (d e : Option Driving) (n : Next) (trace : List Move) (to : Phase) → (n ≡ Next.Full → ⊥) → (n ≡ Next.Failed → ⊥) → Comes go go d e (Ok n) trace to → to ≡ go
comes_to go d e n trace to x1 x2 x3 = grind (arith, nat_tests)

pub comes_from : (go idle : Phase) (d e : Option Driving) (r : Result Next NoMemory) (trace trace' : List Move) (to : Phase) → Comes go idle d e r trace to → Comes go idle d e r trace' to
comes_from go idle d e r trace trace' to x1 = grind (arith, nat_tests)

-- ## sweeps of one server

pub of_kept_server : (pool : PoolId) (server : Server) (d : Driving) → IfSome d.facts.servers (λ servers. Contains servers server) → IsOfDriver (Ask.Sweep pool server.tag.node server.number) (Some d)
of_kept_server pool server d h = IfSome_then d.facts.servers h (λ servers there. (server, there, refl, refl))

pub was_kept_now : (pool : PoolId) (server : Server) (t : Turn) (trace : List Move) → trace ≡ asked (Ask.Sweep pool server.tag.node server.number) t ∷ [] → is_unwanted t ≡ false → WasKept pool trace server
was_kept_now pool server t trace h k = (t, subst (λ (l : List Move). Contains l (asked (Ask.Sweep pool server.tag.node server.number) t)) (sym h) (Contains-push [] (asked (Ask.Sweep pool server.tag.node server.number) t)), k)

-- the sweep of one server that was cut off or failed ends all
pub sweeps_one_all : (pool : PoolId) (server : Server) (d0 d e : Driving) (ms : List Move) (n : Next) (trace trace' : List Move) (to : Phase)
    → (n ≡ Next.Go → ⊥) → Drove ms (Some d0) (Some d) → SweepsOne pool server d e (Ok n) trace to → SweepsAll pool d0 e (Ok n) trace' to
sweeps_one_all pool server d0 d e ms n trace trace' to x1 x2 x3 = let failed = failed_before (Some d0) (Some d) (Some e) ms x2 in grind (arith, nat_tests)

-- # The series of turns that leads from one stage to another.

-- the turns of a series were at least as many as the steps that they used up
pub heard_steps : (p q : Playing) (xs : List (Asked Ask Turn)) → Heard asks Hears p xs q → steps_left (phase_of q.stage) + length xs ≤ steps_left (phase_of p.stage)
heard_steps p q [] h = omega (arith, ap (λ (x : Playing). steps_left (phase_of x.stage)) h)
heard_steps p q (x ∷ xs) h = let r : Playing = h.1 in omega (arith, heard_steps r q xs h.3, steps_after p.stage x.ask x.turn h.0, ap steps_left (h.2.0 x.ask h.0))

pub heard_work : (w : Work) (p q : Playing) (xs : List (Asked Ask Turn)) → Heard asks Hears p xs q → IsOfWork w (phase_of p.stage) → IsOfWork w (phase_of q.stage)
heard_work w p q [] h k = subst (λ (x : Playing). IsOfWork w (phase_of x.stage)) h k
heard_work w p q (x ∷ xs) h k = let r : Playing = h.1 in heard_work w r q xs h.3 (subst (IsOfWork w) (sym (h.2.0 x.ask h.0)) (work_after w (phase_of p.stage) x.ask x.turn (may_ask p.stage x.ask h.0) k))

module _ {F : Type 0} (answers : F → List Entry → Ask → Turn → Type 0) (f : F) where
  -- the turns, as a part of a round
  pub series_part : (p q : Playing) (xs : List (Asked Ask Turn)) (v w : Sight Entry) (d : Option Driving) → Walked answers recorded f v xs w → Heard asks Hears p xs q
      → Part answers f (phase_of p.stage) v w d d (λ trace to. to ≡ phase_of q.stage)
  series_part p q [] v w d k h = no_turn (phase_of p.stage) v w d (subst (Unturned v) k (unturned_same v)) (ap (λ (x : Playing). phase_of x.stage) h)
  series_part p q (x ∷ xs) v w d k h = let r : Playing = h.1 in let u : Sight Entry = k.0 in
      let one : Part answers f (phase_of p.stage) v u d d (λ trace to. to ≡ phase_of r.stage) = one_turn (phase_of p.stage) v u d x.ask x.turn (may_ask p.stage x.ask h.0) (of_no_server x.ask (asks_no_server p.stage x.ask h.0) d) k.1 (sym (h.2.0 x.ask h.0)) in
      let rest : Part answers f (phase_of r.stage) u w d d (λ trace to. to ≡ phase_of q.stage) = series_part r q xs u w d k.2 h.3 in
      follow one one.holds rest rest.holds

  -- the entries of the turns, if there are fewer than 2 ^ 32
  series_counts : (p q : Playing) (xs : List (Asked Ask Turn)) (v w : Sight Entry) → Walked answers recorded f v xs w → Heard asks Hears p xs q → q.entries < 2 ^ 32
      → Counts p.entries v q.entries w × (p.entries ≤ q.entries)
  series_counts p q [] v w k h few = let same = ap (λ (x : Playing). x.entries) h in (omega (arith, ap (λ (s : Sight Entry). length s.mine) k, same), omega (arith, same))
  series_counts p q (x ∷ xs) v w k h few = let r : Playing = h.1 in let u : Sight Entry = k.0 in
      let rest = series_counts r q xs u w k.2 h.3 few in
      let one = h.2.1 (omega (arith, rest.1, few)) in
      let counted : Counts p.entries v r.entries u = counts_turn p.entries r.entries x.ask x.turn k.1.0 v u one k.1.3 in
      (omega (arith, counted, rest.0), omega (arith, one, rest.1))

  abbrev Taken : {R : Type 0} → Sight Entry → Playing → Result R NoMemory → Sight Entry → Playing → Type 0
  Taken v p result w q = Took answers recorded asks Hears f v p 16 result w q

  last_unturned : {R : Type 0} (result : Result R NoMemory) (last w : Sight Entry) (xs : List (Asked Ask Turn)) (q : Playing) → MatchResult result (λ _. (w ≡ last) × IsOver asks 16 xs q) (λ _. Unturned last w) → Unturned last w
  last_unturned (Ok y) last w xs q h = subst (Unturned last) (sym h.0) (unturned_same last)
  last_unturned (Err y) last w xs q h = h

  pub took_part : {R : Type 0} (p q : Playing) (v w : Sight Entry) (result : Result R NoMemory) (d : Option Driving) → Taken v p result w q
      → Part answers f (phase_of p.stage) v w d d (λ trace to. to ≡ phase_of q.stage)
  took_part p q v w result d t =
      let before : Part answers f (phase_of p.stage) v t.first d d (λ trace to. to ≡ phase_of p.stage) = no_turn (phase_of p.stage) v t.first d t.saw refl in
      let taken : Part answers f (phase_of p.stage) t.first t.last d d (λ trace to. to ≡ phase_of q.stage) = series_part p q t.turns t.first t.last d t.walked t.heard in
      let after : Part answers f (phase_of q.stage) t.last w d d (λ trace to. to ≡ phase_of q.stage) = no_turn (phase_of q.stage) t.last w d (last_unturned result t.last w t.turns q t.over) refl in
      let both : Part answers f (phase_of p.stage) v t.last d d (λ trace to. to ≡ phase_of q.stage) = follow before before.holds taken taken.holds in
      follow both both.holds after after.holds

  pub took_counts : {R : Type 0} (p q : Playing) (v w : Sight Entry) (y : R) → Taken v p (Ok y) w q → q.entries < 2 ^ 32 → Counts p.entries v q.entries w
  took_counts p q v w y t few = omega (arith, (series_counts p q t.turns t.first t.last t.walked t.heard few).0, ap length t.saw.1, ap (λ (s : Sight Entry). length s.mine) t.over.0)

  pub took_far : {R : Type 0} (p q : Playing) (v w : Sight Entry) (y : R) → Taken v p (Ok y) w q → WentFar (phase_of p.stage) q.stage
  took_far p q v w y t = let less = heard_steps p q t.turns t.heard in (omega (arith, less), ⊎_elim (λ (none : ask_of q.stage ≡ None). inl none) (λ (all : length t.turns ≡ 16). inr (omega (arith, less, all))) t.over.1)

  pub with_recorded_series : {R : Type 0} (r : Ask → Turn → Option Entry) → r ≡ recorded → (v : Sight Entry) (p : Playing) (result : Result R NoMemory) (w : Sight Entry) (q : Playing) → Took answers r asks Hears f v p 16 result w q → Taken v p result w q
  with_recorded_series r e v p result w q h = subst (λ (s : Ask → Turn → Option Entry). Took answers s asks Hears f v p 16 result w q) e h

-- # How the roles of a worker go on.

-- ## how a stage goes on

-- the roles of a pool were played, or the round ends
pub roles_end : (pool : PoolId) (a b c : Option Driving) (ms : List Move) (n : Next) (from p : Phase) (trace trace' : List Move) (to : Phase) → (n ≡ Next.Go → ⊥) → Drove ms a b → Comes p p b c (Ok n) trace to → WentOn n from p → IsOfWork (of_pool pool) p
    → Comes (sweeps pool) (sweeps pool) a c (Ok n) trace' to
roles_end pool a b c ms n from p trace trace' to x1 x2 x3 x4 x5 = let failed = failed_before a b c ms x2 in let swept = pool_swept pool p in grind (arith, nat_tests)

module _ {F : Type 0} {answers : F → List Entry → Ask → Turn → Type 0} {f : F} where
  pub same_from : {p q : Phase} {u v : Sight Entry} {d e : Option Driving} {P : List Move → Phase → Type 0} → p ≡ q → Part answers f p u v d e P → Part answers f q u v d e P
  same_from {p} {q} {u} {v} {d} {e} {P} h k = subst (λ (x : Phase). Part answers f x u v d e P) h k
