-- what follows a phase of a round, case by case: what a turn may begin, name or remove, and how a round ends
use Rattle.np_worker.proofs.Prelude.{AreAsksOf, AreInOrder, AreReported, Ask, Bool, EndsWhereFull, Event, IfSome, IsAskOf, IsLone, IsOfServer, IsOfWork, IsPastJanitor, IsPastLauncher, IsPlayed, IsReported, Launch, Leads, List, MayAsk, MayRemove, Move, NodeId, Outcome, OwesRemoval, Phase, PoolId, Reports, RequesterId, Role, Server, Some, Stage, Start, Tag, TookAll, Turn, WasFull, WasIdle, WentFar, Work, acting, acts, after_removal, after_turn, ap, append-nil, append_assoc, arith, ask_of, asked, cond, did_count, ended, false, first_phase, inl, inr, is_did, is_idle, is_janitor_act, is_launcher_act, is_lone_act, launched, launches_of, looks, map, nat_tests, of_pool, of_reaper, of_requester, owed_tags, owes_due, owes_launch, owes_report, owes_swept, phase_of, player, refl, removed, rests, stage_of, start_made, steps_left, subst, suc, sweeps, sym, tags_launched, tags_of, true, zero, ℕ, [], ◌&&◌, ◌++◌, ◌+◌, ◌<◌, ◌∙◌, ◌∷◌, ◌≡◌, ◌≤◌, ◌⊎◌}
use Rattle.np_worker.specs.Trace.{starts_of, NamesServer, AreNamed}

-- # What follows a phase, case by case.

-- nothing comes after the end
pub nothing_more : (q : Phase) (ms : List Move) → Leads ended ms q → (ms ≡ []) × (q ≡ ended)
nothing_more q [] h = (refl, sym h)
nothing_more q (asked a t ∷ ms) h = absurd h.0
nothing_more q (move ∷ ms) h = absurd h.0

-- when a role goes on, or is done, it acts, looks or sweeps, or its worker rests
pub goes_on : (P : Phase → Type 0) → ((r : Role) (n : ℕ) → P (acts r n)) → ((pool : PoolId) (n : ℕ) → P (looks pool n)) → ((pool : PoolId) → P (sweeps pool)) → P rests → (r : Role) (n : ℕ) → P (acting r n)
goes_on P act look sweep rest (Role.Launcher pool) zero = look pool 15
goes_on P act look sweep rest (Role.Janitor pool) zero = sweep pool
goes_on P act look sweep rest r zero = rest
goes_on P act look sweep rest (Role.Janitor pool) (suc n) = look pool n
goes_on P act look sweep rest r (suc n) = act r n

-- what holds at the end of a trace, and before each move if it does after it, holds where the trace begins
module _ (T : Phase → List Move → Type 0) (q : Phase) (end : T q []) (turn : (p : Phase) (a : Ask) (t : Turn) (ms : List Move) → MayAsk p a → Leads (after_turn p a t) ms q → T (after_turn p a t) ms → T p (asked a t ∷ ms))
    (launch : (pool : PoolId) (n : ℕ) (s : Start) (o : Outcome) (ms : List Move) → T (owes_report pool n s o) ms → T (owes_launch pool n s) (launched s.tag o ∷ ms))
    (due : (pool : PoolId) (n x : ℕ) (ms : List Move) → T (acts (Role.Janitor pool) n) ms → T (owes_due pool n x) (removed x ∷ ms)) (swept : (pool : PoolId) (x : ℕ) (ms : List Move) → T (sweeps pool) ms → T (owes_swept pool x) (removed x ∷ ms)) where
  along : (p : Phase) (ms : List Move) → Leads p ms q → T p ms
  along p [] h = subst (λ (s : Phase). T s []) (sym h) end
  along p (asked a t ∷ ms) h = turn p a t ms h.0 h.1 (along (after_turn p a t) ms h.1)
  along (owes_launch pool n s) (launched tag o ∷ ms) h = subst (λ (x : Tag). T (owes_launch pool n s) (launched x o ∷ ms)) (sym h.0) (launch pool n s o ms (along (owes_report pool n s o) ms h.1))
  along (owes_due pool n x) (removed y ∷ ms) h = subst (λ (z : ℕ). T (owes_due pool n x) (removed z ∷ ms)) (sym h.0) (due pool n x ms (along (acts (Role.Janitor pool) n) ms h.1))
  along (owes_swept pool x) (removed y ∷ ms) h = subst (λ (z : ℕ). T (owes_swept pool x) (removed z ∷ ms)) (sym h.0) (swept pool x ms (along (sweeps pool) ms h.1))
  along _ _ h = absurd h.0

-- what holds of a removal, when one may come, and of the phase after it
pub of_removal : (P : Phase → Phase → Type 0) → ((pool : PoolId) (n x : ℕ) → P (owes_due pool n x) (acts (Role.Janitor pool) n)) → ((pool : PoolId) (x : ℕ) → P (owes_swept pool x) (sweeps pool)) → (p : Phase) (y : ℕ) → MayRemove p y → P p (after_removal p)
of_removal P f g (owes_due pool n x) y h = f pool n x
of_removal P f g (owes_swept pool x) y h = g pool x
of_removal P f g p y h = absurd h

-- # Accepted starts, their launches and the reports of these.

-- ## launches

-- what a phase owes and what a turn starts is owed afterwards
turn_owes : (p : Phase) (a : Ask) (t : Turn) → MayAsk p a → owed_tags p ++ tags_of (start_made a t) ≡ owed_tags (after_turn p a t)
turn_owes p a t x1 = grind (arith, nat_tests)

-- the accepted starts are the launches, in this order, except one whose launch is still owed
pub starts_launched : (p q : Phase) (ms : List Move) → Leads p ms q → owed_tags p ++ starts_of ms ≡ tags_launched ms ++ owed_tags q
starts_launched p q ms = along (λ s ns. owed_tags s ++ starts_of ns ≡ tags_launched ns ++ owed_tags q) q (append-nil (owed_tags q))
    (λ s a t ns may _ k. sym (append_assoc (owed_tags s) (tags_of (start_made a t)) (starts_of ns)) ∙ (ap (λ (l : List Tag). l ++ starts_of ns) (turn_owes s a t may) ∙ k)) (λ pool n s o ns k. ap (λ (l : List Tag). s.tag ∷ l) k) (λ pool n x ns k. k) (λ pool x ns k. k) p ms

-- ## reports

reports : (pool : PoolId) (n : ℕ) (s : Start) (o : Outcome) (ms : List Move) (q : Phase) → Leads (owes_report pool n s o) ms q → Reports s o ms q
reports pool n s o ms q x1 = grind (arith, nat_tests)

is_reported : (pool : PoolId) (n : ℕ) (s : Start) (ms : List Move) (q : Phase) → Leads (owes_launch pool n s) ms q → IsReported s ms q
is_reported pool n s ms q x1 = grind (arith, nat_tests, reports)

-- the start of a turn, if there is one, is launched and reported in the moves that come next
turn_reported : (p q : Phase) (a : Ask) (t : Turn) (ms : List Move) → MayAsk p a → Leads (after_turn p a t) ms q → IfSome (start_made a t) (λ s. IsReported s ms q)
turn_reported p q a t ms x1 x2 = grind (arith, nat_tests, is_reported)

pub are_reported : (p q : Phase) (ms : List Move) → Leads p ms q → AreReported ms q
are_reported p q ms = along (λ s ns. AreReported ns q) q tt (λ s a t ns may leads k. (turn_reported s q a t ns may leads, k)) (λ pool n s o ns k. k) (λ pool n x ns k. k) (λ pool x ns k. k) p ms

pub tags_of_launches : (ms : List Move) → tags_launched ms ≡ map (λ (l : Launch). l.tag) (launches_of ms)
tags_of_launches [] = refl
tags_of_launches (launched tag o ∷ ms) = ap (λ (l : List Tag). tag ∷ l) (tags_of_launches ms)
tags_of_launches (move ∷ ms) = tags_of_launches ms

-- # The order of a worker's asks.

-- the stage of what comes in a phase
abbrev stage_at : Phase → ℕ
stage_at (acts r n) = stage_of (Ask.Act r)
stage_at (owes_launch pool n s) = 0
stage_at (owes_report pool n s o) = 0
stage_at (looks pool n) = 1
stage_at (owes_due pool n x) = 1
stage_at (sweeps pool) = 2
stage_at (owes_swept pool x) = 2
stage_at _ = 3

ask_stage : (p : Phase) (a : Ask) → MayAsk p a → stage_of a ≡ stage_at p
ask_stage p a x1 = grind (arith, nat_tests)

-- no turn leads to an earlier stage
turn_later : (p : Phase) (a : Ask) (t : Turn) → MayAsk p a → stage_at p ≤ stage_at (after_turn p a t)
turn_later p a t x1 = grind (arith, nat_tests)

in_order_from : (p q : Phase) (ms : List Move) → Leads p ms q → (stage : ℕ) → stage ≤ stage_at p → AreInOrder stage ms
in_order_from p q ms = along (λ s ns. (stage : ℕ) → stage ≤ stage_at s → AreInOrder stage ns) q (λ stage less. tt)
    (λ s a t ns may _ k stage less. (omega (arith, ask_stage s a may), k (stage_of a) (omega (arith, ask_stage s a may, turn_later s a t may)))) (λ pool n s o ns k. k) (λ pool n x ns k. k) (λ pool x ns k. k) p ms

pub in_order : (p q : Phase) (ms : List Move) → Leads p ms q → AreInOrder 0 ms
in_order p q ms h = in_order_from p q ms h 0 (omega arith)

-- # Removals, and the turns that named them.

-- what is removed after a turn is what the turn named
turn_names : (p : Phase) (a : Ask) (t : Turn) → MayAsk p a → (x : ℕ) → MayRemove (after_turn p a t) x → NamesServer a t x
turn_names p a t x1 x x2 = grind (arith, nat_tests)

-- each removal is named, except one that comes first, which the phase owes
abbrev NamedBut : Phase → List Move → Type 0
NamedBut p [] = Unit {0}
NamedBut p (asked a t ∷ ms) = AreNamed (asked a t ∷ ms)
NamedBut p (launched tag o ∷ ms) = AreNamed ms
NamedBut p (removed x ∷ ms) = MayRemove p x × AreNamed ms

all_named : (p : Phase) (ms : List Move) → ((x : ℕ) → MayRemove p x → ⊥) → NamedBut p ms → AreNamed ms
all_named p ms x1 x2 = grind (arith, nat_tests)

named_after : (a : Ask) (t : Turn) (s : Phase) (ms : List Move) → ((x : ℕ) → MayRemove s x → NamesServer a t x) → NamedBut s ms → AreNamed (asked a t ∷ ms)
named_after a t s ms x1 x2 = grind (arith, nat_tests)

named_but : (p q : Phase) (ms : List Move) → Leads p ms q → NamedBut p ms
named_but p q ms = along NamedBut q tt (λ s a t ns may _ k. named_after a t (after_turn s a t) ns (turn_names s a t may) k)
    (λ pool n s o ns k. all_named (owes_report pool n s o) ns (λ x m. m) k) (λ pool n x ns k. (refl, all_named (acts (Role.Janitor pool) n) ns (λ y m. m) k)) (λ pool x ns k. (refl, all_named (sweeps pool) ns (λ y m. m) k)) p ms

pub are_named : (p q : Phase) (ms : List Move) → ¬ (OwesRemoval p) → Leads p ms q → AreNamed ms
are_named p q ms free h = all_named p ms (λ x m. free (of_removal (λ u s. OwesRemoval u) (λ pool n y. tt) (λ pool y. tt) p x m)) (named_but p q ms h)

-- # The end of a round whose turn found no room in the journal.

-- only a turn that found the journal full leads to the end
turn_ends : (p : Phase) (a : Ask) (t : Turn) → MayAsk p a → (t ≡ Turn.Full) ⊎ (after_turn p a t ≡ ended → ⊥)
turn_ends p a t x1 = grind (arith, nat_tests)

pub ends_full : (p q : Phase) (ms : List Move) → (p ≡ ended → ⊥) → Leads p ms q → q ≡ ended → WasFull ms
ends_full p q ms free h k = along (λ s ns. (s ≡ ended → ⊥) → WasFull ns) q (λ none. absurd (none k)) (λ s a t ns may _ later _. elim (turn_ends s a t may) [ inl e ↦ inl e | inr f ↦ inr (later f) ])
    (λ pool n s o ns later _. later (λ e. cc)) (λ pool n x ns later _. later (λ e. cc)) (λ pool x ns later _. later (λ e. cc)) p ms h free

-- nothing comes after such a turn
full_stops : (p q : Phase) (a : Ask) (t : Turn) (ms : List Move) → MayAsk p a → Leads (after_turn p a t) ms q → t ≡ Turn.Full → (ms ≡ []) × (q ≡ ended)
full_stops p q a t ms m h e = nothing_more q ms (subst (λ (s : Phase). Leads s ms q) (let ends : after_turn p a Turn.Full ≡ ended = grind (arith, nat_tests) in ap (after_turn p a) e ∙ ends) h)

pub is_at_end : (p q : Phase) (ms : List Move) → Leads p ms q → WasFull ms → q ≡ ended
is_at_end p q ms = along (λ s ns. WasFull ns → q ≡ ended) q (λ w. absurd w) (λ s a t ns may leads k w. elim w [ inl e ↦ (full_stops s q a t ns may leads e).1 | inr v ↦ k v ]) (λ pool n s o ns k. k) (λ pool n x ns k. k) (λ pool x ns k. k) p ms

pub ends_where_full : (p q : Phase) (ms : List Move) → Leads p ms q → EndsWhereFull ms
ends_where_full p q ms = along (λ s ns. EndsWhereFull ns) q tt (λ s a t ns may leads k. ((λ e. (full_stops s q a t ns may leads e).0), k)) (λ pool n s o ns k. k) (λ pool n x ns k. k) (λ pool x ns k. k) p ms

-- # How many turns the roles took.

-- how many turns that pass the test may come after a role's
abbrev left_after : (Ask → Bool) → Role → ℕ
left_after test (Role.Launcher pool) = cond (test (Ask.Act (Role.Janitor pool))) 16 0 + 0
left_after test r = 0

-- the same with its own turns, of which it may take this many more
abbrev left_to : (Ask → Bool) → Role → ℕ → ℕ
left_to test r n = cond (test (Ask.Act r)) n 0 + left_after test r

-- how many may come from a phase on
abbrev left : (Ask → Bool) → Phase → ℕ
left test (acts r n) = left_to test r (suc n)
left test (owes_launch pool n s) = left_to test (Role.Launcher pool) n
left test (owes_report pool n s o) = left_to test (Role.Launcher pool) n
left test (looks pool n) = left_to test (Role.Janitor pool) (suc n)
left test (owes_due pool n x) = left_to test (Role.Janitor pool) (suc n)
left test _ = 0

taken_on : (d n m k : ℕ) (W V : Type 0) → d + n ≡ k → (m ≡ n) ⊎ W → (d + m ≡ k) ⊎ (V ⊎ W)
taken_on d n m k W V x1 x2 = grind (arith, nat_tests)

-- a test of what roles do, which no report, look or sweep passes
module _ (test : Ask → Bool) (no_report : (e : Event) → test (Ask.Do e) ≡ false) (no_look : (pool : PoolId) → test (Ask.Due pool) ≡ false) (no_sweep : (pool : PoolId) (node : NodeId) (x : ℕ) → test (Ask.Sweep pool node x) ≡ false) where
  -- a turn takes one of those that are left, or finds the role idle, or the journal full
  abbrev Leaves : Phase → Ask → Turn → Phase → Type 0
  Leaves p a t s = (cond (test a && is_did t) 1 0 + left test s ≡ left test p) ⊎ (((test a ≡ true) × (is_idle t ≡ true)) ⊎ (s ≡ ended))

  turn_leaves : (p : Phase) (a : Ask) (t : Turn) → MayAsk p a → Leaves p a t (after_turn p a t)
  turn_leaves p a t x1 = grind (arith, nat_tests, no_report, no_look, no_sweep)

  taken_turn : (p s q : Phase) (a : Ask) (t : Turn) (ms : List Move) → Leaves p a t s → Leads s ms q → (q ≡ ended → ⊥) → (did_count test ms ≡ left test s) ⊎ WasIdle test ms → (did_count test (asked a t ∷ ms) ≡ left test p) ⊎ WasIdle test (asked a t ∷ ms)
  taken_turn p s q a t ms (inl e) h free i = taken_on (cond (test a && is_did t) 1 0) (left test s) (did_count test ms) (left test p) (WasIdle test ms) ((test a ≡ true) × (is_idle t ≡ true)) e i
  taken_turn p s q a t ms (inr (inl k)) h free i = inr (inl k)
  taken_turn p s q a t ms (inr (inr f)) h free i = absurd (free (nothing_more q ms (subst (λ (u : Phase). Leads u ms q) f h)).1)

  turns_taken : (p q : Phase) (ms : List Move) → Leads p ms q → left test q ≡ 0 → (q ≡ ended → ⊥) → (did_count test ms ≡ left test p) ⊎ WasIdle test ms
  turns_taken p q ms h z free = along (λ s ns. (did_count test ns ≡ left test s) ⊎ WasIdle test ns) q (inl (sym z)) (λ s a t ns may leads k. taken_turn s (after_turn s a t) q a t ns (turn_leaves s a t may) leads free k)
      (λ pool n s o ns k. k) (λ pool n x ns k. k) (λ pool x ns k. k) p ms h

-- none is left where the role is done
none_left : (q : Phase) → (IsPastLauncher q → left is_launcher_act q ≡ 0) × (IsPastJanitor q → left is_janitor_act q ≡ 0)
none_left q = ((λ past. grind (arith, nat_tests)), (λ past. grind (arith, nat_tests)))

pub launcher_took : (pool : PoolId) (q : Phase) (ms : List Move) → Leads (first_phase (of_pool pool)) ms q → IsPastLauncher q → TookAll is_launcher_act ms
launcher_took pool q ms h past = turns_taken is_launcher_act (λ e. refl) (λ a. refl) (λ a n x. refl) (first_phase (of_pool pool)) q ms h ((none_left q).0 past) (λ e. subst IsPastLauncher e past)

pub janitor_took : (pool : PoolId) (q : Phase) (ms : List Move) → Leads (first_phase (of_pool pool)) ms q → IsPastJanitor q → TookAll is_janitor_act ms
janitor_took pool q ms h past = turns_taken is_janitor_act (λ e. refl) (λ a. refl) (λ a n x. refl) (first_phase (of_pool pool)) q ms h ((none_left q).1 past) (λ e. subst IsPastJanitor e past)

lone_took : (p : Phase) (ms : List Move) → Leads p ms rests → left is_lone_act p ≡ 16 → TookAll is_lone_act ms
lone_took p ms h k = subst (λ (n : ℕ). (did_count is_lone_act ms ≡ n) ⊎ WasIdle is_lone_act ms) k (turns_taken is_lone_act (λ e. refl) (λ a. refl) (λ a n x. refl) p rests ms h refl (λ e. cc))

pub requester_took : (r : RequesterId) (ms : List Move) → Leads (first_phase (of_requester r)) ms rests → TookAll is_lone_act ms
requester_took r ms h = lone_took (first_phase (of_requester r)) ms h refl

pub reaper_took : (ms : List Move) → Leads (first_phase of_reaper) ms rests → TookAll is_lone_act ms
reaper_took ms h = lone_took (first_phase of_reaper) ms h refl

-- # Which asks a worker makes.

module _ (w : Work) where
  pub work_acting : (r : Role) (n : ℕ) → player r ≡ w → IsOfWork w (acting r n)
  work_acting r n x1 = grind (arith, nat_tests)

  ask_on : (p : Phase) (a : Ask) → MayAsk p a → IsOfWork w p → IsAskOf w a
  ask_on p a x1 x2 = grind (arith, nat_tests)

  -- a turn of the worker leads to a phase of the worker
  pub work_after : (p : Phase) (a : Ask) (t : Turn) → MayAsk p a → IsOfWork w p → IsOfWork w (after_turn p a t)
  work_after p a t x1 x2 = grind (arith, nat_tests)

  asks_from : (p q : Phase) (ms : List Move) → IsOfWork w p → Leads p ms q → AreAsksOf w ms
  asks_from p q ms h l = along (λ s ns. IsOfWork w s → AreAsksOf w ns) q (λ k. tt) (λ s a t ns may _ later k. (ask_on s a may k, later (work_after s a t may k))) (λ pool n s o ns k. k) (λ pool n x ns k. k) (λ pool x ns k. k) p ms l h

pub asks_of : (w : Work) (q : Phase) (ms : List Move) → Leads (first_phase w) ms q → AreAsksOf w ms
asks_of w q ms l = asks_from w (first_phase w) q ms (grind (arith, nat_tests)) l

-- # The stages of a round, and the series of turns that leads from one to another.

-- ## what is asked

pub may_ask : (s : Stage) (a : Ask) → ask_of s ≡ Some a → MayAsk (phase_of s) a
may_ask s a x1 = grind (arith, nat_tests)

pub asks_no_server : (s : Stage) (a : Ask) → ask_of s ≡ Some a → (servers : List Server) → IsOfServer a servers
asks_no_server s a x1 servers = grind (arith, nat_tests)

-- ## how many steps are left

-- a turn uses up a step
pub steps_after : (s : Stage) (a : Ask) (t : Turn) → ask_of s ≡ Some a → steps_left (after_turn (phase_of s) a t) < steps_left (phase_of s)
steps_after s a t x1 = grind (arith, nat_tests)

-- ## where rounds end

-- a role that only acts has taken its turns after 16 of them
pub lone_rests : (r : Role) (s : Stage) → IsLone (player r) → IsOfWork (player r) (phase_of s) → WentFar (acting r 16) s → (s ≡ Stage.Ended → ⊥) → phase_of s ≡ rests
lone_rests r s x1 x2 x3 x4 = grind (arith, nat_tests)

-- a pool's roles were played
pub pool_swept : (pool : PoolId) (p : Phase) → IsPlayed p → IsOfWork (of_pool pool) p → p ≡ sweeps pool
pool_swept pool p x1 x2 = grind (arith, nat_tests)
