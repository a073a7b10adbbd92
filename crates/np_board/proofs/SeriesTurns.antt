-- the turns of a series at the desk of a board, taken with one ticket or with several
use Rattle.np_board.proofs.Prelude.{Also, Answered, AnsweredAtOnce, Ask, Asked, Batch, Configuration, DeskView, Entry, Err, Event, HasEnded, Heard, HearsWithTicket, IfOk, Launcher, List, NoMemory, None, Ok, Once, Option, PlanAsk, PlanTurn, PoolId, Records, Result, Role, Sight, Some, Stage, Took, TookAtOnce, TookWithTicket, TookWithTickets, Turn, Turned, Unturned, Walk, Walked, WasUseful, Went, answers, answers_also, ap, arith, asks_once, asks_with_ticket, eqb-false, false, heard-append, hears_once, inl, inr, launchers_before, length, length-append, next_ask, plan_answers, plan_recorded, recorded, refl, starts_on, starts_same, subst, sym, took-part, took-whole, unless_heard, unturned-same, unturned_on, walk-append, ℕ, [], ⊎_elim, ◌++◌, ◌+◌, ◌-◌, ◌==◌, ◌∙◌, ◌∷◌, ◌≡◌, ◌≢◌, ◌⊎◌}

-- # turns at the desk of a board, as those of parties that plan nothing

-- ## turns after others

module _ {F E A T : Type 0} (says : F → List E → A → T → Type 0) (records : A → T → Option E) (f : F) where
  pub records-on : (entry : Option E) (before : List E) (v u w : Sight E) → u.mine ≡ v.mine → Records entry before u w → Records entry before v w
  records-on None before v u w same is = (is.0, is.1 ∙ same)
  records-on (Some e) before v u w same is = (is.0, is.1 ∙ ap (λ (ms : List ℕ). ms ++ length before ∷ []) same)

  -- a turn after others that recorded nothing of one's own
  pub answered-on : (v u w : Sight E) (a : A) (t : T) → Unturned v u → Answered says records f u a t w → Answered says records f v a t w
  answered-on v u w a t saw h = (h.0, starts_on h.0 u.seen v.seen h.1 saw.0, h.2, records-on (records a t) h.0 v u w saw.1 h.3)

-- ## answers without a plan

-- a role may have recorded more
pub also : (c : Configuration) (journal : List Entry) (more : Also) (a : Ask) (t : Turn) → answers c journal a t → answers_also more c journal a t
also c journal more (Ask.Act r) (Turn.Did e) h = (inl h.0, h.1)
also c journal more a t h = h

old-use : (c : Configuration) (journal : List Entry) (r : Role) (e : Event) → launchers_before c journal r e → WasUseful c journal r e
old-use c journal (Role.Launcher p) e h = h
old-use c journal other e h = absurd h

wider : (c : Configuration) (journal : List Entry) (a : Ask) (t : Turn) → answers_also launchers_before c journal a t → answers_also WasUseful c journal a t
wider c journal (Ask.Act r) (Turn.Did e) (inl h, replied) = (inl h, replied)
wider c journal (Ask.Act r) (Turn.Did e) (inr h, replied) = (inr (old-use c journal r e.event h), replied)
wider c journal a t h = h

pub turned-wider : (c : Configuration) (v w : Sight Entry) (a : Ask) (r : Result Turn NoMemory) → Turned (answers_also launchers_before) recorded c v a r w → Turned (answers_also WasUseful) recorded c v a r w
turned-wider c v w a (Ok t) h = (h.0, h.1, wider c h.0 a t h.2, h.3)
turned-wider c v w a (Err e) h = h

-- # the turns of a series that were taken with one ticket

-- what is asked beside plans is asked by the series, which may have another turn
own-plain : (s : Stage) (left : ℕ) (o : Option Ask) (x : Ask) → next_ask s left o ≡ Some (PlanAsk.Plain x) → (o ≡ Some x) × ((left == 0) ≡ false)
own-plain s left o x e = (grind arith, grind arith)

own-commit : (s : Stage) (left : ℕ) (o : Option Ask) (p : PoolId) → next_ask s left o ≡ Some (PlanAsk.Commit p) → (o ≡ Some (Ask.Act (Launcher p))) × ((left == 0) ≡ false)
own-commit s left o p e = (grind arith, grind arith)

one-less : (n m : ℕ) → (n == 0) ≡ false → m ≡ n - 1 → m + 1 ≡ n
one-less n m h k = let some : n ≢ 0 = λ (e : n ≡ 0). eqb-false n 0 h e in omega (arith, some, k)

module _ {S : Type 0} (asks_of : S → Option Ask) (hears : S → Turn → S → Type 0) (c : Configuration) where
  abbrev AtOnce : Sight Entry → PlanAsk → PlanTurn → Sight Entry → Type 0
  AtOnce w a t u = AnsweredAtOnce plan_answers plan_recorded c w a t u

  abbrev Hears : Batch S → PlanTurn → Batch S → Type 0
  Hears b t d = HearsWithTicket asks_of hears b t d

  abbrev OneTurn : Batch S → Batch S → Sight Entry → Sight Entry → Type 0
  OneTurn b d w u = (x : Ask) × (y : Turn) × (asks_of b.series ≡ Some x) × hears b.series y d.series × (d.left + 1 ≡ b.left) × Answered (answers_also launchers_before) recorded c w x y u

  abbrev NoTurn : Batch S → Batch S → Sight Entry → Sight Entry → Type 0
  NoTurn b d w u = (d.series ≡ b.series) × (d.left ≡ b.left) × (u ≡ w)

  no-turn : (b d : Batch S) (s : Stage) (w u : Sight Entry) → d ≡ record b { stage = s } → (u.seen ≡ w.seen) × (u.mine ≡ w.mine) → OneTurn b d w u ⊎ NoTurn b d w u
  no-turn b d s w u h k = inr (ap (λ (z : Batch S). z.series) h, ap (λ (z : Batch S). z.left) h, λ i. record { seen = k.0 i; mine = k.1 i })

  -- the ask is of the series, which may have another turn, if a turn of the series answers it
  abbrev IsOwn : Batch S → PlanAsk → Type 0
  IsOwn b (PlanAsk.Plain x) = (asks_of b.series ≡ Some x) × ((b.left == 0) ≡ false)
  IsOwn b (PlanAsk.Commit p) = (asks_of b.series ≡ Some (Ask.Act (Launcher p))) × ((b.left == 0) ≡ false)
  IsOwn b _ = Unit {0}

  after-ask : (a : PlanAsk) (t : PlanTurn) (b d : Batch S) (w u : Sight Entry) → IsOwn b a → Hears b t d → AtOnce w a t u → OneTurn b d w u ⊎ NoTurn b d w u
  after-ask (PlanAsk.Plain x) (PlanTurn.Plain y) b d w u own h k = inl (x, y, own.0, h.0, one-less b.left d.left own.1 h.1, (w.seen, starts_same w.seen, also c w.seen launchers_before x y k.0, k.1))
  after-ask (PlanAsk.Commit p) (PlanTurn.Did e) b d w u own h k = inl (Ask.Act (Launcher p), Turn.Did e, own.0, h.0, one-less b.left d.left own.1 h.1, (w.seen, starts_same w.seen, (inr k.0.0, k.0.1), k.1))
  after-ask a (PlanTurn.Plain y) b d w u own h k = absurd k.0
  after-ask a (PlanTurn.Did e) b d w u own h k = absurd k.0
  after-ask a t b d w u own h k = no-turn b d _ w u h k.1

  own : (b : Batch S) (s : Stage) (o : Option Ask) (a : PlanAsk) → asks_of b.series ≡ o → next_ask s b.left o ≡ Some a → IsOwn b a
  own b s o (PlanAsk.Plain x) is e = let h = own-plain s b.left o x e in (is ∙ h.0, h.1)
  own b s o (PlanAsk.Commit p) is e = let h = own-commit s b.left o p e in (is ∙ h.0, h.1)
  own b s o a is e = tt

  -- from here on, with nothing else seen between
  abbrev TookFrom : Sight Entry → S → ℕ → Sight Entry → S → ℕ → Type 0
  TookFrom w p left u q rest = (xs : List (Asked Ask Turn)) × Walked (answers_also launchers_before) recorded c w xs u × Heard asks_of hears p xs q × (length xs + rest ≡ left)

  took-from : (w u : Sight Entry) (b d : Batch S) (xs : List (Asked PlanAsk PlanTurn)) → Walk AtOnce w xs u → Heard (asks_with_ticket asks_of) Hears b xs d → TookFrom w b.series b.left u d.series d.left
  took-from w u b d [] k h = ([], k, ap (λ (z : Batch S). z.series) h, omega (arith, ap (λ (z : Batch S). z.left) h))
  took-from w u b d (x ∷ xs) k h = let m : Sight Entry = k.0 in let e : Batch S = h.1 in
      let rest = took-from m u e d xs k.2 h.3 in
      ⊎_elim
      (λ (one : OneTurn b e w m). (record { ask = one.0; turn = one.1 } ∷ rest.0, (m, one.5, rest.1), (one.2, e.series, one.3, rest.2), omega (arith, one.4, rest.3)))
      (λ (none : NoTurn b e w m). subst (λ (p : S). TookFrom w p b.left u d.series d.left) none.0 (subst (λ (n : ℕ). TookFrom w e.series n u d.series d.left) none.1 (subst (λ (v : Sight Entry). TookFrom v e.series e.left u d.series d.left) none.2 rest)))
      (after-ask x.ask x.turn b e w m (own b b.stage (asks_of b.series) x.ask refl h.0) h.2 k.1)

  -- what came of a ticket
  pub after-ticket : {R : Type 0} (v w : Sight Entry) (b d : Batch S) (most : ℕ) (result : Result R NoMemory)
      → TookAtOnce plan_answers plan_recorded (asks_with_ticket asks_of) Hears c v b most result w d → TookWithTicket asks_of hears c v b.series b.left w d.series d.left
  after-ticket v w b d most result h = let t = took-from h.first w b d h.turns h.walked h.heard in record {
    turns = t.0;
    first = h.first;
    saw = h.saw;
    walked = t.1;
    heard = t.2;
    count = t.3;
  }

-- # the turns of a series that were taken with several tickets

module _ {S : Type 0} (asks : S → Option Ask) (hears : S → Turn → S → Type 0) (c : Configuration) where
  abbrev Walks : Sight Entry → List (Asked Ask Turn) → Sight Entry → Type 0
  Walks v xs w = Walked (answers_also launchers_before) recorded c v xs w

  abbrev Steps : Sight Entry → Ask → Turn → Sight Entry → Type 0
  Steps v a t w = Answered (answers_also launchers_before) recorded c v a t w

  -- turns after others that recorded nothing of one's own
  walks-on : (v u w : Sight Entry) (x : Asked Ask Turn) (xs : List (Asked Ask Turn)) → Unturned v u → Walks u (x ∷ xs) w → Walks v (x ∷ xs) w
  walks-on v u w x xs saw h = (h.0, answered-on (answers_also launchers_before) recorded c v u h.0 x.ask x.turn saw h.1, h.2)

  pub no-ticket : (v : Sight Entry) (p : S) (left : ℕ) → TookWithTickets asks hears c v p left v p left
  no-ticket v p left = record {
    turns = [];
    last = v;
    walked = refl;
    heard = refl;
    count = omega (arith);
    after = unturned-same v;
    still = λ _. refl;
  }

  module _ (v w u : Sight Entry) (p q r : S) (most left rest : ℕ) (t : TookWithTickets asks hears c v p most w q left) (goes : HasEnded asks q left → ⊥) where
    with-turns : (first : Sight Entry) (xs : List (Asked Ask Turn)) → Unturned w first → Walks first xs u → Heard asks hears q xs r → length xs + rest ≡ left → TookWithTickets asks hears c v p most u r rest
    with-turns first [] saw h k n = record {
      turns = t.turns;
      last = t.last;
      walked = t.walked;
      heard = subst (λ (z : S). Heard asks hears p t.turns z) k t.heard;
      count = omega (arith, t.count, n);
      after = unturned_on t.last w u t.after (subst (λ (z : Sight Entry). Unturned w z) h saw);
      still = λ ended. absurd (goes (⊎_elim (λ (e : asks r ≡ None). inl (ap asks k ∙ e)) (λ (z : rest ≡ 0). inr (omega (arith, n, z))) ended));
    }
    with-turns first (x ∷ xs) saw h k n = record {
      turns = t.turns ++ x ∷ xs;
      last = u;
      walked = walk-append Steps v t.last u t.turns (x ∷ xs) t.walked (walks-on t.last first u x xs (unturned_on t.last w first t.after saw) h);
      heard = heard-append asks hears p q r t.turns (x ∷ xs) t.heard k;
      count = omega (arith, length-append t.turns (x ∷ xs), t.count, n);
      after = unturned-same u;
      still = λ _. refl;
    }

    one-ticket-more : TookWithTicket asks hears c w q left u r rest → TookWithTickets asks hears c v p most u r rest
    one-ticket-more s = with-turns s.first s.turns s.saw s.walked s.heard s.count

  went : (v w : Sight Entry) (p q : S) (left rest : ℕ) (t : TookWithTickets asks hears c v p left w q rest) → Went Steps asks hears v p (length t.turns) t.last q
  went v w p q left rest t = record { turns = t.turns; walked = t.walked; heard = t.heard; count = refl }

  pub any-tickets : {R : Type 0} (v w : Sight Entry) (p q : S) (most rest : ℕ) (result : Result R NoMemory) → TookWithTickets asks hears c v p most w q rest → IfOk result (λ _. HasEnded asks q rest) → Took (answers_also launchers_before) recorded asks hears c v p most result w q
  any-tickets v w p q most rest (Ok y) t ended = took-whole (answers_also launchers_before) recorded asks hears c v w p q most (length t.turns) y
      (subst (λ (z : Sight Entry). Went Steps asks hears v p (length t.turns) z q) (sym (t.still ended)) (went v w p q most rest t)) (omega (arith, t.count))
      (⊎_elim (λ (e : asks q ≡ None). inl e) (λ (z : rest ≡ 0). inr (omega (arith, t.count, z))) ended)
  any-tickets v w p q most rest (Err y) t ended = took-part (answers_also launchers_before) recorded asks hears c v t.last w p q most (length t.turns) (Err y) y refl (went v w p q most rest t) (omega (arith, t.count)) t.after

module _ {S : Type 0} (asks : S → Option Ask) (hears : S → Turn → S → Type 0) where
  -- one ticket more, of a series that went on
  pub next-ticket : (d e : DeskView Configuration Entry) (v w u : Sight Entry) (p q r : S) (most left rest : ℕ) (a : Ask) → d ≡ e → TookWithTickets asks hears e.origin.fixed v p most w q left → asks q ≡ Some a → left ≢ 0
      → TookWithTicket asks hears d.origin.fixed w q left u r rest → TookWithTickets asks hears e.origin.fixed v p most u r rest
  next-ticket d e v w u p q r most left rest a same t is some s = one-ticket-more asks hears e.origin.fixed v w u p q r most left rest t
      (⊎_elim (λ (none : asks q ≡ None). let never : None ≡ Some a = sym none ∙ is in absurd cc) (λ (zero : left ≡ 0). some zero))
      (subst (λ (x : DeskView Configuration Entry). TookWithTicket asks hears x.origin.fixed w q left u r rest) same s)

-- ## a series of one turn

module _ (c : Configuration) (v w : Sight Entry) (a : Ask) (q : Once) (rest : ℕ) where
  abbrev begun : Once
  begun = record { ask = a; turn = None }

  abbrev pub Once-took : Type 0
  Once-took = TookWithTickets asks_once hears_once c v begun 1 w q rest

  one-heard : (last : Sight Entry) (xs : List (Asked Ask Turn)) → Walks asks_once hears_once c v xs last → Heard asks_once hears_once begun xs q → length xs + rest ≡ 1 → Unturned last w → (HasEnded asks_once q rest → w ≡ last)
      → (t : Turn) → q.turn ≡ Some t → Answered (answers_also launchers_before) recorded c v a t w
  one-heard last [] h k n after still t is = let none : begun.turn ≡ q.turn = ap (λ (z : Once). z.turn) k in absurd cc
  one-heard last (x ∷ []) h k n after still t is =
      let ended : HasEnded asks_once q rest = inr (omega (arith, n)) in
      let asked : Some a ≡ Some x.ask = k.0 in
      let heard : Some x.turn ≡ q.turn = sym (ap (λ (z : Once). z.turn) k.2) ∙ ap (λ (z : Once). z.turn) k.3 in
      let same-ask : x.ask ≡ a = cc in
      let same-turn : x.turn ≡ t = cc in
      subst (λ (z : Sight Entry). Answered (answers_also launchers_before) recorded c v a t z) (h.2 ∙ sym (still ended))
      (subst (λ (y : Turn). Answered (answers_also launchers_before) recorded c v a y h.0) same-turn (subst (λ (b : Ask). Answered (answers_also launchers_before) recorded c v b x.turn h.0) same-ask h.1))
  one-heard last (x ∷ (y ∷ ys)) h k n after still t is = absurd (omega (arith, n))

  none-heard : (last : Sight Entry) (xs : List (Asked Ask Turn)) → Walks asks_once hears_once c v xs last → Heard asks_once hears_once begun xs q → length xs + rest ≡ 1 → Unturned last w
      → q.turn ≡ None → Unturned v w × (rest ≡ 1)
  none-heard last [] h k n after is = (subst (λ (z : Sight Entry). Unturned z w) (sym h) after, omega (arith, n))
  none-heard last (x ∷ []) h k n after is =
      let heard : Some x.turn ≡ q.turn = sym (ap (λ (z : Once). z.turn) k.2) ∙ ap (λ (z : Once). z.turn) k.3 in absurd cc
  none-heard last (x ∷ (y ∷ ys)) h k n after is = absurd (omega (arith, n))

  -- the one turn
  pub once-heard : (t : Turn) → Once-took → q.turn ≡ Some t → Answered (answers_also launchers_before) recorded c v a t w
  once-heard t s is = one-heard s.last s.turns s.walked s.heard s.count s.after s.still t is

  -- there was no turn
  pub never-heard : Once-took → q.turn ≡ None → Unturned v w
  never-heard s is = (none-heard s.last s.turns s.walked s.heard s.count s.after is).0

  -- a series that has ended has heard a turn
  pub has-heard : Once-took → HasEnded asks_once q rest → q.turn ≡ None → ⊥
  has-heard s ended is = ⊎_elim
      (λ (e : asks_once q ≡ None). let unheard : unless_heard q.ask None ≡ None = subst (λ (o : Option Turn). unless_heard q.ask o ≡ None) is e in absurd cc)
      (λ (z : rest ≡ 0). absurd (omega (arith, z, (none-heard s.last s.turns s.walked s.heard s.count s.after is).1)))
      ended

-- ## answers of any role

module _ {S : Type 0} (asks : S → Option Ask) (hears : S → Turn → S → Type 0) (c : Configuration) where
  walks-wider : (v w : Sight Entry) (xs : List (Asked Ask Turn)) → Walked (answers_also launchers_before) recorded c v xs w → Walked (answers_also WasUseful) recorded c v xs w
  walks-wider v w [] h = h
  walks-wider v w (x ∷ xs) h = (h.0, turned-wider c v h.0 x.ask (Ok x.turn) h.1, walks-wider h.0 w xs h.2)

  -- whoever may record what was useful before to a launcher alone, may to any role
  pub took-wider : {R : Type 0} (v w : Sight Entry) (p q : S) (most : ℕ) (result : Result R NoMemory) → Took (answers_also launchers_before) recorded asks hears c v p most result w q → Took (answers_also WasUseful) recorded asks hears c v p most result w q
  took-wider v w p q most result h = record {
    turns = h.turns;
    first = h.first;
    last = h.last;
    saw = h.saw;
    walked = walks-wider h.first h.last h.turns h.walked;
    heard = h.heard;
    few = h.few;
    over = h.over;
  }
