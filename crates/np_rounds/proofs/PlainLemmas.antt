-- turns without a plan
use Rattle.np_rounds.proofs.Prelude.{Answered, AnsweredAtOnce, Ask, Asked, Configuration, Entry, Heard, HearsPlain, IfOk, IfOk-weaker, IsOver, List, NoMemory, None, Option, PlainSeries, PlanAsk, PlanTurn, Result, Sight, Some, Took, TookAtOnce, Turn, Went, answers, ap, arith, asks_plain, inl, inr, length, plain_ask, plan_answers, plan_recorded, recorded, refl, subst, suc, took-loosely, ℕ, [], ⊎_elim, ◌∙◌, ◌∷◌, ◌≡◌}
use Rattle.np_desk.specs.Series.{Walk}

-- ## one turn

module _ (c : Configuration) where
  only_plain : (journal : List Entry) (a : Ask) (t : PlanTurn) → plan_answers c journal (PlanAsk.Plain a) t → (u : Turn) × (t ≡ PlanTurn.Plain u)
  only_plain journal a (PlanTurn.Plain u) h = (u, refl)
  only_plain journal a other h = absurd h

  -- the answer is one without a plan
  pub plain_turn : (v w : Sight Entry) (a : Ask) (t : PlanTurn) → Answered plan_answers plan_recorded c v (PlanAsk.Plain a) t w → (u : Turn) × (t ≡ PlanTurn.Plain u) × Answered answers recorded c v a u w
  plain_turn v w a t h =
      let plain = only_plain h.0 a t h.2 in
      (plain.0, plain.1, subst (λ (x : PlanTurn). Answered plan_answers plan_recorded c v (PlanAsk.Plain a) x w) plain.1 h)

  -- so there is no other
  pub no_other : (v w : Sight Entry) (a : Ask) (t : PlanTurn) → Answered plan_answers plan_recorded c v (PlanAsk.Plain a) t w → ((u : Turn) → t ≡ PlanTurn.Plain u → ⊥) → ⊥
  no_other v w a t h other = let plain = only_plain h.0 a t h.2 in other plain.0 plain.1

  plain_at_once : (v w : Sight Entry) (a : Ask) (t : PlanTurn) → AnsweredAtOnce plan_answers plan_recorded c v (PlanAsk.Plain a) t w → (u : Turn) × (t ≡ PlanTurn.Plain u) × AnsweredAtOnce answers recorded c v a u w
  plain_at_once v w a t h =
      let plain = only_plain v.seen a t h.0 in
      (plain.0, plain.1, subst (λ (x : PlanTurn). AnsweredAtOnce plan_answers plan_recorded c v (PlanAsk.Plain a) x w) plain.1 h)

-- ## a series

asked_plainly : (o : Option Ask) (a : PlanAsk) → plain_ask o ≡ Some a → (x : Ask) × (o ≡ Some x) × (a ≡ PlanAsk.Plain x)
asked_plainly None a h = absurd cc
asked_plainly (Some x) a h = (x, refl, cc)

asked_nothing : (o : Option Ask) → plain_ask o ≡ None → o ≡ None
asked_nothing o h = grind arith

module _ {S : Type 0} (asks : S → Option Ask) (hears : S → Turn → S → Type 0) (c : Configuration) where
  went_plainly : (v w : Sight Entry) (p q : PlainSeries S) (xs : List (Asked PlanAsk PlanTurn)) → Walk (AnsweredAtOnce plan_answers plan_recorded c) v xs w → Heard (asks_plain asks) (HearsPlain hears) p xs q
      → Went (AnsweredAtOnce answers recorded c) asks hears v p.series (length xs) w q.series
  went_plainly v w p q [] h k = record { turns = []; walked = h; heard = ap (λ (s : PlainSeries S). s.series) k; count = refl }
  went_plainly v w p q (x ∷ xs) h k =
      let r : PlainSeries S = k.1 in
      let a = asked_plainly (asks p.series) x.ask k.0 in
      let one = plain_at_once c v h.0 a.0 x.turn (subst (λ (z : PlanAsk). AnsweredAtOnce plan_answers plan_recorded c v z x.turn h.0) a.2 h.1) in
      let rest = went_plainly h.0 w r q xs h.2 k.3 in
      let asked : Asked Ask Turn = record { ask = a.0; turn = one.0 } in record {
        turns = asked ∷ rest.turns;
        walked = (h.0, one.2, rest.walked);
        heard = (a.1, r.series, subst (λ (z : PlanTurn). HearsPlain hears p z r) one.1 k.2, rest.heard);
        count = ap suc rest.count;
      }

  over_plainly : {R : Type 0} (result : Result R NoMemory) (most : ℕ) (q : PlainSeries S) (xs : List (Asked PlanAsk PlanTurn)) (ys : List (Asked Ask Turn)) → length ys ≡ length xs
      → IfOk result (λ _. IsOver (asks_plain asks) most xs q) → IfOk result (λ _. IsOver asks most ys q.series)
  over_plainly result most q xs ys same h = IfOk-weaker result _ _ (λ y. ⊎_elim
      (λ (none : asks_plain asks q ≡ None). inl (asked_nothing (asks q.series) none))
      (λ (all : length xs ≡ most). inr (same ∙ all))) h

  -- the turns of such a series are turns of the series in it
  pub took_plainly : {R : Type 0} (v w : Sight Entry) (p q : PlainSeries S) (most : ℕ) (result : Result R NoMemory) → TookAtOnce plan_answers plan_recorded (asks_plain asks) (HearsPlain hears) c v p most result w q
      → Took answers recorded asks hears c v p.series most result w q.series
  took_plainly v w p q most result h =
      let went = went_plainly h.first w p q h.turns h.walked h.heard in
      took-loosely answers recorded asks hears c v p.series most result w q.series (record {
        turns = went.turns;
        first = h.first;
        saw = h.saw;
        walked = went.walked;
        heard = went.heard;
        few = omega (arith, went.count, h.few);
        over = over_plainly result most q h.turns went.turns went.count h.over;
      })
