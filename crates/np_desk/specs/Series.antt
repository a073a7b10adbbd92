-- what a turn answers and leaves, and the turns of a series
use Rattle.std.specs.Prelude.{◌≡◌, List, [], ◌∷◌, ◌++◌, length, Option, MatchOption, Some, None, Result, Ok, Err, ◌⊎◌, ℕ, ◌≤◌, drop, IfOk, MatchResult}
use Rattle.np_desk.specs.Rule.{StartsWith, places}
use Rattle.np_desk.specs.Step.{Sight}
use Rattle.np_text.specs.declared.memory.NoMemory.{NoMemory}

-- What a turn answers, and what it leaves.

-- the entries of a turn: one, or none
abbrev pub entries_of : {E : Type 0} → Option E → List E
entries_of None = []
entries_of (Some e) = e ∷ []

-- After the history `before` the turn recorded this. An entry is then the last of what is seen, and
-- its place is one's own
abbrev pub Records : {E : Type 0} → Option E → List E → Sight E → Sight E → Type 0
Records entry before v w = MatchOption entry
    ((w.seen ≡ before) × (w.mine ≡ v.mine))
    (λ e. (w.seen ≡ before ++ e ∷ []) × (w.mine ≡ v.mine ++ length before ∷ []))

-- nothing of one's own was added
abbrev pub Unturned : {E : Type 0} → Sight E → Sight E → Type 0
Unturned v w = StartsWith w.seen v.seen × (w.mine ≡ v.mine)

module _ {F E A T : Type 0} (answers : F → List E → A → T → Type 0)
    (recorded : A → T → Option E) where
  -- the turn is the object's answer to the ask after a history that begins with all that was seen
  abbrev pub Answered : F → Sight E → A → T → Sight E → Type 0
  Answered f v ask turn w = (before : List E) × StartsWith before v.seen
      × answers f before ask turn × Records (recorded ask turn) before v w

  -- the same after nothing but what was seen
  abbrev pub AnsweredAtOnce : F → Sight E → A → T → Sight E → Type 0
  AnsweredAtOnce f v ask turn w = answers f v.seen ask turn × Records (recorded ask turn) v.seen v w

  -- what a call of `turn` did
  abbrev pub Turned : F → Sight E → A → Result T NoMemory → Sight E → Type 0
  Turned f v ask (Ok turn) w = Answered f v ask turn w
  Turned f v ask (Err _) w = Unturned v w

-- The turns of a series: what was asked and answered in each, and what they saw and made.

-- an ask, and the turn that answered it
pub record Asked (A T : Type 0) : Type 0 where
  pub ask : A
  pub turn : T

-- what is seen and one's own, after a history has grown by entries of one's own
abbrev pub grown : {E : Type 0} → List ℕ → List E → List E → Sight E
grown mine before after = record {
  seen = after;
  mine = mine ++ places (length before) (drop (length before) after);
}

module _ {E A T : Type 0} (step : Sight E → A → T → Sight E → Type 0) where
  -- each turn is a step from what was seen after the one before it
  abbrev pub Walk : Sight E → List (Asked A T) → Sight E → Type 0
  Walk v [] w = v ≡ w
  Walk v (x ∷ xs) w = (u : Sight E) × step v x.ask x.turn u × Walk u xs w

module _ {F E A T : Type 0} (answers : F → List E → A → T → Type 0)
    (recorded : A → T → Option E) where
  -- each turn is answered after the one before it
  abbrev pub Walked : F → Sight E → List (Asked A T) → Sight E → Type 0
  Walked f v xs w = Walk (Answered answers recorded f) v xs w

module _ {S A T : Type 0} (asks : S → Option A) (hears : S → T → S → Type 0) where
  -- the series asked these one after another, and heard the answers
  abbrev pub Heard : S → List (Asked A T) → S → Type 0
  Heard p [] q = p ≡ q
  Heard p (x ∷ xs) q = (asks p ≡ Some x.ask) × (r : S) × hears p x.turn r × Heard r xs q

-- the series is over, or as many turns were taken as may be
abbrev pub IsOver : {S A T : Type 0} → (S → Option A) → ℕ → List (Asked A T) → S → Type 0
IsOver asks most turns q = (asks q ≡ None) ⊎ (length turns ≡ most)

module _ {F E A T S : Type 0} (answers : F → List E → A → T → Type 0)
    (recorded : A → T → Option E) (asks : S → Option A) (hears : S → T → S → Type 0) where
  -- What a call of `turns` did: there are these turns, at most so many, which the series asked for.
  -- More may have been seen before the first of them; nothing is seen after the last, unless memory
  -- ran out
  pub record Took {R : Type 0} (f : F) (v : Sight E) (p : S) (most : ℕ) (result : Result R NoMemory)
      (w : Sight E) (q : S) : Type 0 where
    pub turns : List (Asked A T)
    pub first : Sight E
    pub last : Sight E
    pub saw : Unturned v first
    pub walked : Walked answers recorded f first turns last
    pub heard : Heard asks hears p turns q
    pub few : length turns ≤ most
    pub over : MatchResult result
        (λ _. (w ≡ last) × IsOver asks most turns q) (λ _. Unturned last w)

  -- The same of turns with one ticket, or alone: nothing else is seen between the first and the last
  -- of them, nor after it
  pub record TookAtOnce {R : Type 0} (f : F) (v : Sight E) (p : S) (most : ℕ) (result : Result R NoMemory)
      (w : Sight E) (q : S) : Type 0 where
    pub turns : List (Asked A T)
    pub first : Sight E
    pub saw : Unturned v first
    pub walked : Walk (AnsweredAtOnce answers recorded f) first turns w
    pub heard : Heard asks hears p turns q
    pub few : length turns ≤ most
    pub over : IfOk result (λ _. IsOver asks most turns q)
