-- histories, what the rule counts, and the rule of the desk, which holds between any two steps
use Rattle.std.specs.Prelude.{◌≡◌, ℕ, ◌<◌, ◌≤◌, List, [], ◌∷◌, ◌++◌, length, drop, suc, cond, nat_lt, ◌+◌, ◌-◌, ◌^◌, ◌==◌, Bool, ◌⊎◌, true, IfSome}
use mathlib.Core.Option.{Option, some}
use lib.ListN.{get_elem?}
use Rattle.atomic_table.specs.Table.{State}
use Rattle.np_desk.specs.declared.view.Origin.{Origin}
use Rattle.np_desk.specs.declared.view.SeatView.{SeatView}
use Rattle.np_desk.specs.declared.view.Stage.{Stage}
use Rattle.np_desk.specs.declared.view.Stage.TheVariants.{Idle, Waits, Has}

-- Histories, which only grow, and the places of entries in them.

-- the history begins with what was seen
abbrev pub StartsWith : {E : Type 0} → List E → List E → Type 0
StartsWith {E} history seen = (rest : List E) × (history ≡ seen ++ rest)

-- the places of these entries, the first of which is at n
abbrev pub places : {E : Type 0} → ℕ → List E → List ℕ
places n [] = []
places n (e ∷ es) = n ∷ places (suc n) es

-- the places of what was added to a history
abbrev pub added : {E : Type 0} → List E → List E → List ℕ
added first history = places (length first) (drop (length first) history)

-- the places rise, so none occurs twice; they are at least `from`, and below `end`
abbrev pub AreRising : ℕ → List ℕ → ℕ → Type 0
AreRising from [] end = Unit {0}
AreRising from (x ∷ xs) end = (from ≤ x) × (x < end) × AreRising (suc x) xs end

-- one place more, before the first that is greater
abbrev pub with_place : ℕ → List ℕ → List ℕ
with_place x [] = x ∷ []
with_place x (y ∷ ys) = cond (nat_lt x y) (x ∷ y ∷ ys) (y ∷ with_place x ys)

-- the places of both
abbrev pub merged : List ℕ → List ℕ → List ℕ
merged xs [] = xs
merged xs (y ∷ ys) = merged (with_place y xs) ys

-- What the rule counts: how many times a place is held, and how much of the whole a part is.

abbrev pub total : {A : Type 0} → (A → ℕ) → List A → ℕ
total f [] = 0
total f (x ∷ xs) = f x + total f xs

-- how many times x is in the list
abbrev pub times : ℕ → List ℕ → ℕ
times x [] = 0
times x (y ∷ ys) = cond (x == y) 1 0 + times x ys

-- the share of a word, if the whole is 2 ^ depth
abbrev pub share : ℕ → List Bool → ℕ
share depth word = 2 ^ (depth - length word)

abbrev pub AreShort : ℕ → List (List Bool) → Type 0
AreShort depth [] = Unit {0}
AreShort depth (w ∷ ws) = (length w ≤ depth) × AreShort depth ws

-- The desk's rule, which holds between any two steps on its table.
--
-- Word 0 is the next ticket, word 1 the ticket that is served, and the one slot holds the object. The
-- other words are bells, which may have any number.
-- There is one legal history, of which each seat has seen a beginning.
-- Each ticket below the next was drawn by one seat. The object is at home and has that history, or
-- it is out with the one seat that drew the ticket that is served.
-- Each place that was added since the set-up belongs to one seat, once. The parts of the seats are
-- one whole, and a seat with no part has no place and no ticket: while one pass is whole, nobody
-- else has the object.

-- what a seat's stage says: of the next ticket, of the one that is served, of who drew each, and of
-- the history
abbrev pub Stands : {E : Type 0} → ℕ → ℕ → (ℕ → ℕ) → List E → ℕ → List E → Stage → Type 0
Stands next now drawer log seat seen Idle = Unit {0}
Stands next now drawer log seat seen (Waits t) = (now ≤ t) × (t < next) × (drawer t ≡ seat)
Stands next now drawer log seat seen (Has t) =
    (now ≡ t) × (t < next) × (drawer t ≡ seat) × (seen ≡ log)

module _ {F E : Type 0} where
  abbrev pub Fits : Origin F E → ℕ → ℕ → (ℕ → ℕ) → List E → ℕ → SeatView F E → Type 0
  Fits o next now drawer log seat v = IfSome v.origin (λ g. g ≡ o)
      × StartsWith log v.seen × StartsWith log v.told
      × Stands next now drawer log seat v.seen v.stage

  -- the seat that drew the ticket that is served has the object
  abbrev pub IsOut : ℕ → (ℕ → ℕ) → List (SeatView F E) → Type 0
  IsOut now drawer views =
      (v : SeatView F E) × (get_elem? views (drawer now) ≡ some v) × (v.stage ≡ Has now)

  -- what one seat's part and places are, in a whole of 2 ^ depth
  abbrev pub IsFair : ℕ → List E → SeatView F E → Type 0
  IsFair depth log v = AreShort depth v.part
      × (v.part ≡ [] → (v.mine ≡ []) × (v.stage ≡ Idle)) × AreRising 0 v.mine (length log)

  -- the accounts, of the places from n on
  pub record Shared (n : ℕ) (log : List E) (views : List (SeatView F E)) : Type 0 where
    pub depth : ℕ
    pub long : n ≤ length log
    pub counted : (x : ℕ)
        → total (λ (v : SeatView F E). times x v.mine) views ≡ times x (places n (drop n log))
    pub whole : total (λ (v : SeatView F E). total (share depth) v.part) views ≡ 2 ^ depth
    pub each_part : (j : ℕ) (v : SeatView F E) → get_elem? views j ≡ some v → IsFair depth log v

module _ {M F E : Type 0} (history : M → List E) (fixed : M → F) (legal : F → List E → Bool) where
  -- the object that is at home has this history
  abbrev pub IsHome : F → List E → Option M → Type 0
  IsHome f log home = (x : M) × (home ≡ some x) × (history x ≡ log) × (fixed x ≡ f)

  pub record Kept (o : Origin F E) (s : State M (SeatView F E)) : Type 0 where
    pub log : List E
    pub next : ℕ
    pub now : ℕ
    pub drawer : ℕ → ℕ
    pub home : Option M
    pub bells : List ℕ
    pub words : s.words ≡ next ∷ now ∷ bells
    pub homes : s.homes ≡ home ∷ []
    pub order : now ≤ next
    pub lawful : legal o.fixed log ≡ true
    pub object : IsHome o.fixed log home ⊎ IsOut now drawer s.views
    pub each_seat : (j : ℕ) (v : SeatView F E)
        → get_elem? s.views j ≡ some v → Fits o next now drawer log j v
    pub shared : Shared (length o.history) log s.views
