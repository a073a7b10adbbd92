-- what contracts see of a desk and of a pass, and what a seat learns from each kind of step
use Rattle.std.specs.Prelude.{◌≡◌, ℕ, List, Bool, Option, Some, ◌≢◌, ◌<◌, [], ◌∷◌, ◌++◌, length, drop, true, None, IfSome}
use Rattle.atomic_table.specs.Seated.{TableId}
use Rattle.np_desk.specs.Rule.{places, added, StartsWith, merged, AreRising}
use Rattle.np_desk.specs.Part.{IsWhole, first_half, second_half, joined}
use Rattle.np_desk.specs.declared.view.Origin.{Origin}
use Rattle.atomic_table.specs.Table.{Me, Step}
use Rattle.np_desk.specs.declared.view.SeatView.{SeatView}
use Rattle.np_desk.specs.declared.view.Stage.{Stage}
use Rattle.np_desk.specs.declared.view.Stage.TheVariants.{Idle, Waits, Has}
use Rattle.std.specs.Prelude as std

-- What contracts see of a desk and of a pass.

-- what the object is when the desk is set up
abbrev pub origin_of : {M F E : Type 0} → (M → F) → (M → List E) → M → Origin F E
origin_of fixed history object = record { fixed = fixed object; history = history object }

-- Which table it is, and what the object was when the desk was set up
pub record DeskView (F E : Type 0) : Type 0 where
  pub table : TableId
  pub origin : Origin F E

-- The table and the origin are those of its desk
pub record PassView (F E : Type 0) : Type 0 where
  pub table : TableId
  pub origin : Option (Origin F E)
  pub seen : List E
  pub mine : List ℕ
  pub part : List (List Bool)

-- what has been seen of a history, and the places in it that are one's own
pub record Sight (E : Type 0) : Type 0 where
  pub seen : List E
  pub mine : List ℕ

-- a desk, and a part of the right to take turns at it
pub record Place (F E : Type 0) : Type 0 where
  pub desk : DeskView F E
  pub part : List (List Bool)

-- a history that was seen whole, of which every place is one's own
abbrev pub whole_sight : {E : Type 0} → List E → Sight E
whole_sight history = record { seen = history; mine = places 0 history }

module _ {F E : Type 0} where
  abbrev pub sight_of : PassView F E → Sight E
  sight_of p = record { seen = p.seen; mine = p.mine }

  -- the pass came from this desk
  abbrev pub IsOf : PassView F E → DeskView F E → Type 0
  IsOf p d = (p.table ≡ d.table) × (p.origin ≡ Some d.origin)

  -- a pass that is whole made every entry that was added since the desk was set up
  abbrev pub IsAllMine : PassView F E → DeskView F E → Type 0
  IsAllMine p d = IsWhole p.part → p.mine ≡ added d.origin.history p.seen

-- What a seat learns from each kind of step on the table, and how views are split and joined.

-- a desk's table has two words for tickets, 64 bells and one slot
abbrev pub IsDesk : TableId → Type 0
IsDesk z = (z.words ≡ 66) × (z.slots ≡ 1)

module _ {F E : Type 0} where
  abbrev pub seat_view : std.Option (Origin F E) → List E → List ℕ → List (List Bool) → List E
      → Stage → SeatView F E
  seat_view o seen mine part told stage = record {
    origin = o;
    seen = seen;
    mine = mine;
    part = part;
    told = told;
    stage = stage;
  }

  abbrev pub pass_view : TableId → SeatView F E → PassView F E
  pass_view z v = record {
    table = z;
    origin = v.origin;
    seen = v.seen;
    mine = v.mine;
    part = v.part;
  }

  abbrev pub desk_view : TableId → Origin F E → DeskView F E
  desk_view z o = record { table = z; origin = o }

  -- the first pass
  abbrev pub first_view : Origin F E → SeatView F E
  first_view o = seat_view (Some o) o.history [] ([] ∷ []) [] Idle

  -- what is left of a pass that was joined to another
  abbrev pub spent : SeatView F E
  spent = seat_view None [] [] [] [] Idle

  abbrev pub at_stage : SeatView F E → Stage → SeatView F E
  at_stage v stage = seat_view v.origin v.seen v.mine v.part v.told stage

  -- the view after a turn that left this history, of which all but the turn's entries had been seen
  abbrev pub after_turn : SeatView F E → List E → SeatView F E
  after_turn v log = seat_view v.origin log
      (v.mine ++ places (length v.seen) (drop (length v.seen) log)) v.part v.told Idle

  abbrev pub left_half : SeatView F E → SeatView F E
  left_half v = seat_view v.origin v.seen v.mine (first_half v.part) v.told v.stage

  abbrev pub right_half : SeatView F E → SeatView F E
  right_half v = seat_view v.origin v.seen [] (second_half v.part) [] Idle

  abbrev pub both_views : SeatView F E → SeatView F E → SeatView F E
  both_views v w = seat_view v.origin v.seen
      (merged v.mine w.mine) (joined v.part w.part) w.seen v.stage

  -- the seat is of this desk, has a part, and is at this stage
  abbrev pub IsAt : Origin F E → Stage → SeatView F E → Type 0
  IsAt o stage v = (v.origin ≡ Some o) × (v.stage ≡ stage) × (0 < length v.part)

  -- the seat has seen more, and its ticket is served
  abbrev pub IsServed : ℕ → SeatView F E → SeatView F E → Type 0
  IsServed t v w =
      (w ≡ seat_view v.origin w.seen v.mine v.part v.told (Has t)) × StartsWith w.seen v.seen

  -- what a pass knows of its places
  abbrev pub KnowsMine : SeatView F E → Type 0
  KnowsMine v = AreRising 0 v.mine (length v.seen)
      × (IsWhole v.part → IfSome v.origin (λ o. v.mine ≡ added o.history v.seen))

module _ {F E : Type 0} (legal : F → List E → Bool) where
  abbrev pub KnowsLegal : SeatView F E → Type 0
  KnowsLegal v = IfSome v.origin (λ o. legal o.fixed v.seen ≡ true)

  -- what always holds of the seat of a pass, and of the slots that it has
  pub record IsPass {M : Type 0} (me : Me M (SeatView F E)) : Type 0 where
    pub idle : me.0.stage ≡ Idle
    pub nothing : me.1 ≡ []
    pub some_part : 0 < length me.0.part
    pub mine : KnowsMine me.0
    pub lawful : KnowsLegal me.0
    pub begins : IfSome me.0.origin (λ o. StartsWith me.0.seen o.history)

module _ {M F E : Type 0} where
  -- if the number that was found is the one expected, the seat drew it as its ticket
  abbrev pub drew : Step M → Me M (SeatView F E) → ℕ → Me M (SeatView F E) → Type 0
  drew st m r n = (r ≡ st.first → n ≡ (at_stage m.0 (Waits r), m.1)) × (r ≢ st.first → n ≡ m)

  -- a bell was rung, of which the seat learns nothing
  abbrev pub rung : Step M → Me M (SeatView F E) → ℕ → Me M (SeatView F E) → Type 0
  rung st m r n = n ≡ m

module _ {M F E : Type 0} (history : M → List E) (fixed : M → F) (legal : F → List E → Bool) where
  abbrev pub IsLawful : F → M → Type 0
  IsLawful f x = (fixed x ≡ f) × (legal f (history x) ≡ true)

  -- only the seat has the object, which is lawful, and the history satisfies this
  abbrev pub HasObject : F → Me M (SeatView F E) → (List E → Type 0) → Type 0
  HasObject f m so = (x : M) × (m.1 ≡ (0, x) ∷ []) × IsLawful f x × so (history x)

  -- the seat took the object, and has seen its history
  abbrev pub Took : Me M (SeatView F E) → ℕ → Me M (SeatView F E) → Type 0
  Took m t n = (x : M)
      × (n ≡ (seat_view m.0.origin (history x) m.0.mine m.0.part m.0.told (Has t), (0, x) ∷ m.1))
      × StartsWith (history x) m.0.seen
      × IfSome m.0.origin (λ o. IsLawful o.fixed x)

  -- if the ticket is served, the object was taken
  abbrev pub looked : Step M → Me M (SeatView F E) → ℕ → Me M (SeatView F E) → Type 0
  looked st m r n = (t : ℕ) → m.0.stage ≡ Waits t → (r ≢ t → n ≡ m) × (r ≡ t → Took m t n)

module _ {M F E : Type 0} (history : M → List E) where
  -- the object was put back, and the next ticket called
  abbrev pub posted : Step M → Me M (SeatView F E) → ℕ → Me M (SeatView F E) → Type 0
  posted st m r n = (x : M) → m.1 ≡ (0, x) ∷ []
      → (n ≡ (after_turn m.0 (history x), [])) × KnowsMine (after_turn m.0 (history x))

module _ {M F E : Type 0} (legal : F → List E → Bool) where
  -- the seat has seen all of the history, which is legal, and begins with what it had seen and was
  -- told of
  abbrev pub learned : Step M → Me M (SeatView F E) → ℕ → Me M (SeatView F E) → Type 0
  learned st m r n = (log : List E)
      × (n ≡ (seat_view m.0.origin log m.0.mine m.0.part [] m.0.stage, m.1))
      × StartsWith log m.0.seen × StartsWith log m.0.told
      × KnowsLegal legal n.0 × KnowsMine n.0
