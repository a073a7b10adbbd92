-- what comes with one ticket of the turns of a series, and what the series hears of it
use Rattle.std.specs.Prelude.{◌≡◌, ℕ, ◌-◌, ◌==◌, Option, Some, None, if◌then◌else◌, List, ◌<◌, length, find, option_and_then, slice_get}
use Rattle.np_board.specs.declared.batch.Batch.{Batch}
use Rattle.np_board.specs.declared.batch.Stage.{Stage}
use Rattle.np_board.specs.declared.once.Once.{Once}
use Rattle.np_board.specs.declared.board.plan.PlanAsk.{PlanAsk}
use Rattle.np_board.specs.declared.board.plan.PlanTurn.{PlanTurn}
use Rattle.np_board.specs.Outstanding.{Outstanding, Planning, plan_of}
use Rattle.np_board.specs.PlanTaken.{IsBarred}
use Rattle.np_board.specs.declared.board.Test.{Test}
use Rattle.np_board.specs.declared.board.commit.StaleSpot.{StaleSpot}
use Rattle.np_board.specs.Lower.{AreFreshPaths, Ask, Configuration, Entry, Event, IsFirstStale, IsFull, IsReplied, Launcher, PoolId, Role, Spot, TreeState, Turn, WasUseful, answers, is_fired, recorded}

-- what the pool's launcher asks for its next turn, unless its plan is for the next ticket
abbrev pub launcher_ask : Stage → PoolId → Option PlanAsk
launcher_ask Stage.Committing p = Some (PlanAsk.Commit p)
launcher_ask Stage.Hearing p = Some (PlanAsk.News p)
launcher_ask Stage.Planning p = Some (PlanAsk.Peek p)
launcher_ask Stage.Asking p = Some (PlanAsk.Plain (Ask.Act (Role.Launcher p)))
launcher_ask (Stage.PlanningNext q) p = None
launcher_ask Stage.Planned p = None

-- the same for any turn: others ask without a plan
abbrev pub turn_ask : Stage → Ask → Option PlanAsk
turn_ask s (Ask.Act (Role.Launcher p)) = launcher_ask s p
turn_ask s (Ask.Act (Role.Janitor p)) = Some (PlanAsk.Plain (Ask.Act (Role.Janitor p)))
turn_ask s (Ask.Act (Role.Requester q)) = Some (PlanAsk.Plain (Ask.Act (Role.Requester q)))
turn_ask s (Ask.Act Role.Reaper) = Some (PlanAsk.Plain (Ask.Act Role.Reaper))
turn_ask s (Ask.Do e) = Some (PlanAsk.Plain (Ask.Do e))
turn_ask s (Ask.Due p) = Some (PlanAsk.Plain (Ask.Due p))
turn_ask s (Ask.Sweep p n x) = Some (PlanAsk.Plain (Ask.Sweep p n x))

-- what is asked next, if the series asks this and so many more turns may be taken
abbrev pub next_ask : Stage → ℕ → Option Ask → Option PlanAsk
next_ask (Stage.PlanningNext p) left a = Some (PlanAsk.Peek p)
next_ask s left None = None
next_ask s left (Some a) = if left == 0 then None else turn_ask s a

-- the stage after an answer that is no turn of the series
abbrev pub after : Stage → PlanTurn → Stage
after Stage.Committing (PlanTurn.Stale spot change) = Stage.Hearing
after Stage.Committing PlanTurn.Full = Stage.Asking
after Stage.Committing _ = Stage.Planning
after Stage.Hearing t = Stage.Planning
after Stage.Planning PlanTurn.Idle = Stage.Asking
after Stage.Planning _ = Stage.Planned
after (Stage.PlanningNext p) PlanTurn.Idle = Stage.Asking
after (Stage.PlanningNext p) _ = Stage.Planned
after Stage.Asking t = Stage.Planned
after Stage.Planned t = Stage.Planned

-- the stage after a turn without a plan
abbrev pub after_plain : Stage → Stage
after_plain Stage.Asking = Stage.Planning
after_plain s = s

-- the stage after a commit, if the series had asked this
abbrev pub after_commit : Option Ask → Stage
after_commit (Some (Ask.Act (Role.Launcher p))) = Stage.PlanningNext p
after_commit _ = Stage.Planned

abbrev pub asks_with_ticket : {S : Type 0} → (S → Option Ask) → Batch S → Option PlanAsk
asks_with_ticket asks_of b = next_ask b.stage b.left (asks_of b.series)

module _ {S : Type 0} (asks_of : S → Option Ask) (hears : S → Turn → S → Type 0) where
  -- the series heard a turn of its own, and what comes next is of this stage
  abbrev pub HeardTurn : Batch S → Turn → Stage → Batch S → Type 0
  HeardTurn b t s d = hears b.series t d.series × (d.left ≡ b.left - 1) × (d.stage ≡ s)

  abbrev pub HearsWithTicket : Batch S → PlanTurn → Batch S → Type 0
  HearsWithTicket b (PlanTurn.Plain t) d = HeardTurn b t (after_plain b.stage) d
  HearsWithTicket b (PlanTurn.Did e) d = HeardTurn b (Turn.Did e) (after_commit (asks_of b.series)) d
  HearsWithTicket b (PlanTurn.Planned plan) d = d ≡ record b { stage = after b.stage (PlanTurn.Planned plan) }
  HearsWithTicket b (PlanTurn.Fired spot) d = d ≡ record b { stage = after b.stage (PlanTurn.Fired spot) }
  HearsWithTicket b (PlanTurn.Stale spot change) d = d ≡ record b { stage = after b.stage (PlanTurn.Stale spot change) }
  HearsWithTicket b PlanTurn.Idle d = d ≡ record b { stage = after b.stage PlanTurn.Idle }
  HearsWithTicket b PlanTurn.Full d = d ≡ record b { stage = after b.stage PlanTurn.Full }

-- ## a series of one turn

-- the ask, until its answer was heard
abbrev pub unless_heard : Ask → Option Turn → Option Ask
unless_heard a None = Some a
unless_heard a (Some t) = None

abbrev pub asks_once : Once → Option Ask
asks_once s = unless_heard s.ask s.turn

abbrev pub hears_once : Once → Turn → Once → Type 0
hears_once s t r = r ≡ record s { turn = Some t }

-- which answers an ask may have at a board, after a journal

abbrev pub answers_plain : Configuration → List Entry → Ask → PlanTurn → Type 0
answers_plain c journal plain (PlanTurn.Plain t) = answers c journal plain t
answers_plain c journal plain (PlanTurn.Planned plan) = ⊥
answers_plain c journal plain (PlanTurn.Fired spot) = ⊥
answers_plain c journal plain (PlanTurn.Did e) = ⊥
answers_plain c journal plain (PlanTurn.Stale spot change) = ⊥
answers_plain c journal plain PlanTurn.Idle = ⊥
answers_plain c journal plain PlanTurn.Full = ⊥

abbrev pub answers_peek : PlanTurn → Type 0
answers_peek (PlanTurn.Plain t) = ⊥
answers_peek (PlanTurn.Planned plan) = Unit {0}
answers_peek (PlanTurn.Fired spot) = ⊥
answers_peek (PlanTurn.Did e) = ⊥
answers_peek (PlanTurn.Stale spot change) = ⊥
answers_peek PlanTurn.Idle = Unit {0}
answers_peek PlanTurn.Full = ⊥

abbrev pub answers_news : PlanTurn → Type 0
answers_news (PlanTurn.Plain t) = ⊥
answers_news (PlanTurn.Planned plan) = ⊥
answers_news (PlanTurn.Fired spot) = Unit {0}
answers_news (PlanTurn.Did e) = ⊥
answers_news (PlanTurn.Stale spot change) = ⊥
answers_news PlanTurn.Idle = Unit {0}
answers_news PlanTurn.Full = ⊥

-- an event of the pool's launcher was recorded that was useful before and is accepted now (own)
abbrev pub answers_commit : Configuration → List Entry → PoolId → PlanTurn → Type 0
answers_commit c journal p (PlanTurn.Plain t) = ⊥
answers_commit c journal p (PlanTurn.Planned plan) = ⊥
answers_commit c journal p (PlanTurn.Fired spot) = ⊥
answers_commit c journal p (PlanTurn.Did e) = WasUseful c journal (Launcher p) e.event × IsReplied c journal e
answers_commit c journal p (PlanTurn.Stale spot change) = Unit {0}
answers_commit c journal p PlanTurn.Idle = Unit {0}
answers_commit c journal p PlanTurn.Full = IsFull journal

abbrev pub plan_answers : Configuration → List Entry → PlanAsk → PlanTurn → Type 0
plan_answers c journal (PlanAsk.Plain plain) t = answers_plain c journal plain t
plan_answers c journal (PlanAsk.Peek p) t = answers_peek t
plan_answers c journal (PlanAsk.News p) t = answers_news t
plan_answers c journal (PlanAsk.Commit p) t = answers_commit c journal p t

-- what a plain turn recorded, as np_worker says, or the entry of a commit
abbrev pub plan_recorded : PlanAsk → PlanTurn → Option Entry
plan_recorded (PlanAsk.Plain plain) (PlanTurn.Plain t) = recorded plain t
plan_recorded (PlanAsk.Commit p) (PlanTurn.Did e) = Some e
plan_recorded _ _ = None

-- what is tested of an outstanding plan

-- the first spot that isn't fresh, with its last change, which is later
pub record IsStaleSpot (t : TreeState) (x : Outstanding) (stale : StaleSpot) : Type 0 where
  pub place : ℕ
  pub first : IsFirstStale t x.plan.at x.paths (record { place = place; change = stale.change })
  pub of : slice_get x.plan.spots place ≡ Some stale.spot
  pub late : x.plan.at < stale.change

-- the spot of the first watch that fires
abbrev pub fired_spot : TreeState → Outstanding → Option Spot
fired_spot t x = option_and_then (λ w. slice_get x.plan.spots w.key) (find (is_fired t) x.watches)

-- what is told of it
abbrev pub told_by : Option Spot → PlanTurn
told_by None = PlanTurn.Idle
told_by (Some spot) = PlanTurn.Fired spot

-- ## a commit

-- a plan of the pool has this event, its spots are fresh, and there is room
pub record IsMayDo (m : Planning) (p : PoolId) (e : Event) : Type 0 where
  pub plan : Outstanding
  pub there : plan_of p m.plans ≡ Some plan
  pub room : length m.journal < 262144
  pub fresh : AreFreshPaths plan.plan.at m.tree plan.paths
  pub event : plan.plan.event ≡ e

-- a spot of the pool's plan isn't fresh, and there is room
pub record IsMayNot (m : Planning) (p : PoolId) (spot : Spot) (change : ℕ) : Type 0 where
  pub plan : Outstanding
  pub there : plan_of p m.plans ≡ Some plan
  pub room : length m.journal < 262144
  pub stale : IsStaleSpot m.tree plan (record { spot = spot; change = change })

-- what a commit would do
abbrev pub IsTested : Planning → PoolId → Test → Type 0
IsTested m p Test.Idle = plan_of p m.plans ≡ None
IsTested m p Test.Full = IsBarred m p
IsTested m p (Test.Stale spot change) = IsMayNot m p spot change
IsTested m p (Test.MayDo e) = IsMayDo m p e
