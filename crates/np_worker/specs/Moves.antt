-- what holds of the moves of every round
use Rattle.std.specs.Prelude.{◌≡◌, List, ◌++◌, map, Option}
use Rattle.np_worker.specs.Prelude.{Driving, Drove, Phase, Sight, Walk, Work, ended, of_pool, rests}
use Rattle.np_worker.specs.declared.ask.Ask.{Ask}
use Rattle.np_worker.specs.declared.ask.Turn.{Turn}
use Rattle.np_worker.specs.Move.{Move, entries_of, launches_of}
use Rattle.np_worker.specs.Trace.{starts_of, owed_tags, AreReported, AreAsksOf, AreInOrder, AreNamed, Gains, TookAll, is_launcher_act, is_janitor_act, is_lone_act, IsPastLauncher, IsPastJanitor, WasFull, EndsWhereFull}
use Rattle.np_worker.specs.Lower.{Entry}

-- a role that the round came past took 16 turns with an entry, or one in which it had nothing to do (own)
abbrev pub RolesTook : Work → List Move → Phase → Type 0
RolesTook (of_pool pool) trace to =
    (IsPastLauncher to → TookAll is_launcher_act trace) × (IsPastJanitor to → TookAll is_janitor_act trace)
RolesTook _ trace to = to ≡ rests → TookAll is_lone_act trace

-- the moves of a worker's round that came to this phase (own)
pub record AreOrderly (work : Work) (trace : List Move) (to : Phase) : Type 0 where
  -- the worker asks what belongs to its roles: first as launcher, then as janitor, then about servers
  pub asks : AreAsksOf work trace
  pub order : AreInOrder 0 trace
  -- each accepted start is launched, in order and with its tag, except one whose launch is owed
  pub launched : starts_of trace ≡ map (λ launch. launch.tag) (launches_of trace) ++ owed_tags to
  -- and then reported, in the next turn and with what became of the launch, unless the moves end
  pub reported : AreReported trace to
  -- each removal comes right after a turn that named its server
  pub removed : AreNamed trace
  pub took : RolesTook work trace to
  -- a turn that found the journal full is the last, and leads to the end
  pub last : EndsWhereFull trace
  pub full : WasFull trace → to ≡ ended

module _ {F : Type 0} (answers : F → List Entry → Ask → Turn → Type 0) (f : F) where
  -- there are such moves, which saw and made this of the history, and did this with the driver (own)
  pub record HasMoves (work : Work) (v w : Sight Entry) (before now : Option Driving) : Type 0 where
    pub trace : List Move
    pub to : Phase
    pub walked : Walk answers f trace v w
    pub gained : Gains v (entries_of trace) w
    pub drove : Drove trace before now
    pub orderly : AreOrderly work trace to
