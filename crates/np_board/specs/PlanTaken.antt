-- what a turn at a board leaves, with a plan or without
use Rattle.std.specs.Prelude.{◌≡◌, ◌++◌, ◌<◌, ◌+◌, ℕ, true, ◌∷◌, [], length, Some, None, find, slice_get}
use Rattle.np_board.specs.Outstanding.{IsNewPlan, Outstanding, Planning, plan_of, ran_of, with_plan}
use Rattle.np_board.specs.declared.board.plan.Plan.{Plan}
use Rattle.np_board.specs.declared.board.plan.PlanAsk.{PlanAsk}
use Rattle.np_board.specs.declared.board.plan.PlanTurn.{PlanTurn}
use Rattle.np_board.specs.Lower.{AreFreshPaths, Ask, Done, Entry, Event, IsFirstStale, IsFull, IsLater, IsReplied, IsUseful, Launcher, PoolId, Ran, Reply, Spot, Turn, WasUseful, Watch, answers, entries_of, is_fired, is_planned, recorded, remove_first}

-- what a turn without a plan leaves

-- the turn answers the ask after the journal so far; what it recorded is added to the journal, and nothing else is (own)
pub record IsTaken (old : Ran) (ask : Ask) (t : Turn) (new : Ran) : Type 0 where
  pub answer : answers old.configuration old.journal ask t
  pub configuration : new.configuration ≡ old.configuration
  pub journal : new.journal ≡ old.journal ++ entries_of (recorded ask t)

-- what a turn at a board leaves

-- ## memory ran out

-- everything is as before, except that the tree may have taken memory
pub record IsAsBefore (old new : Planning) : Type 0 where
  pub ran : ran_of new ≡ ran_of old
  pub plans : new.plans ≡ old.plans
  pub commits : new.commits ≡ old.commits
  pub later : IsLater old.tree new.tree

-- ## Plain

-- a turn without a plan; no plan changes
pub record IsPlain (old : Planning) (plain : Ask) (t : Turn) (new : Planning) : Type 0 where
  pub taken : IsTaken (ran_of old) plain t (ran_of new)
  pub plans : new.plans ≡ old.plans
  pub commits : new.commits ≡ old.commits
  pub later : IsLater old.tree new.tree

-- ## Peek

-- the plan is outstanding now, with a watch on each of its spots, in place of the pool's earlier plan
pub record IsPeeked (old : Planning) (p : PoolId) (plan : Plan) (new : Planning) : Type 0 where
  pub watched : Outstanding
  pub same : watched.plan ≡ plan
  pub is : IsNewPlan old.configuration old.state old.tree p watched
  pub left : new ≡ record old { plans = with_plan p (Some watched) old.plans }

-- the pool's launcher has no useful event that can be planned
abbrev pub HasNone : Planning → PoolId → Type 0
HasNone old p = (e : Event) → is_planned e ≡ true → IsUseful old.configuration old.state (Launcher p) e → ⊥

-- ## News

-- the first watch that fires is taken out
pub record IsNews (old : Planning) (p : PoolId) (spot : Spot) (new : Planning) : Type 0 where
  pub plan : Outstanding
  pub there : plan_of p old.plans ≡ Some plan
  pub watch : Watch
  pub fired : find (is_fired old.tree) plan.watches ≡ Some watch
  pub of : slice_get plan.plan.spots watch.key ≡ Some spot
  pub left : new ≡ record old { plans = with_plan p (Some (record plan { watches = remove_first (is_fired old.tree) plan.watches })) old.plans }

-- no watch of a plan of the pool fires
abbrev pub HasNoNews : Planning → PoolId → Type 0
HasNoNews old p = (plan : Outstanding) → plan_of p old.plans ≡ Some plan → find (is_fired old.tree) plan.watches ≡ None

-- ## Commit

-- all spots of the plan are fresh, and its event was recorded and accepted
pub record IsCommitted (old : Planning) (p : PoolId) (e : Entry) (new : Planning) : Type 0 where
  pub plan : Outstanding
  pub there : plan_of p old.plans ≡ Some plan
  pub fresh : AreFreshPaths plan.plan.at old.tree plan.paths
  pub event : e.event ≡ plan.plan.event
  pub was : WasUseful old.configuration old.journal (Launcher p) e.event
  pub replied : IsReplied old.configuration old.journal e
  pub done : Done
  pub accepted : e.reply ≡ Reply.Done done
  pub configuration : new.configuration ≡ old.configuration
  pub journal : new.journal ≡ old.journal ++ e ∷ []
  pub plans : new.plans ≡ with_plan p None old.plans
  pub commits : new.commits ≡ old.commits + 1
  pub later : IsLater old.tree new.tree

-- the first spot of the plan that isn't fresh, with its last change, which is later; the plan is taken out
pub record IsStale (old : Planning) (p : PoolId) (spot : Spot) (change : ℕ) (new : Planning) : Type 0 where
  pub plan : Outstanding
  pub there : plan_of p old.plans ≡ Some plan
  pub room : length old.journal < 262144
  pub place : ℕ
  pub first : IsFirstStale old.tree plan.plan.at plan.paths (record { place = place; change = change })
  pub of : slice_get plan.plan.spots place ≡ Some spot
  pub late : plan.plan.at < change
  pub left : new ≡ record old { plans = with_plan p None old.plans }

-- there is a plan, and no room
pub record IsBarred (old : Planning) (p : PoolId) : Type 0 where
  pub plan : Outstanding
  pub there : plan_of p old.plans ≡ Some plan
  pub full : IsFull old.journal

-- ## any ask

abbrev pub TakenPlain : Planning → Ask → PlanTurn → Planning → Type 0
TakenPlain old plain (PlanTurn.Plain t) new = IsPlain old plain t new
TakenPlain old plain (PlanTurn.Planned plan) new = ⊥
TakenPlain old plain (PlanTurn.Fired spot) new = ⊥
TakenPlain old plain (PlanTurn.Did e) new = ⊥
TakenPlain old plain (PlanTurn.Stale spot change) new = ⊥
TakenPlain old plain PlanTurn.Idle new = ⊥
TakenPlain old plain PlanTurn.Full new = ⊥

abbrev pub TakenPeek : Planning → PoolId → PlanTurn → Planning → Type 0
TakenPeek old p (PlanTurn.Plain t) new = ⊥
TakenPeek old p (PlanTurn.Planned plan) new = IsPeeked old p plan new
TakenPeek old p (PlanTurn.Fired spot) new = ⊥
TakenPeek old p (PlanTurn.Did e) new = ⊥
TakenPeek old p (PlanTurn.Stale spot change) new = ⊥
TakenPeek old p PlanTurn.Idle new = HasNone old p × (new ≡ old)
TakenPeek old p PlanTurn.Full new = ⊥

abbrev pub TakenNews : Planning → PoolId → PlanTurn → Planning → Type 0
TakenNews old p (PlanTurn.Plain t) new = ⊥
TakenNews old p (PlanTurn.Planned plan) new = ⊥
TakenNews old p (PlanTurn.Fired spot) new = IsNews old p spot new
TakenNews old p (PlanTurn.Did e) new = ⊥
TakenNews old p (PlanTurn.Stale spot change) new = ⊥
TakenNews old p PlanTurn.Idle new = HasNoNews old p × (new ≡ old)
TakenNews old p PlanTurn.Full new = ⊥

abbrev pub TakenCommit : Planning → PoolId → PlanTurn → Planning → Type 0
TakenCommit old p (PlanTurn.Plain t) new = ⊥
TakenCommit old p (PlanTurn.Planned plan) new = ⊥
TakenCommit old p (PlanTurn.Fired spot) new = ⊥
TakenCommit old p (PlanTurn.Did e) new = IsCommitted old p e new
TakenCommit old p (PlanTurn.Stale spot change) new = IsStale old p spot change new
TakenCommit old p PlanTurn.Idle new = (plan_of p old.plans ≡ None) × (new ≡ old)
TakenCommit old p PlanTurn.Full new = IsBarred old p × (new ≡ old)

-- the turn answers the ask, and leaves this (own)
abbrev pub IsPlanTaken : Planning → PlanAsk → PlanTurn → Planning → Type 0
IsPlanTaken old (PlanAsk.Plain plain) t new = TakenPlain old plain t new
IsPlanTaken old (PlanAsk.Peek p) t new = TakenPeek old p t new
IsPlanTaken old (PlanAsk.News p) t new = TakenNews old p t new
IsPlanTaken old (PlanAsk.Commit p) t new = TakenCommit old p t new
