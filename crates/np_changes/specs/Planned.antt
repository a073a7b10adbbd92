-- which changes a keeper of a state is given
use Rattle.std.specs.Prelude.{◌≡◌, List, true, is_ok}
use Rattle.np_changes.specs.Plan.{plan}
use Rattle.np_changes.specs.declared.changes.Changes.{Changes}
use Rattle.np_changes.specs.Lower.{Configuration, Entry, Event, Runs, State, judge}

-- a run of the configuration reaches the state
pub record IsReached (c : Configuration) (s : State) : Type 0 where
  pub journal : List Entry
  pub runs : Runs c journal s

-- the changes are the plan of an event that is accepted in the state
pub record IsPlanned (c : Configuration) (s : State) (changes : Changes) : Type 0 where
  pub event : Event
  pub accepted : is_ok (judge c s event) ≡ true
  pub plan : changes ≡ plan c s event
