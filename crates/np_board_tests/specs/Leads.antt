-- a tree and the journal that led to it
use Rattle.std.specs.Prelude.{List}
use Rattle.np_layout.specs.Prelude.{TreeState, decoded}
use Rattle.np_changes.specs.Prelude.{Configuration, Entry, Runs}
use Rattle.np_keeper.specs.Keeper.{IsHeld}

-- the tree stores the state that the journal leads to, with room for the events to come
pub record Leads (c : Configuration) (journal : List Entry) (t : TreeState) : Type 0 where
  pub held : IsHeld c t
  pub runs : Runs c journal (decoded c t)
