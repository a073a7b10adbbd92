-- what holds of a journal after every step of it
use Rattle.std.specs.Prelude.{◌≡◌, List, ◌++◌}
use Rattle.np_changes.specs.Lower.{Entry}

-- it holds of the journal, and of every journal that this begins with
abbrev pub AfterEveryStep : (List Entry → Type 0) → List Entry → Type 0
AfterEveryStep P journal = (before rest : List Entry) → journal ≡ before ++ rest → P before
