-- the items of a list, one after another
use Rattle.std.specs.Prelude.{ℕ, ◌+◌, List, decimal, Result, Ok}
use Rattle.std.specs.Option.{option_map_or}
use Rattle.serde_json.specs.Data.{Data, Items, no_items, item}
use Rattle.serde_json.specs.Find.{get}
use Rattle.np_json.specs.declared.fault.ConfigFault.{ConfigFault}
use Rattle.np_json.specs.declared.leaf.Length.{Length}
use Rattle.np_lists.specs.Refusals.{◌>>=◌}
use Rattle.np_json.specs.Reading.{below}
use Rattle.np_json.specs.Leaf.{required, list_value}

-- how an item is read: at its place, given what was read before it in the list
abbrev pub ReadsItem : Type 0 → Type 0
ReadsItem S = List ℕ → S → Data → Result S ConfigFault

-- each item in turn, from the n-th place on
unfoldable pub items_from : {S : Type 0} → ReadsItem S → List ℕ → ℕ → S → Items → Result S ConfigFault
items_from read at n before no_items = Ok before
items_from read at n before (item d ds) = read (below at (decimal n)) before d >>= λ after. items_from read at (n + 1) after ds

-- the items of a list at a place
unfoldable pub list_at : {S : Type 0} → ReadsItem S → List ℕ → Length → S → Data → Result S ConfigFault
list_at read at length start d = list_value at length d >>= items_from read at 0 start

-- a list that must be there
unfoldable pub list_required : {S : Type 0} → ReadsItem S → List ℕ → List ℕ → Length → S → Data → Result S ConfigFault
list_required read at key length start d = required at key d >>= list_at read (below at key) length start

-- a list, which has no items if it is absent
unfoldable pub list_maybe : {S : Type 0} → ReadsItem S → List ℕ → List ℕ → Length → S → Data → Result S ConfigFault
list_maybe read at key length start d = option_map_or (list_at read (below at key) length start) (get key d) (Ok start)
