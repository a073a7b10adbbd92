-- what is at a place of a JSON value
use Rattle.std.specs.Prelude.{ℕ, ◌+◌, List, codes, Bool, true, ◌&&◌, not, nat_le, Option, Some, None, option_and_then, Result, Ok}
use Rattle.std.specs.List.{list_any}
use Rattle.std.specs.Option.{option_map_or}
use Rattle.std.specs.Str.{bytes_eq}
use Rattle.serde_json.specs.Data.{Data, Items, Members, no_members, member}
use Rattle.serde_json.specs.Find.{get, as_object, as_array, as_str, as_bool, as_number, as_u64}
use Rattle.serde_json.specs.Events.{items_len}
use Rattle.np_text.specs.Name.{is_name_text}
use Rattle.np_json.specs.declared.fault.ConfigKind.TheVariants.{Missing, UnknownKey, WrongType, OutOfRange, BadName, Repeated, TooMany}
use Rattle.np_json.specs.declared.fault.ConfigFault.{ConfigFault}
use Rattle.np_json.specs.declared.leaf.Length.{Length}
use Rattle.np_lists.specs.Refusals.{◌>>=◌, ◌>>◌, need, found}
use Rattle.np_json.specs.Reading.{fault, below}

-- a list of at most this many items
abbrev pub at_most : ℕ → Length
at_most most = record { before = 0; least = 0; most = most }

-- a list of one item or more
abbrev pub one_to : ℕ → Length
one_to most = record { before = 0; least = 1; most = most }

-- after lists that share the limit and have this many items
abbrev pub behind : ℕ → Length → Length
behind earlier l = record l { before = earlier }

-- each key is one of these
abbrev pub only_keys : List (List ℕ) → Members → Bool
only_keys keys no_members = true
only_keys keys (member key d ms) = list_any (bytes_eq key) keys && only_keys keys ms

-- an object that has no keys except these (own)
abbrev pub object_at : List ℕ → List (List ℕ) → Data → Result (Unit {0}) ConfigFault
object_at at keys d = do
  ms ← found (as_object d) (fault WrongType at)
  need (only_keys keys ms) (fault UnknownKey at)

-- a member that must be there
abbrev pub required : List ℕ → List ℕ → Data → Result Data ConfigFault
required at key d = found (get key d) (fault Missing (below at key))

-- a text
abbrev pub text_value : List ℕ → Data → Result (List ℕ) ConfigFault
text_value at d = found (as_str d) (fault WrongType at)

-- true or false
abbrev pub flag_value : List ℕ → Data → Result Bool ConfigFault
flag_value at d = found (as_bool d) (fault WrongType at)

-- a number of a range
abbrev pub in_range : List ℕ → ℕ → ℕ → ℕ → Result ℕ ConfigFault
in_range at least most n = need (nat_le least n && nat_le n most) (fault OutOfRange at) >> Ok n

-- a whole number, without a sign, point or exponent, of a range
abbrev pub whole_value : List ℕ → ℕ → ℕ → Data → Result ℕ ConfigFault
whole_value at least most d = found (option_and_then as_u64 (as_number d)) (fault WrongType at) >>= in_range at least most

-- an allowed number of items, counting those of earlier lists that share the limit
abbrev pub of_length : List ℕ → Length → Items → Result Items ConfigFault
of_length at l ds = do
  need (nat_le (l.before + items_len ds) l.most) (fault TooMany at)
  need (nat_le l.least (items_len ds)) (fault OutOfRange at)
  Ok ds

-- a list whose number of items is allowed
abbrev pub list_value : List ℕ → Length → Data → Result Items ConfigFault
list_value at l d = found (as_array d) (fault WrongType at) >>= of_length at l

-- a name that none of the earlier rows has
unfoldable pub new_name : {T : Type 0} → (T → List ℕ) → List ℕ → List T → List ℕ → Result (List ℕ) ConfigFault
new_name name at earlier text = do
  need (is_name_text text) (fault BadName at)
  need (not (list_any (λ row. bytes_eq text (name row)) earlier)) (fault Repeated at)
  Ok text

-- the name of a row
unfoldable pub name_at : {T : Type 0} → (T → List ℕ) → List ℕ → List T → Data → Result (List ℕ) ConfigFault
name_at name at earlier d = do
  v ← required at (codes "name") d
  text ← text_value (below at (codes "name")) v
  new_name name (below at (codes "name")) earlier text

-- the name of a row, which is an object that has no keys except these
unfoldable pub named_at : {T : Type 0} → (T → List ℕ) → List (List ℕ) → List ℕ → List T → Data → Result (List ℕ) ConfigFault
named_at name keys at earlier d = do
  object_at at keys d
  name_at name at earlier d

-- a number that must be there
unfoldable pub whole_required : List ℕ → List ℕ → ℕ → ℕ → Data → Result ℕ ConfigFault
whole_required at key least most d = required at key d >>= whole_value (below at key) least most

-- a number, or its default if it is absent
abbrev pub whole_or : List ℕ → List ℕ → ℕ → ℕ → ℕ → Data → Result ℕ ConfigFault
whole_or at key least most absent d = option_map_or (whole_value (below at key) least most) (get key d) (Ok absent)

-- a number that may be absent
abbrev pub whole_maybe : List ℕ → List ℕ → ℕ → ℕ → Data → Result (Option ℕ) ConfigFault
whole_maybe at key least most d = option_map_or (λ v. whole_value (below at key) least most v >>= λ n. Ok (Some n)) (get key d) (Ok None)

-- true or false, or its default if it is absent
abbrev pub flag_or : List ℕ → List ℕ → Bool → Data → Result Bool ConfigFault
flag_or at key absent d = option_map_or (flag_value (below at key)) (get key d) (Ok absent)
