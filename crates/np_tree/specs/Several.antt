-- the facts from which a part of a call is accepted, and several parts in one call
use Rattle.std.specs.Prelude.{◌≡◌, ◌<◌, ◌≤◌, ℕ, ◌+◌, true, not, ◌||◌, nat_le, List, [], length, Option, Some, None, Ok, false, ◌∷◌, ◌++◌, map, IsOk}
use Rattle.np_tree.specs.Relations.{counter_at}
use Rattle.np_tree.specs.Views.{Seen, name_given, rows_at, seen_at, Row}
use Rattle.np_tree.specs.Lower.{Any, Mode, TreeState, at_path, below, check_answer, create_answer, create_under_answer, delete_answer, is_in, is_sequential, name_of, option_map, parent_of, set_answer, AllByRecursion, MultiFault, Op, OpDone, Stops, after_multi, after_part, after_parts, answers_from, is_check, is_element, is_path, list_any, part_answer, with_next_number}
use Rattle.np_tree_nodes.specs.declared.refusal.MultiFault.TheVariants.{NoMemory}
use Rattle.np_tree.specs.Whole.{IsPart, IsWhole}

-- the facts from which a part of a call is accepted

-- ## parts

-- the version of the node at a path
abbrev pub version_at : TreeState → List ℕ → Option ℕ
version_at t path = option_map (λ n. n.facts.version) (at_path t.nodes path)

abbrev pub owner_at : TreeState → List ℕ → Option (Option ℕ)
owner_at t path = option_map (λ seen. seen.owner) (seen_at t path)

-- a directory in which a node of that name can be made
pub record CanCreate (t : TreeState) (session : ℕ) (dir name bytes : List ℕ) (mode : Mode) (counter : ℕ) : Type 0 where
  pub live : is_in t.live session ≡ true
  pub parent : owner_at t dir ≡ Some None
  pub gives : counter_at t dir ≡ Some counter
  pub unspent : (not (is_sequential mode) || nat_le counter 2_147_483_647) ≡ true
  pub short : length bytes ≤ 65536
  pub free : seen_at t (below dir (name_given mode counter name)) ≡ None
  pub change : t.changes < 18_446_744_073_709_551_615
  pub few : length (rows_at t dir) < 4_294_967_295

abbrev pub CreatesGo : Type 0
CreatesGo = (t : TreeState) (session : ℕ) (path dir bytes : List ℕ) (mode : Mode) (counter : ℕ) → parent_of path ≡ Some dir → CanCreate t session dir (name_of path) bytes mode counter →
    create_answer t session path bytes mode ≡ Ok (below dir (name_given mode counter (name_of path)))

abbrev pub CreatesUnderGo : Type 0
CreatesUnderGo = (t : TreeState) (session : ℕ) (dir bytes : List ℕ) (mode : Mode) (counter : ℕ) → CanCreate t session dir [] bytes mode counter →
    create_under_answer t session dir bytes mode ≡ Ok (below dir (name_given mode counter []))

-- a node that exists can be set
abbrev pub SetsGo : Type 0
SetsGo = (t : TreeState) (session : ℕ) (path bytes : List ℕ) (version : ℕ) → is_in t.live session ≡ true → version_at t path ≡ Some version → length bytes ≤ 65536 → t.changes < 18_446_744_073_709_551_615 → version < 18_446_744_073_709_551_615 →
    set_answer t session path bytes Any ≡ Ok (version + 1)

-- a node below a directory, with nothing below it, can be deleted
abbrev pub DeletesGo : Type 0
DeletesGo = (t : TreeState) (session : ℕ) (path dir : List ℕ) (seen : Seen) → is_in t.live session ≡ true → parent_of path ≡ Some dir → seen_at t path ≡ Some seen → rows_at t path ≡ [] → t.changes < 18_446_744_073_709_551_615 → delete_answer t session path Any ≡ Ok tt

-- a node that exists can be checked
abbrev pub ChecksGo : Type 0
ChecksGo = (t : TreeState) (session : ℕ) (path : List ℕ) (seen : Seen) → is_in t.live session ≡ true → seen_at t path ≡ Some seen → check_answer t session path Any ≡ Ok tt

-- several parts in one call

-- ## parts that go

-- each part is accepted in the state that those before it left, and all of them leave u
abbrev pub Goes : TreeState → ℕ → List Op → TreeState → Type 0
Goes t s [] u = t ≡ u
Goes t s (part ∷ parts) u = IsOk (part_answer t s part) × Goes (after_part t s part) s parts u

abbrev pub GoesEmpty : Type 0
GoesEmpty = (t : TreeState) (s : ℕ) → Goes t s [] t

abbrev pub GoesFront : Type 0
GoesFront = (t u : TreeState) (s : ℕ) (part : Op) (parts : List Op) → IsOk (part_answer t s part) → Goes (after_part t s part) s parts u → Goes t s (part ∷ parts) u

abbrev pub GoesJoined : Type 0
GoesJoined = (t u v : TreeState) (s : ℕ) (parts more : List Op) → Goes t s parts u → Goes u s more v → Goes t s (parts ++ more) v

-- ## a call of them

-- the parts are accepted, whatever number the first one has
abbrev pub GoesAnswered : Type 0
GoesAnswered = (at : ℕ) (t u : TreeState) (s : ℕ) (parts : List Op) → Goes t s parts u → IsOk (answers_from at t s parts)

abbrev pub GoesAfter : Type 0
GoesAfter = (t u : TreeState) (s : ℕ) (parts : List Op) → Goes t s parts u → after_parts t s parts ≡ u

-- nothing but memory stops them
abbrev pub GoesUnrefused : Type 0
GoesUnrefused = (t u : TreeState) (s : ℕ) (parts : List Op) (fault : MultiFault) → Goes t s parts u → Stops t s parts fault → fault ≡ NoMemory

-- they leave u under one number, and if all are checks they do not change the tree
abbrev pub GoesUnderOneNumber : Type 0
GoesUnderOneNumber = (t u : TreeState) (s : ℕ) (parts : List Op) → Goes t s parts u → list_any (λ part. not (is_check part)) parts ≡ true → after_multi t s parts ≡ with_next_number u

abbrev pub ChecksLeaveTheTree : Type 0
ChecksLeaveTheTree = (t u : TreeState) (s : ℕ) (parts : List Op) → Goes t s parts u → list_any (λ part. not (is_check part)) parts ≡ false → (after_multi t s parts ≡ t) × (u ≡ t)

-- the parts of a call that is accepted go
abbrev pub AnsweredGoes : Type 0
AnsweredGoes = (at : ℕ) (t : TreeState) (s : ℕ) (parts : List Op) (done : List OpDone) → answers_from at t s parts ≡ Ok done → Goes t s parts (after_parts t s parts)

-- ## room for a given number of parts

-- there is a change number; each version and each counter can be raised `more` times, and each
-- directory can have `more` more rows
pub record HasRoomFor (more : ℕ) (t : TreeState) : Type 0 where
  pub change : t.changes < 18_446_744_073_709_551_615
  pub versions : AllByRecursion (λ n. n.facts.version + more ≤ 18_446_744_073_709_551_615) t.nodes
  pub counters : AllByRecursion (λ n. n.facts.counter + more ≤ 2_147_483_648) t.nodes
  pub rows : (dir : List ℕ) → length (rows_at t dir) + more ≤ 4_294_967_295
  pub few : more ≤ 2_147_483_648

-- what a part needs of the numbers
pub record HasRoom (t : TreeState) : Type 0 where
  pub change : t.changes < 18_446_744_073_709_551_615
  pub version : (path : List ℕ) (version : ℕ) → version_at t path ≡ Some version → version < 18_446_744_073_709_551_615
  pub counter : (dir : List ℕ) (counter : ℕ) → counter_at t dir ≡ Some counter → counter ≤ 2_147_483_647
  pub few : (dir : List ℕ) → length (rows_at t dir) < 4_294_967_295

abbrev pub RoomGives : Type 0
RoomGives = (t : TreeState) (more : ℕ) → HasRoomFor (more + 1) t → HasRoom t

-- a part lowers the number by one
abbrev pub RoomFalls : Type 0
RoomFalls = (t : TreeState) (s : ℕ) (part : Op) (more : ℕ) → HasRoomFor (more + 1) t → HasRoomFor more (after_part t s part)

-- ## a directory cleared

abbrev pub delete_parts : List ℕ → List Row → List Op
delete_parts dir rows = map (λ row. Op.Delete (below dir row.name) Any) rows

-- every child of a directory can be deleted if there is nothing below them, and then the directory
-- is empty
abbrev pub ClearsGo : Type 0
ClearsGo = (t : TreeState) (s : ℕ) (dir : List ℕ) → IsWhole t.nodes → is_path dir ≡ true → is_in t.live s ≡ true → t.changes < 18_446_744_073_709_551_615 → AllByRecursion (λ row. rows_at t (below dir row.name) ≡ []) (rows_at t dir) →
    Goes t s (delete_parts dir (rows_at t dir)) (after_parts t s (delete_parts dir (rows_at t dir)))

abbrev pub ClearsEmpty : Type 0
ClearsEmpty = (t : TreeState) (s : ℕ) (dir : List ℕ) (u : TreeState) → IsWhole t.nodes → is_path dir ≡ true → is_in t.live s ≡ true → t.changes < 18_446_744_073_709_551_615 → AllByRecursion (λ row. rows_at t (below dir row.name) ≡ []) (rows_at t dir) →
    Goes t s (delete_parts dir (rows_at t dir)) u → rows_at u dir ≡ []

-- ## other directories

-- the directory whose rows a part changes, if it changes any
abbrev pub dir_of : Op → Option (List ℕ)
dir_of (Op.Create path bytes mode) = parent_of path
dir_of (Op.CreateUnder parent bytes mode) = Some parent
dir_of (Op.Set path bytes expect) = parent_of path
dir_of (Op.Delete path expect) = parent_of path
dir_of (Op.Check path expect) = None

-- parts that change only the rows of other directories do not change a directory's rows
abbrev pub Elsewhere : Type 0
Elsewhere = (t u : TreeState) (s : ℕ) (parts : List Op) (other : List ℕ) → IsWhole t.nodes → AllByRecursion IsPart parts → Goes t s parts u → AllByRecursion (λ part. dir_of part ≡ Some other → ⊥) parts → rows_at u other ≡ rows_at t other

-- and the nodes stay whole
abbrev pub GoesWhole : Type 0
GoesWhole = (t u : TreeState) (s : ℕ) (parts : List Op) → IsWhole t.nodes → AllByRecursion IsPart parts → Goes t s parts u → IsWhole u.nodes

-- ## paths

-- a path below a directory determines its directory and its name
abbrev pub PathsAreTheirParts : Type 0
PathsAreTheirParts = (p q this that : List ℕ) → is_path p ≡ true → is_path q ≡ true → is_element this ≡ true → is_element that ≡ true → below p this ≡ below q that → (p ≡ q) × (this ≡ that)
