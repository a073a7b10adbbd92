-- what the readers return, and what an accepted part of a call changes of what a tree shows
use Rattle.std.specs.Prelude.{ℕ, List, Option, slice_get, ◌≡◌, ◌+◌, Bool, true, false, not, [], filter, Some, None, Ok, if◌then◌else◌}
use Rattle.np_tree.specs.Lower.{Node, Stat, TreeState, at_path, children_of, name_of, option_map, stat_of, Expect, Mode, Op, Rises, after_create, after_create_under, after_delete, after_end, after_part, after_raise, after_set, below, change_first, create_answer, create_under_answer, delete_answer, is_owner, is_path, is_sequential, may_raise, parent_of, set_answer}
use Rattle.np_tree.specs.Whole.{IsWhole}
use Rattle.np_tree.specs.Views.{Row, Seen, find_named, is_named, name_given, row_before, row_given, row_with, rows_at, seen_at, seen_in, seen_with, with_row}

-- what the readers return

-- the bytes of the node at a path
abbrev pub bytes_at : TreeState → List ℕ → Option (List ℕ)
bytes_at t path = option_map (λ n. n.bytes) (at_path t.nodes path)

-- the stat of the node at a path (client API: `exists`)
abbrev pub stat_at : TreeState → List ℕ → Option Stat
stat_at t path = option_map (stat_of t.nodes) (at_path t.nodes path)

-- the sequence counter of the node at a path
abbrev pub counter_at : TreeState → List ℕ → Option ℕ
counter_at t path = option_map (λ n. n.facts.counter) (at_path t.nodes path)

-- the child at a place among the children in byte order (client API: `getChildren`)
abbrev pub child_of : TreeState → List ℕ → ℕ → Option Node
child_of t path at = slice_get (children_of t.nodes path) at

abbrev pub child_name : TreeState → List ℕ → ℕ → Option (List ℕ)
child_name t path at = option_map (λ n. name_of n.path) (child_of t path at)

abbrev pub stat_of_child : TreeState → List ℕ → ℕ → Option Stat
stat_of_child t path at = option_map (stat_of t.nodes) (child_of t path at)

-- what an accepted part of a call changes of what a tree shows; everywhere else it changes nothing

-- ## rows and what is seen

-- the rows of a directory are in byte order of their names, each name once
abbrev pub RowsRise : Type 0
RowsRise = (t : TreeState) (dir : List ℕ) → IsWhole t.nodes → Rises row_before (rows_at t dir)

-- what is seen at a path is the row of that name
abbrev pub SeenIsRow : Type 0
SeenIsRow = (t : TreeState) (path dir : List ℕ) → IsWhole t.nodes → is_path path ≡ true → parent_of path ≡ Some dir → seen_at t path ≡ option_map seen_in (find_named (name_of path) (rows_at t dir))

-- if there is no node at a path, there is none below it
abbrev pub NothingBelowNothing : Type 0
NothingBelowNothing = (t : TreeState) (dir : List ℕ) → IsWhole t.nodes → seen_at t dir ≡ None → rows_at t dir ≡ []

-- ## a create

-- the counter of a directory after a create
abbrev pub counter_after : Mode → ℕ → ℕ
counter_after mode counter = if is_sequential mode then counter + 1 else counter

-- a directory has one row more
pub record Creates (mode : Mode) (dir : List ℕ) (row : Row) (t u : TreeState) : Type 0 where
  -- the row is among its siblings, with nothing below it
  pub rows : rows_at u dir ≡ with_row row (rows_at t dir)
  pub seen : seen_at u (below dir row.name) ≡ Some (seen_in row)
  pub empty : rows_at u (below dir row.name) ≡ []
  pub new : counter_at u (below dir row.name) ≡ Some 0
  -- the directory's counter
  pub counter : counter_at u dir ≡ option_map (counter_after mode) (counter_at t dir)
  -- everything else is as it was
  pub other_rows : (other : List ℕ) → (other ≡ dir → ⊥) → rows_at u other ≡ rows_at t other
  pub other_seen : (path : List ℕ) → (path ≡ below dir row.name → ⊥) → seen_at u path ≡ seen_at t path
  pub other_counter : (path : List ℕ) → (path ≡ dir → ⊥) → (path ≡ below dir row.name → ⊥) → counter_at u path ≡ counter_at t path

abbrev pub CreatesShow : Type 0
CreatesShow = (t : TreeState) (session : ℕ) (path dir bytes made : List ℕ) (mode : Mode) (counter : ℕ) → IsWhole t.nodes → is_path path ≡ true → parent_of path ≡ Some dir → counter_at t dir ≡ Some counter → create_answer t session path bytes mode ≡ Ok made →
    Creates mode dir (row_given mode counter session (name_of path) bytes) t (after_create t session path bytes mode)

-- the path that a create returns
abbrev pub CreatesAnswer : Type 0
CreatesAnswer = (t : TreeState) (session : ℕ) (path dir bytes made : List ℕ) (mode : Mode) (counter : ℕ) → parent_of path ≡ Some dir → counter_at t dir ≡ Some counter → create_answer t session path bytes mode ≡ Ok made →
    made ≡ below dir (name_given mode counter (name_of path))

-- a sequence node whose name is the counter alone
abbrev pub CreatesUnderShow : Type 0
CreatesUnderShow = (t : TreeState) (session : ℕ) (dir bytes made : List ℕ) (mode : Mode) (counter : ℕ) → IsWhole t.nodes → is_sequential mode ≡ true → counter_at t dir ≡ Some counter → create_under_answer t session dir bytes mode ≡ Ok made →
    Creates mode dir (row_given mode counter session [] bytes) t (after_create_under t session dir [] bytes mode)

-- ## a set

-- a row has other bytes
pub record Sets (dir name bytes : List ℕ) (t u : TreeState) : Type 0 where
  pub rows : rows_at u dir ≡ change_first (is_named name) (row_with bytes) (rows_at t dir)
  pub seen : seen_at u (below dir name) ≡ option_map (seen_with bytes) (seen_at t (below dir name))
  pub counters : (path : List ℕ) → counter_at u path ≡ counter_at t path
  pub other_rows : (other : List ℕ) → (other ≡ dir → ⊥) → rows_at u other ≡ rows_at t other
  pub other_seen : (path : List ℕ) → (path ≡ below dir name → ⊥) → seen_at u path ≡ seen_at t path

abbrev pub SetsShow : Type 0
SetsShow = (t : TreeState) (session : ℕ) (path dir bytes : List ℕ) (expect : Expect) (version : ℕ) → IsWhole t.nodes → is_path path ≡ true → parent_of path ≡ Some dir → set_answer t session path bytes expect ≡ Ok version →
    Sets dir (name_of path) bytes t (after_set t path bytes)

-- ## a delete

-- a directory has one row fewer
pub record Deletes (dir name : List ℕ) (t u : TreeState) : Type 0 where
  pub rows : rows_at u dir ≡ filter (λ row. not (is_named name row)) (rows_at t dir)
  pub gone : seen_at u (below dir name) ≡ None
  pub empty : rows_at u (below dir name) ≡ []
  pub none : counter_at u (below dir name) ≡ None
  pub other_rows : (other : List ℕ) → (other ≡ dir → ⊥) → rows_at u other ≡ rows_at t other
  pub other_seen : (path : List ℕ) → (path ≡ below dir name → ⊥) → seen_at u path ≡ seen_at t path
  pub other_counter : (path : List ℕ) → (path ≡ below dir name → ⊥) → counter_at u path ≡ counter_at t path

abbrev pub DeletesShow : Type 0
DeletesShow = (t : TreeState) (session : ℕ) (path dir : List ℕ) (expect : Expect) → IsWhole t.nodes → is_path path ≡ true → parent_of path ≡ Some dir → delete_answer t session path expect ≡ Ok tt →
    Deletes dir (name_of path) t (after_delete t path)

-- ## the end of a session

abbrev pub is_kept : ℕ → Row → Bool
is_kept session row = not (is_owner session row.owner)

-- what is seen at a path when a session's nodes are gone
abbrev pub unless_owned : ℕ → Option Seen → Option Seen
unless_owned session None = None
unless_owned session (Some seen) = if is_owner session seen.owner then None else Some seen

pub record Ends (session : ℕ) (t u : TreeState) : Type 0 where
  pub rows : (dir : List ℕ) → rows_at u dir ≡ filter (is_kept session) (rows_at t dir)
  pub seen : (path : List ℕ) → seen_at u path ≡ unless_owned session (seen_at t path)
  pub counters : (path : List ℕ) (seen : Seen) → seen_at t path ≡ Some seen → is_owner session seen.owner ≡ false → counter_at u path ≡ counter_at t path

abbrev pub EndsShow : Type 0
EndsShow = (t : TreeState) (session : ℕ) → IsWhole t.nodes → Ends session t (after_end t session)

-- ## a counter that is raised

pub record Raises (path : List ℕ) (to : ℕ) (t u : TreeState) : Type 0 where
  pub counter : counter_at u path ≡ Some to
  pub other_counter : (other : List ℕ) → (other ≡ path → ⊥) → counter_at u other ≡ counter_at t other
  pub rows : (dir : List ℕ) → rows_at u dir ≡ rows_at t dir
  pub seen : (other : List ℕ) → seen_at u other ≡ seen_at t other

abbrev pub RaisesShow : Type 0
RaisesShow = (t : TreeState) (path : List ℕ) (to : ℕ) → may_raise t path to ≡ true → Raises path to t (after_raise t path to)

-- ## sessions

-- a part changes only nodes: sessions and the change number stay
abbrev pub PartsChangeNodesAlone : Type 0
PartsChangeNodesAlone = (t : TreeState) (session : ℕ) (part : Op) → after_part t session part ≡ record t { nodes = (after_part t session part).nodes }
