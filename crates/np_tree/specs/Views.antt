-- what a tree shows, what the order of nodes means, and worked calls on closed trees
use Rattle.std.specs.Prelude.{◌≡◌, ℕ, Bool, true, List, Some, find, map, ◌++◌, Option, None, if◌then◌else◌, [], ◌∷◌, codes, Result, Ok, Err}
use Rattle.std.specs.Ordering.{nat_cmp, is_lt}
use Rattle.std.specs.Cmp.Lexicographic.{slice_cmp}
use Rattle.np_tree.specs.Lower.{AllPaths, IsSorted, Node, Rises, children_of, is_path, name_of, parent_of, path_before, Mode, TreeState, at_path, insert_before, is_ephemeral, is_sequential, option_map, ten_digits_of, Any, AtPart, Ephemeral, Exactly, Op, OpDone, Persistent, PersistentSequential, TreeRefusal, after_end, after_part, after_raise, new_tree, part_answer, with_next_number}
use Rattle.std.specs.Str.{bytes_eq}
use Rattle.std.specs.Result.{is_ok}

-- what the order of nodes means

-- each path comes after its parent's
abbrev pub ParentsComeFirst : Type 0
ParentsComeFirst = (path above : List ℕ) → is_path path ≡ true → parent_of path ≡ Some above → path_before above path ≡ true

-- whether a node's name is before another's in byte order
abbrev pub named_before : Node → Node → Bool
named_before m n = is_lt (slice_cmp nat_cmp (name_of m.path) (name_of n.path))

-- the children of a path are in byte order of their names, each name once (own; the client API's
-- `getChildren` has no order)
abbrev pub ChildrenByName : Type 0
ChildrenByName = (nodes : List Node) (path : List ℕ) → IsSorted nodes → AllPaths nodes → Rises named_before (children_of nodes path)

-- what a tree shows: the children of a directory, and the node at a path. No node record appears in
-- what is shown

-- a child of a directory
pub record Row : Type 0 where
  pub name : List ℕ
  pub bytes : List ℕ
  pub owner : Option ℕ

-- the node at a path, as it is seen
pub record Seen : Type 0 where
  pub bytes : List ℕ
  pub owner : Option ℕ

abbrev pub row_of : Node → Row
row_of n = record { name = name_of n.path; bytes = n.bytes; owner = n.facts.owner }

abbrev pub seen_of : Node → Seen
seen_of n = record { bytes = n.bytes; owner = n.facts.owner }

abbrev pub seen_in : Row → Seen
seen_in row = record { bytes = row.bytes; owner = row.owner }

-- the children of a directory, in byte order of their names; none if there is no node there
abbrev pub rows_at : TreeState → List ℕ → List Row
rows_at t dir = map row_of (children_of t.nodes dir)

-- the bytes and the owner of the node at a path
abbrev pub seen_at : TreeState → List ℕ → Option Seen
seen_at t path = option_map seen_of (at_path t.nodes path)

-- ## rows

abbrev pub is_named : List ℕ → Row → Bool
is_named name row = bytes_eq row.name name

-- the row of a name
abbrev pub find_named : List ℕ → List Row → Option Row
find_named name rows = find (is_named name) rows

abbrev pub name_before : List ℕ → List ℕ → Bool
name_before this that = is_lt (slice_cmp nat_cmp this that)

abbrev pub row_before : Row → Row → Bool
row_before this that = name_before this.name that.name

-- the rows with one more, at its place in the order of names
abbrev pub with_row : Row → List Row → List Row
with_row row rows = insert_before (λ other. row_before row other) row rows

abbrev pub row_with : List ℕ → Row → Row
row_with bytes row = record row { bytes = bytes }

abbrev pub seen_with : List ℕ → Seen → Seen
seen_with bytes seen = record seen { bytes = bytes }

-- ## what a create makes

-- the name of a new node: a sequence node's ends in its parent's counter
abbrev pub name_given : Mode → ℕ → List ℕ → List ℕ
name_given mode counter name = if is_sequential mode then name ++ ten_digits_of counter else name

abbrev pub row_given : Mode → ℕ → ℕ → List ℕ → List ℕ → Row
row_given mode counter session name bytes = record {
  name = name_given mode counter name;
  bytes = bytes;
  owner = if is_ephemeral mode then Some session else None;
}

-- worked calls on closed trees, and their answers

-- a call that is accepted takes a change number
abbrev pub after_call : TreeState → ℕ → Op → TreeState
after_call t s part = if is_ok (part_answer t s part) then with_next_number (after_part t s part) else t

-- the answers to single calls of one session, one after another
abbrev pub replies_to : TreeState → ℕ → List Op → List (Result OpDone TreeRefusal)
replies_to t s [] = []
replies_to t s (part ∷ parts) = part_answer t s part ∷ replies_to (after_call t s part) s parts

-- the tree after these calls
abbrev pub tree_after : TreeState → ℕ → List Op → TreeState
tree_after t s [] = t
tree_after t s (part ∷ parts) = tree_after (after_call t s part) s parts

-- a new tree in which session 1 began
abbrev pub begun_tree : TreeState
begun_tree = record new_tree { live = 1 ∷ []; begun = 1 }

abbrev pub create : List ℕ → Op
create path = Op.Create path [] Persistent

abbrev pub creates : List ℕ → Result OpDone TreeRefusal
creates path = Ok (OpDone.Created path)

-- tests and versions of single nodes (row of tree calls, own)
abbrev pub calls : List Op
calls =
    create (codes "/a") ∷ Op.Set (codes "/a") [] Any ∷ Op.Set (codes "/a") [] (Exactly 0) ∷ create (codes "/a/b")
    ∷ Op.Delete (codes "/a") Any
    ∷ Op.Create (codes "/e") [] Ephemeral
    ∷ create (codes "/e/x")
    ∷ create (codes "/q")
    ∷ []

abbrev pub replies : List (Result OpDone TreeRefusal)
replies =
    creates (codes "/a") ∷ Ok (OpDone.Set 1) ∷ Err (TreeRefusal.BadVersion 1) ∷ creates (codes "/a/b") ∷ Err (TreeRefusal.NotEmpty 1) ∷ creates (codes "/e")
    ∷ Err TreeRefusal.NoChildrenForEphemerals
    ∷ creates (codes "/q")
    ∷ []

-- the same session's later calls, after the counter of `/q` was raised
abbrev pub sequence_calls : List Op
sequence_calls =
    Op.Create (codes "/q/t-") [] PersistentSequential ∷ Op.Create (codes "/q/t-") [] PersistentSequential ∷ Op.CreateUnder (codes "/q") [] PersistentSequential
    ∷ create (codes "/")
    ∷ Op.Delete (codes "/") Any
    ∷ []

abbrev pub sequence_replies : List (Result OpDone TreeRefusal)
sequence_replies =
    creates (codes "/q/t-2147483647") ∷ Err TreeRefusal.SequenceSpent ∷ Err TreeRefusal.SequenceSpent ∷ Err TreeRefusal.NodeExists ∷ Err TreeRefusal.RootKept ∷ []

-- the tree after the first calls, and after the counter was raised
abbrev pub tree_raised : TreeState
tree_raised = after_raise (tree_after begun_tree 1 calls) (codes "/q") 2147483647

-- the session's end, and a call after it
abbrev pub tree_ended : TreeState
tree_ended = after_end (tree_after tree_raised 1 sequence_calls) 1

-- a tree with `/a` set once, and a `multi` in it with and without a part that fails
abbrev pub with_a : TreeState
with_a = tree_after begun_tree 1 (create (codes "/a") ∷ Op.Set (codes "/a") [] Any ∷ [])

abbrev pub two_parts : List Op
two_parts = Op.Check (codes "/a") (Exactly 1) ∷ create (codes "/c") ∷ []

abbrev pub three_parts : List Op
three_parts = Op.Check (codes "/a") (Exactly 1) ∷ create (codes "/c") ∷ Op.Delete (codes "/zz") Any ∷ []

abbrev pub two_done : Result (List OpDone) AtPart
two_done = Ok (OpDone.Checked ∷ OpDone.Created (codes "/c") ∷ [])

abbrev pub third_fails : Result (List OpDone) AtPart
third_fails = Err (record { index = 2; refusal = TreeRefusal.NoNode })
