-- the answer to each operation, by its tests in order: the first one that fails determines it
use Rattle.std.specs.Prelude.{ℕ, ◌+◌, ◌==◌, nat_lt, nat_le, not, ◌||◌, List, [], ◌++◌, length, Result, Ok, if◌then◌else◌}
use Rattle.std.specs.Option.{is_none}
use Rattle.std.specs.Str.{bytes_eq}
use Rattle.np_lists.specs.Refusals.{◌>>=◌, ◌>>◌}
use Rattle.np_tree_nodes.specs.TreeState.{TreeState}
use Rattle.np_tree_nodes.specs.Nodes.{at_path, children_of}
use Rattle.np_tree_nodes.specs.Tests.{alive, there, has_version, fits, unspent, is_sequential}
use Rattle.np_tree_nodes.specs.declared.node.Node.{Node}
use Rattle.np_tree_nodes.specs.declared.kind.Mode.{Mode}
use Rattle.np_tree_nodes.specs.declared.kind.Expect.{Expect}
use Rattle.np_tree_nodes.specs.declared.op.Op.{Op}
use Rattle.np_tree_nodes.specs.declared.op.OpDone.{OpDone}
use Rattle.np_tree_nodes.specs.declared.refusal.TreeRefusal.{TreeRefusal}
use Rattle.np_tree_nodes.specs.Lower.{below, found, name_of, need, parent_of, root, ten_digits_of}

-- the path that is made: a sequence node's name ends in its parent's counter
abbrev pub made_path : Node → List ℕ → Mode → List ℕ
made_path parent name mode = below parent.path (if is_sequential mode then name ++ ten_digits_of parent.facts.counter else name)

-- a child below a parent, by the name or the prefix of a name
abbrev pub child_answer : TreeState → List ℕ → List ℕ → List ℕ → Mode → Result (List ℕ) TreeRefusal
child_answer t above name bytes mode = do
  parent ← there t above
  need (is_none parent.facts.owner) TreeRefusal.NoChildrenForEphemerals
  fits bytes
  need (not (is_sequential mode) || nat_le parent.facts.counter 2_147_483_647) TreeRefusal.SequenceSpent
  need (is_none (at_path t.nodes (made_path parent name mode))) TreeRefusal.NodeExists
  unspent t
  need (nat_lt (length (children_of t.nodes above)) 4_294_967_295) TreeRefusal.ChangesSpent
  Ok (made_path parent name mode)

-- create (client API: `create`): only the root has no parent, and it exists
abbrev pub create_answer : TreeState → ℕ → List ℕ → List ℕ → Mode → Result (List ℕ) TreeRefusal
create_answer t session path bytes mode = do
  alive t session
  above ← found (parent_of path) TreeRefusal.NodeExists
  child_answer t above (name_of path) bytes mode

-- create with an empty prefix
abbrev pub create_under_answer : TreeState → ℕ → List ℕ → List ℕ → Mode → Result (List ℕ) TreeRefusal
create_under_answer t session parent bytes mode = do
  alive t session
  child_answer t parent [] bytes mode

-- set (client API: `setData`): answers the new version
abbrev pub set_answer : TreeState → ℕ → List ℕ → List ℕ → Expect → Result ℕ TreeRefusal
set_answer t session path bytes expect = do
  alive t session
  n ← there t path
  fits bytes
  has_version n expect
  unspent t
  need (nat_lt n.facts.version 18_446_744_073_709_551_615) TreeRefusal.ChangesSpent
  Ok (n.facts.version + 1)

-- delete (client API: `delete`): a node with children stays
abbrev pub delete_answer : TreeState → ℕ → List ℕ → Expect → Result (Unit {0}) TreeRefusal
delete_answer t session path expect = do
  alive t session
  need (not (bytes_eq path root)) TreeRefusal.RootKept
  n ← there t path
  has_version n expect
  need (length (children_of t.nodes path) == 0) (TreeRefusal.NotEmpty (length (children_of t.nodes path)))
  unspent t

-- check (client API: `multi`): changes nothing
abbrev pub check_answer : TreeState → ℕ → List ℕ → Expect → Result (Unit {0}) TreeRefusal
check_answer t session path expect = do
  alive t session
  n ← there t path
  has_version n expect

-- the answer to a part of a `multi`
abbrev pub part_answer : TreeState → ℕ → Op → Result OpDone TreeRefusal
part_answer t s (Op.Create path bytes mode) = create_answer t s path bytes mode >>= λ made. Ok (OpDone.Created made)
part_answer t s (Op.CreateUnder parent bytes mode) = create_under_answer t s parent bytes mode >>= λ made. Ok (OpDone.Created made)
part_answer t s (Op.Set path bytes expect) = set_answer t s path bytes expect >>= λ version. Ok (OpDone.Set version)
part_answer t s (Op.Delete path expect) = delete_answer t s path expect >> Ok OpDone.Deleted
part_answer t s (Op.Check path expect) = check_answer t s path expect >> Ok OpDone.Checked
