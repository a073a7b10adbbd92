-- tests that calls share, each with its refusal
use Rattle.std.specs.Prelude.{ℕ, ◌==◌, nat_lt, nat_le, Bool, true, false, List, length, Result}
use Rattle.np_tree_nodes.specs.TreeState.{TreeState}
use Rattle.np_tree_nodes.specs.Nodes.{at_path}
use Rattle.np_tree_nodes.specs.declared.node.Node.{Node}
use Rattle.np_tree_nodes.specs.declared.kind.Mode.{Mode}
use Rattle.np_tree_nodes.specs.declared.kind.Mode.TheVariants.{Persistent, Ephemeral, PersistentSequential, EphemeralSequential}
use Rattle.np_tree_nodes.specs.declared.kind.Expect.{Expect}
use Rattle.np_tree_nodes.specs.declared.kind.Expect.TheVariants.{Any, Exactly}
use Rattle.np_tree_nodes.specs.declared.refusal.TreeRefusal.{TreeRefusal}
use Rattle.np_tree_nodes.specs.Lower.{found, is_in, need}

-- the session is live (ZooKeeper Programmer's Guide: an expired session changes nothing)
abbrev pub alive : TreeState → ℕ → Result (Unit {0}) TreeRefusal
alive t session = need (is_in t.live session) TreeRefusal.SessionExpired

-- the node at the path
abbrev pub there : TreeState → List ℕ → Result Node TreeRefusal
there t path = found (at_path t.nodes path) TreeRefusal.NoNode

abbrev pub is_expected : Expect → ℕ → Bool
is_expected Any version = true
is_expected (Exactly wanted) version = version == wanted

-- its version is the expected one (ZooKeeper Programmer's Guide: conditional updates)
abbrev pub has_version : Node → Expect → Result (Unit {0}) TreeRefusal
has_version n expect = need (is_expected expect n.facts.version) (TreeRefusal.BadVersion n.facts.version)

-- its bytes are at most 65,536 (own)
abbrev pub fits : List ℕ → Result (Unit {0}) TreeRefusal
fits bytes = need (nat_le (length bytes) 65536) TreeRefusal.TooLarge

-- there is a number for one more change (own)
abbrev pub unspent : TreeState → Result (Unit {0}) TreeRefusal
unspent t = need (nat_lt t.changes 18_446_744_073_709_551_615) TreeRefusal.ChangesSpent

abbrev pub is_sequential : Mode → Bool
is_sequential Persistent = false
is_sequential Ephemeral = false
is_sequential PersistentSequential = true
is_sequential EphemeralSequential = true

abbrev pub is_ephemeral : Mode → Bool
is_ephemeral Persistent = false
is_ephemeral Ephemeral = true
is_ephemeral PersistentSequential = false
is_ephemeral EphemeralSequential = true
