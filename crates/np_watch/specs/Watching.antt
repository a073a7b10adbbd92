-- paths that are as they were at a change, and watches in the order of their keys
use Rattle.std.specs.Prelude.{◌≡◌, ◌<◌, ℕ, nat_le, max, Bool, true, false, ◌&&◌, ◌↔◌, List, Option, Some, None, ◌==◌, ◌≤◌, nat_lt, not, length}
use Rattle.np_tree.specs.Prelude.{AllByRecursion, Stat, TreeState, parent_of, stat_at, Rises, insert_before, list_any}
use Rattle.std.specs.Option.{option_and_then}
use Rattle.np_tree.specs.Dates.{IsFresh}
use Rattle.np_watch.specs.declared.watch.Watch.{Watch}

-- paths that are as they were at a change

-- the node above a path has the children that it had at z, and the node at the path, if there is one, the bytes (own;
-- ZooKeeper Programmer's Guide, Stat: a change of the children sets pzxid, one of the bytes mzxid)
pub record IsFreshPath (z : ℕ) (t : TreeState) (path : List ℕ) : Type 0 where
  pub dir : List ℕ
  pub above : parent_of path ≡ Some dir
  pub fresh : IsFresh z t dir path

abbrev pub AreFreshPaths : ℕ → TreeState → List (List ℕ) → Type 0
AreFreshPaths z t paths = AllByRecursion (IsFreshPath z t) paths

-- ## by stats

-- the stat of the node above a path
abbrev pub stat_above : TreeState → List ℕ → Option Stat
stat_above t path = option_and_then (stat_at t) (parent_of path)

-- the children of a node last changed at z or before; a node that isn't there has none
abbrev pub is_listed_by : ℕ → Option Stat → Bool
is_listed_by z None = false
is_listed_by z (Some stat) = nat_le stat.pzxid z

-- the bytes of a node, if there is one, last changed at z or before
abbrev pub is_written_by : ℕ → Option Stat → Bool
is_written_by z None = true
is_written_by z (Some stat) = nat_le stat.mzxid z

-- whether a path is fresh, by the stats of the node above it and of the node at it
abbrev pub is_fresh_by : ℕ → Option Stat → Option Stat → Bool
is_fresh_by z above here = is_listed_by z above && is_written_by z here

-- whether a path is fresh
abbrev pub is_fresh : TreeState → ℕ → List ℕ → Bool
is_fresh t z path = is_fresh_by z (stat_above t path) (stat_at t path)

-- the test is the fact
abbrev pub TestSaysFresh : Type 0
TestSaysFresh = (t : TreeState) (z : ℕ) (path : List ℕ) → (is_fresh t z path ≡ true) ↔ IsFreshPath z t path

-- ## the last change

abbrev pub listed_at : Option Stat → ℕ
listed_at None = 0
listed_at (Some stat) = stat.pzxid

abbrev pub written_at : Option Stat → ℕ
written_at None = 0
written_at (Some stat) = stat.mzxid

-- the last change of the children of the node above a path, or of the bytes of the node at it
abbrev pub change_by : Option Stat → Option Stat → ℕ
change_by above here = max (listed_at above) (written_at here)

abbrev pub change_at_path : TreeState → List ℕ → ℕ
change_at_path t path = change_by (stat_above t path) (stat_at t path)

-- below a node that is there, a path that isn't fresh at z changed after z
abbrev pub StaleIsLater : Type 0
StaleIsLater = (z : ℕ) (parent : Stat) (here : Option Stat) → is_fresh_by z (Some parent) here ≡ false → z < change_by (Some parent) here

-- watches, in the order of their keys

abbrev pub key_before : Watch → Watch → Bool
key_before v w = nat_lt v.key w.key

-- the keys rise, so each stands once, and a number of 32 bits counts them
pub record AreWatches (watches : List Watch) : Type 0 where
  pub rise : Rises key_before watches
  pub few : length watches ≤ 4_294_967_295

abbrev pub has_key : ℕ → Watch → Bool
has_key key watch = watch.key == key

abbrev pub is_watched : ℕ → List Watch → Bool
is_watched key watches = list_any (has_key key) watches

-- a watch of a path as it is in a tree
abbrev pub watch_of : TreeState → ℕ → List ℕ → Watch
watch_of t key path = record { key = key; path = path; at = t.changes }

-- the watches with one more, at the place of its key
abbrev pub with_watch : Watch → List Watch → List Watch
with_watch watch watches = insert_before (key_before watch) watch watches

-- the path changed since the watch was set: a watch fires (ZooKeeper Programmer's Guide, watches)
abbrev pub is_fired : TreeState → Watch → Bool
is_fired t watch = not (is_fresh t watch.at watch.path)

-- a key from one up to but not including another
abbrev pub is_between : ℕ → ℕ → Watch → Bool
is_between low high watch = nat_le low watch.key && nat_lt watch.key high
