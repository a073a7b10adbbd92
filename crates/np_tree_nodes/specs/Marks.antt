-- which session has which ephemeral nodes, for the code only
use Rattle.std.specs.Prelude.{◌≡◌, ℕ, Bool, false, ◌&&◌, ◌==◌, List, Option, Some, None}
use Rattle.std.specs.List.{list_any, prefix_len}
use Rattle.std.specs.declared.cmp.Ordering.{Ordering}
use Rattle.std.specs.Ordering.{nat_cmp, is_lt, ordering_then}
use Rattle.std.specs.Cmp.Lexicographic.{slice_cmp}
use Rattle.std.specs.Str.{bytes_eq}
use Rattle.np_tree_nodes.specs.Nodes.{at_path, is_owned}
use Rattle.np_tree_nodes.specs.declared.node.Node.{Node}
use Rattle.np_tree_nodes.specs.declared.mark.Mark.{Mark}
use Rattle.np_tree_nodes.specs.Lower.{Rises}

-- marks are in order by session, and then by path in byte order (own)
abbrev pub mark_cmp : Mark → ℕ → List ℕ → Ordering
mark_cmp mark session path = ordering_then (nat_cmp mark.session session) (slice_cmp nat_cmp mark.path path)

-- whether a mark comes before the place of a session's mark of a path
abbrev pub mark_before : ℕ → List ℕ → Mark → Bool
mark_before session path mark = is_lt (mark_cmp mark session path)

abbrev pub mark_place : ℕ → List ℕ → List Mark → ℕ
mark_place session path marks = prefix_len (mark_before session path) marks

-- the marks are in their order, each once
abbrev pub AreRanked : List Mark → Type 0
AreRanked marks = Rises (λ m n. mark_before n.session n.path m) marks

-- whether it is a session's mark of a path
abbrev pub is_mark : ℕ → List ℕ → Mark → Bool
is_mark session path mark = (mark.session == session) && bytes_eq mark.path path

-- whether the node that was found is a session's ephemeral
abbrev pub is_ephemeral_of : ℕ → Option Node → Bool
is_ephemeral_of session None = false
is_ephemeral_of session (Some n) = is_owned session n

-- a session has a mark of a path if and only if an ephemeral of the session is there
abbrev pub MarkEphemerals : List Mark → List Node → Type 0
MarkEphemerals marks nodes = (session : ℕ) (path : List ℕ) → list_any (is_mark session path) marks ≡ is_ephemeral_of session (at_path nodes path)

abbrev pub new_mark : ℕ → List ℕ → Mark
new_mark session path = record { session = session; path = path }
