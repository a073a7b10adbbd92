use Rattle.std.specs.Prelude.{ℕ, Bool, true, false, not, ◌&&◌, ◌||◌, ◌==◌, nat_lt, List, [], ◌∷◌, ◌+◌, length, Option, Some, None, position, if◌then◌else◌, ◌≡◌, ◌-◌, ◌<◌, ◌≤◌, ◌++◌, slice_index}
use Rattle.std.specs.List.{list_all, slice_split, before_last, after_last}

-- a slash, which comes before each element (ZooKeeper Programmer's Guide: a path's elements are
-- separated by slashes)
abbrev pub is_slash : ℕ → Bool
is_slash b = b == 47

-- a byte that no path has: one below the blank, or DEL (own)
abbrev pub is_control : ℕ → Bool
is_control b = nat_lt b 32 || (b == 127)

-- a byte that an element may have
abbrev pub is_kept : ℕ → Bool
is_kept b = not (is_control b) && not (is_slash b)

-- empty, `.` or `..`, which name no node (ZooKeeper Programmer's Guide: no relative paths)
abbrev pub is_dots : List ℕ → Bool
is_dots [] = true
is_dots (b ∷ []) = b == 46
is_dots (b ∷ c ∷ []) = (b == 46) && (c == 46)
is_dots (b ∷ c ∷ d ∷ bs) = false

-- the name of a node below its parent
abbrev pub is_element : List ℕ → Bool
is_element name = not (is_dots name) && list_all is_kept name

-- the elements of a path, from what follows its first slash: the parts between slashes
abbrev pub elements : List ℕ → List (List ℕ)
elements bs = slice_split is_slash bs

-- a path is a slash alone, or elements with a slash before each (ZooKeeper Programmer's Guide: absolute paths; the bytes are own)
abbrev pub is_path : List ℕ → Bool
is_path [] = false
is_path (b ∷ []) = is_slash b
is_path (b ∷ c ∷ bs) = is_slash b && list_all is_element (elements (c ∷ bs))

-- the first fault in an element: its first byte if it is a name of no node, otherwise its first bad
-- byte (own)
abbrev pub fault_in : List ℕ → Option ℕ
fault_in name = if is_dots name then Some 0 else position is_control name

-- the fault in an element that begins at a place, or otherwise the next
abbrev pub fault_or : ℕ → Option ℕ → Option ℕ → Option ℕ
fault_or at (Some k) next = Some (at + k)
fault_or at None next = next

-- the place of the first fault in elements, of which the first begins at a place
abbrev pub first_fault : ℕ → List (List ℕ) → Option ℕ
first_fault at [] = None
first_fault at (name ∷ names) = fault_or at (fault_in name) (first_fault (at + length name + 1) names)

-- the place of the first fault of a text as a path; a text that doesn't begin with a slash is at fault there (own)
abbrev pub path_fault : List ℕ → Option ℕ
path_fault [] = Some 0
path_fault (b ∷ []) = if is_slash b then None else Some 0
path_fault (b ∷ c ∷ bs) = if is_slash b then first_fault 1 (elements (c ∷ bs)) else Some 0

-- a name is at fault as a whole
abbrev pub name_fault : List ℕ → Option ℕ
name_fault name = if is_element name then None else Some 0

-- the path `/`
abbrev pub root : List ℕ
root = 47 ∷ []

-- the name of the node: what is after the last slash. The root's is empty
abbrev pub name_of : List ℕ → List ℕ
name_of path = after_last is_slash path

-- what is before the last slash, or the root if that is empty
abbrev pub or_root : List ℕ → List ℕ
or_root [] = root
or_root (b ∷ bs) = b ∷ bs

-- the path of the node above; only the root has none
abbrev pub parent_of : List ℕ → Option (List ℕ)
parent_of [] = None
parent_of (b ∷ []) = None
parent_of (b ∷ c ∷ bs) = Some (or_root (before_last is_slash (b ∷ c ∷ bs)))

-- a path with a slash at its end, as it comes before a child's name
abbrev pub slashed : List ℕ → List ℕ
slashed [] = root
slashed (b ∷ []) = root
slashed (b ∷ c ∷ bs) = (b ∷ c ∷ bs) ++ 47 ∷ []

-- the path of the child of that name (ZooKeeper Programmer's Guide: a name is a sequence of elements separated by slashes)
abbrev pub below : List ℕ → List ℕ → List ℕ
below path name = slashed path ++ name

-- a path, and where its name begins: after the last slash
pub record IsNameAt (path : List ℕ) (at : ℕ) : Type 0 where
  pub is : is_path path ≡ true
  pub after : 0 < at
  pub within : at ≤ length path
  pub slash : slice_index path (at - 1) ≡ 47
  pub name : (k : ℕ) → at ≤ k → k < length path → is_slash (slice_index path k) ≡ false
