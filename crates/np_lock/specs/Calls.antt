-- the queue of a lock, what each call answers and does to the tree, and how the tree changes the queue
use Rattle.std.specs.Prelude.{◌≡◌, ◌<◌, ℕ, ◌==◌, Bool, not, List, [], codes, map, filter_map, Option, Some, None, ⊤, zero, suc, true, false, ◌∷◌, ◌++◌, find, position, slice_get, Result, Ok, Err, IsOk, if◌then◌else◌}
use Rattle.np_tree.specs.Prelude.{AllByRecursion, EphemeralSequential, Rises, TreeState, below, counter_at, Any, NoMemory, Op, Row, TreeRefusal, after_create, after_delete, create_answer, is_in, is_none, is_owner, option_map, rows_at, where_found, with_next_number, IsTree, IsWhole, after_end, after_part, is_path, part_answer, without}
use Rattle.np_tree.specs.Views.{row_given}
use Rattle.np_lock.specs.declared.answer.Place.{Place}
use Rattle.np_lock.specs.declared.answer.Place.TheVariants.{Held, Queued}
use Rattle.np_lock.specs.declared.answer.Tried.{Tried}
use Rattle.np_lock.specs.declared.answer.LockFault.{LockFault}

-- a lock is a directory, and its queue is the sessions of its children (ZooKeeper recipes, locks: the lowest sequence node holds)

-- what each name in a queue begins with
abbrev pub prefix : List ℕ
prefix = codes "lock-"

-- a place in a queue: the number of its sequence node, and the session that waits there
pub record Wait : Type 0 where
  pub number : ℕ
  pub session : ℕ

-- its row: an ephemeral sequence node without bytes
abbrev pub row_of_wait : Wait → Row
row_of_wait wait = row_given EphemeralSequential wait.number wait.session prefix []

-- the number was given by the counter of the directory
abbrev pub IsGivenOut : Option ℕ → Wait → Type 0
IsGivenOut None wait = ⊥
IsGivenOut (Some counter) wait = wait.number < counter

abbrev pub of_others : Wait → Wait → Bool
of_others this that = not (this.session == that.session)

-- a directory whose children are such nodes, at most one of each session. A path without a node
-- counts as such a directory, and so does a directory without children
pub record IsQueue (t : TreeState) (dir : List ℕ) (waits : List Wait) : Type 0 where
  pub rows : rows_at t dir ≡ map row_of_wait waits
  pub given : AllByRecursion (IsGivenOut (counter_at t dir)) waits
  pub once : Rises of_others waits

abbrev pub IsLock : TreeState → List ℕ → Type 0
IsLock t dir = (waits : List Wait) × IsQueue t dir waits

-- the sessions that wait, in the order of their sequence nodes
abbrev pub queue_at : TreeState → List ℕ → List ℕ
queue_at t dir = filter_map (λ row. row.owner) (rows_at t dir)

-- the path that a session's node is created by
abbrev pub wait_path : List ℕ → List ℕ
wait_path dir = below dir prefix

-- what each call of a lock answers, and what it does to the tree

-- ## places

-- the first in the queue holds, and each other one waits for those ahead
abbrev pub place_with : ℕ → Place
place_with zero = Held
place_with (suc n) = Queued (suc n)

-- how many are ahead of a session that is in the queue
abbrev pub ahead_in : List ℕ → ℕ → Option ℕ
ahead_in queue session = position (λ s. s == session) queue

-- the first session of a queue
abbrev pub first_of : List ℕ → Option ℕ
first_of queue = slice_get queue 0

-- ## a session joins

abbrev pub joined : List ℕ → ℕ → List ℕ
joined queue session = if is_in queue session then queue else queue ++ session ∷ []

-- what the tree answers to the create of the session's node
abbrev pub join_answer : TreeState → ℕ → List ℕ → Result (List ℕ) TreeRefusal
join_answer t session dir = create_answer t session (wait_path dir) [] EphemeralSequential

abbrev pub after_join : TreeState → ℕ → List ℕ → TreeState
after_join t session dir = with_next_number (after_create t session (wait_path dir) [] EphemeralSequential)

-- the create may be refused, and memory may run out (own)
abbrev pub Joins : Result (List ℕ) TreeRefusal → Result (Unit {0}) LockFault → Type 0
Joins made (Ok _) = IsOk made
Joins made (Err (LockFault.Refused refusal)) = made ≡ Err refusal
Joins made (Err LockFault.NoMemory) = ⊤

-- the place that the session has or gets. Only if it has none, the create may be refused or memory
-- may run out
abbrev pub Enqueues : Option ℕ → Result (List ℕ) TreeRefusal → ℕ → Result Place LockFault → Type 0
Enqueues (Some ahead) made others result = result ≡ Ok (place_with ahead)
Enqueues None made others (Ok place) = (IsOk made) × (place ≡ place_with others)
Enqueues None made others (Err (LockFault.Refused refusal)) = made ≡ Err refusal
Enqueues None made others (Err LockFault.NoMemory) = ⊤

abbrev pub after_enqueue : TreeState → ℕ → List ℕ → TreeState
after_enqueue t session dir = if is_in (queue_at t dir) session then t else after_join t session dir

-- ## a session tries

-- if there is a holder, it is the answer; otherwise the session joins
abbrev pub Tries : Option ℕ → Result (List ℕ) TreeRefusal → ℕ → Result Tried LockFault → Type 0
Tries (Some holder) made session result = result ≡ Ok (if holder == session then Tried.Held else Tried.Busy holder)
Tries None made session (Ok answer) = (IsOk made) × (answer ≡ Tried.Held)
Tries None made session (Err (LockFault.Refused refusal)) = made ≡ Err refusal
Tries None made session (Err LockFault.NoMemory) = ⊤

abbrev pub after_try : TreeState → ℕ → List ℕ → TreeState
after_try t session dir = if is_none (first_of (queue_at t dir)) then after_join t session dir else t

-- the queue of a session that tried
abbrev pub held_by : List ℕ → ℕ → List ℕ
held_by [] session = session ∷ []
held_by (first ∷ others) session = first ∷ others

-- ## a session leaves

abbrev pub find_owned : ℕ → List Row → Option Row
find_owned session rows = find (λ row. is_owner session row.owner) rows

-- the path of the session's node
abbrev pub path_in : TreeState → ℕ → List ℕ → Option (List ℕ)
path_in t session dir = option_map (λ row. below dir row.name) (find_owned session (rows_at t dir))

-- the delete is refused only if no change has a number left
abbrev pub Leaves : ℕ → Result (Unit {0}) LockFault → Type 0
Leaves changes (Ok _) = changes < 18_446_744_073_709_551_615
Leaves changes (Err (LockFault.Refused refusal)) = (refusal ≡ TreeRefusal.ChangesSpent) × (changes ≡ 18_446_744_073_709_551_615)
Leaves changes (Err LockFault.NoMemory) = ⊤

-- whether the session was there. The delete is refused only if no change has a number left
abbrev pub Releases : Bool → ℕ → Result Bool LockFault → Type 0
Releases false changes result = result ≡ Ok false
Releases true changes (Ok was) = (was ≡ true) × (changes < 18_446_744_073_709_551_615)
Releases true changes (Err (LockFault.Refused refusal)) = (refusal ≡ TreeRefusal.ChangesSpent) × (changes ≡ 18_446_744_073_709_551_615)
Releases true changes (Err LockFault.NoMemory) = ⊤

abbrev pub after_release : TreeState → ℕ → List ℕ → TreeState
after_release t session dir = where_found (path_in t session dir) t (λ path. with_next_number (after_delete t path))

-- ## parts of a call of several

abbrev pub join_part : List ℕ → Op
join_part dir = Op.Create (wait_path dir) [] EphemeralSequential

abbrev pub leave_part : List ℕ → Op
leave_part path = Op.Delete path Any

-- the part that takes the session out, and none if it is not there; memory may run out only if it
-- is there
abbrev pub LeavesBy : Option (List ℕ) → Result (Option Op) NoMemory → Type 0
LeavesBy None result = result ≡ Ok None
LeavesBy (Some path) (Ok part) = part ≡ Some (leave_part path)
LeavesBy (Some path) (Err _) = ⊤

-- how a queue changes with the tree

-- a queue is determined by the rows and the counter of its directory
abbrev pub QueuesAreShown : Type 0
QueuesAreShown = (t u : TreeState) (dir : List ℕ) (waits : List Wait) → rows_at u dir ≡ rows_at t dir → counter_at u dir ≡ counter_at t dir → IsQueue t dir waits → IsQueue u dir waits

-- a directory without children is a lock that nobody waits for
abbrev pub EmptiesAreLocks : Type 0
EmptiesAreLocks = (t : TreeState) (dir : List ℕ) → rows_at t dir ≡ [] → IsQueue t dir []

-- the part of a session that joins, once it is accepted
abbrev pub PartsJoin : Type 0
PartsJoin = (t : TreeState) (s : ℕ) (dir : List ℕ) → is_path dir ≡ true → IsWhole t.nodes → IsLock t dir → is_in (queue_at t dir) s ≡ false → IsOk (part_answer t s (join_part dir)) →
    (IsLock (after_part t s (join_part dir)) dir) × (queue_at (after_part t s (join_part dir)) dir ≡ queue_at t dir ++ s ∷ [])

-- the part of a session that leaves
abbrev pub PartsLeave : Type 0
PartsLeave = (t : TreeState) (s : ℕ) (dir path : List ℕ) → is_path dir ≡ true → IsTree t → IsLock t dir → path_in t s dir ≡ Some path → t.changes < 18_446_744_073_709_551_615 →
    (IsOk (part_answer t s (leave_part path))) × (IsLock (after_part t s (leave_part path)) dir) × (queue_at (after_part t s (leave_part path)) dir ≡ without (queue_at t dir) s)

-- the end of a session takes it out of each queue
abbrev pub EndsLeave : Type 0
EndsLeave = (t : TreeState) (s : ℕ) (dir : List ℕ) → IsTree t → IsLock t dir → (IsLock (after_end t s) dir) × (queue_at (after_end t s) dir ≡ without (queue_at t dir) s)
