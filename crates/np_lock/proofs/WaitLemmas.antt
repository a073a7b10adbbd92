-- the rows of a queue, and the sessions in it
use Rattle.np_lock.proofs.Prelude.{Bool, IsLock, IsQueue, IsTree, List, Node, None, Option, Row, Some, Stat, TreeState, Wait, ap, arith, at_path, bytes_eq-is, children_of, filter, filter_map, find-passes, is_at, length, length-map, map, option_and_then, option_map, queue_at, refl, row_of, row_of_wait, rows-nothing, slice_get, slice_get-map, stat_at, stat_of, stat_of_child, sym, with_next_number, ℕ, [], ◌∙◌, ◌∷◌, ◌≡◌}

-- the sessions of rows
abbrev pub sessions_of : List Row → List ℕ
sessions_of rows = filter_map (λ (row : Row). row.owner) rows

pub sessions-waits : (waits : List Wait) → sessions_of (map row_of_wait waits) ≡ map (λ (w : Wait). w.session) waits
sessions-waits [] = refl
sessions-waits (w ∷ waits) = ap (λ (ss : List ℕ). w.session ∷ ss) (sessions-waits waits)

pub queue-waits : (t : TreeState) (dir : List ℕ) (waits : List Wait) → IsQueue t dir waits → queue_at t dir ≡ map (λ (w : Wait). w.session) waits
queue-waits t dir waits is = ap sessions_of is.rows ∙ sessions-waits waits

-- ## a reader

-- the nodes and the waits at a place have one row
pub shown-at : (nodes : List Node) (waits : List Wait) (at : ℕ) → map row_of nodes ≡ map row_of_wait waits → option_map row_of (slice_get nodes at) ≡ option_map row_of_wait (slice_get waits at)
shown-at nodes waits at same = sym (slice_get-map row_of nodes at) ∙ ap (λ (rows : List Row). slice_get rows at) same ∙ slice_get-map row_of_wait waits at

owner-by : (o : Option Node) (p : Option Wait) → option_map row_of o ≡ option_map row_of_wait p → option_map (λ (w : Wait). w.session) p ≡ option_and_then (λ (n : Node). n.facts.owner) o
owner-by None None same = refl
owner-by (Some n) (Some w) same = let one : row_of n ≡ row_of_wait w = cc in sym (ap (λ (r : Row). r.owner) one)
owner-by o p same = absurd cc

-- the session at a place
session-at : (t : TreeState) (dir : List ℕ) (at : ℕ) → IsLock t dir → slice_get (queue_at t dir) at ≡ option_and_then (λ (n : Node). n.facts.owner) (slice_get (children_of t.nodes dir) at)
session-at t dir at lock =
    ap (λ (q : List ℕ). slice_get q at) (queue-waits t dir lock.0 lock.1) ∙ slice_get-map (λ (w : Wait). w.session) lock.0 at
    ∙ owner-by (slice_get (children_of t.nodes dir) at) (slice_get lock.0 at) (shown-at (children_of t.nodes dir) lock.0 at lock.1.rows)

stat-some : (nodes : List Node) (o : Option Node) (stat : Stat) → Some stat ≡ option_map (stat_of nodes) o → stat.owner ≡ option_and_then (λ (n : Node). n.facts.owner) o
stat-some nodes None stat is = absurd cc
stat-some nodes (Some n) stat is = let same : stat ≡ stat_of nodes n = cc in ap (λ (s : Stat). s.owner) same

none-there : (nodes : List Node) (o : Option Node) → None ≡ option_map (stat_of nodes) o → o ≡ None
none-there nodes None is = refl
none-there nodes (Some n) is = absurd cc

pub waiting-some : (t : TreeState) (dir : List ℕ) (at : ℕ) (stat : Stat) → IsLock t dir → Some stat ≡ stat_of_child t dir at → stat.owner ≡ slice_get (queue_at t dir) at
waiting-some t dir at stat lock is = stat-some t.nodes (slice_get (children_of t.nodes dir) at) stat is ∙ sym (session-at t dir at lock)

pub waiting-none : (t : TreeState) (dir : List ℕ) (at : ℕ) → IsLock t dir → None ≡ stat_of_child t dir at → None ≡ slice_get (queue_at t dir) at
waiting-none t dir at lock is =
    sym (ap (option_and_then (λ (n : Node). n.facts.owner)) (none-there t.nodes (slice_get (children_of t.nodes dir) at) is)) ∙ sym (session-at t dir at lock)

-- ## how many wait

length-queue : (t : TreeState) (dir : List ℕ) → IsLock t dir → length (queue_at t dir) ≡ length (children_of t.nodes dir)
length-queue t dir lock =
    ap length (queue-waits t dir lock.0 lock.1) ∙ length-map lock.0 (λ (w : Wait). w.session) ∙ sym (length-map lock.0 row_of_wait) ∙ sym (ap length lock.1.rows) ∙ length-map (children_of t.nodes dir) row_of

count-by : (nodes : List Node) (dir : List ℕ) (o : Option Node) (stat : Stat) → at_path nodes dir ≡ o → Some stat ≡ option_map (stat_of nodes) o → stat.children ≡ length (children_of nodes dir)
count-by nodes dir None stat there is = absurd cc
count-by nodes dir (Some n) stat there is =
    let same : stat ≡ stat_of nodes n = cc in
    ap (λ (s : Stat). s.children) same ∙ ap (λ (p : List ℕ). length (children_of nodes p)) (bytes_eq-is n.path dir (find-passes (is_at dir) nodes n there))

pub count-some : (t : TreeState) (dir : List ℕ) (stat : Stat) → IsLock t dir → Some stat ≡ stat_at t dir → stat.children ≡ length (queue_at t dir)
count-some t dir stat lock is = count-by t.nodes dir (at_path t.nodes dir) stat refl is ∙ sym (length-queue t dir lock)

pub count-none : (t : TreeState) (dir : List ℕ) → IsTree t → None ≡ stat_at t dir → 0 ≡ length (queue_at t dir)
count-none t dir tree is =
    sym (ap (λ (rows : List Row). length (sessions_of rows)) (rows-nothing t.nodes dir tree.whole.stand (none-there t.nodes (at_path t.nodes dir) is)))

-- ## a change number

pub IsLock-number : (t : TreeState) (dir : List ℕ) → IsLock t dir → IsLock (with_next_number t) dir
IsLock-number t dir lock = (lock.0, record { rows = lock.1.rows; given = lock.1.given; once = lock.1.once })

-- ## the rows without some

pub filter-shown : {A B : Type 0} (f : A → B) (p : B → Bool) (xs : List A) → filter p (map f xs) ≡ map f (filter (λ x. p (f x)) xs)
filter-shown f p [] = refl
filter-shown f p (x ∷ xs) = grind (arith, filter-shown f p xs)
