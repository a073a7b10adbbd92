-- how a queue changes with the tree
use Rattle.np_lock.proofs.Prelude.{AllByRecursion, Any, EmptiesAreLocks, EndsLeave, Err, IsGivenOut, IsOk, IsQueue, IsTree, List, Node, None, Ok, OpDone, Option, PartsJoin, PartsLeave, QueuesAreShown, Result, Rises-filter, Some, TreeRefusal, TreeState, Wait, after_end, all-filter, ap, at_path, children_of-ephemeral, counter_at, delete_answer, ends-show, eqb-true, false, false_from_ne_true, filter, is_kept, is_owner, join_answer, map, not, of_others, ok-then, option_map, refl, row_of, row_of_wait, rows_at, seen_of, subst, sym, unspent-goes, without, ℕ, [], ◌++◌, ◌==◌, ◌>>=◌, ◌∙◌, ◌∷◌, ◌≡◌}
use Rattle.np_lock.proofs.JoinLemmas.{Joins-accepted, queue-joined}
use Rattle.np_lock.proofs.LeaveLemmas.{Leaves-path, left-sessions, left_by, of_session}
use Rattle.np_lock.proofs.WaitLemmas.{filter-shown, queue-waits}

pub queues-are-shown : QueuesAreShown
queues-are-shown t u dir waits rows counter queue =
    record { rows = rows ∙ queue.rows; given = subst (λ (o : Option ℕ). AllByRecursion (IsGivenOut o) waits) (sym counter) queue.given; once = queue.once }

pub empties-are-locks : EmptiesAreLocks
empties-are-locks t dir none = record { rows = none; given = tt; once = tt }

-- ## parts

made-of : (r : Result (List ℕ) TreeRefusal) → IsOk (r >>= (λ made. Ok (OpDone.Created made))) → (made : List ℕ) × (r ≡ Ok made)
made-of (Ok made) ok = (made, refl)
made-of (Err refusal) ok = absurd cc

pub parts-join : PartsJoin
parts-join t s dir is whole lock none ok =
    let made = made-of (join_answer t s dir) ok in
    let joins = Joins-accepted t s dir made.0 lock.0 is whole lock.1 none made.1 in
    ((lock.0 ++ record { number = joins.counter; session = s } ∷ [], joins.queue), queue-joined t s dir lock.0 lock.1 joins)

pub parts-leave : PartsLeave
parts-leave t s dir path is tree lock there change =
    let leaves = Leaves-path t s dir path is tree lock there in
    let ok : delete_answer t s path Any ≡ Ok tt = leaves.answer ∙ unspent-goes t change in
    (ok-then (delete_answer t s path Any) ok, leaves.lock ok, leaves.queue ok)

-- ## the end of a session

kept-waits : (s : ℕ) (waits : List Wait) → filter (is_kept s) (map row_of_wait waits) ≡ map row_of_wait (left_by s waits)
kept-waits s waits = filter-shown row_of_wait (is_kept s) waits

-- the directory of a wait exists
there-by : (nodes : List Node) (dir : List ℕ) (w : Wait) (o : Option Node) → at_path nodes dir ≡ o → IsGivenOut (option_map (λ (n : Node). n.facts.counter) o) w → (n : Node) × (at_path nodes dir ≡ Some n)
there-by nodes dir w None there given = absurd given
there-by nodes dir w (Some n) there given = (n, there)

-- and no session owns it
owner-by : (s : ℕ) (o : Option ℕ) → (o ≡ Some s → ⊥) → is_owner s o ≡ false
owner-by s None other = refl
owner-by s (Some owner) other = false_from_ne_true (owner == s) (λ is. other (ap Some (eqb-true owner s is)))

stays : (t : TreeState) (s : ℕ) (dir : List ℕ) (w : Wait) (waits : List Wait) → IsTree t → IsQueue t dir (w ∷ waits) → counter_at (after_end t s) dir ≡ counter_at t dir
stays t s dir w waits tree queue =
    let node = there-by t.nodes dir w (at_path t.nodes dir) refl queue.given.0 in
    let n : Node = node.0 in
    let free : is_owner s n.facts.owner ≡ false = owner-by s n.facts.owner (λ owned.
    let none : rows_at t dir ≡ [] = ap (map row_of) (children_of-ephemeral t.nodes dir n s tree.whole.stand node.1 owned) in
    absurd (let some : row_of_wait w ∷ map row_of_wait waits ≡ [] = sym queue.rows ∙ none in cc)) in
    (ends-show t s tree.whole).counters dir (seen_of n) (ap (option_map seen_of) node.1) free

given-end : (t : TreeState) (s : ℕ) (dir : List ℕ) (waits : List Wait) → IsTree t → IsQueue t dir waits → AllByRecursion (IsGivenOut (counter_at (after_end t s) dir)) (left_by s waits)
given-end t s dir [] tree queue = tt
given-end t s dir (w ∷ waits) tree queue =
    all-filter (IsGivenOut (counter_at (after_end t s) dir)) (λ (v : Wait). not (of_session s v)) (w ∷ waits)
    (subst (λ (o : Option ℕ). AllByRecursion (IsGivenOut o) (w ∷ waits)) (sym (stays t s dir w waits tree queue)) queue.given)

IsQueue-end : (t : TreeState) (s : ℕ) (dir : List ℕ) (waits : List Wait) → IsTree t → IsQueue t dir waits → IsQueue (after_end t s) dir (left_by s waits)
IsQueue-end t s dir waits tree queue = record {
  rows = (ends-show t s tree.whole).rows dir ∙ ap (filter (is_kept s)) queue.rows ∙ kept-waits s waits;
  given = given-end t s dir waits tree queue;
  once = Rises-filter of_others (λ (v : Wait). not (of_session s v)) waits queue.once;
}

pub ends-leave : EndsLeave
ends-leave t s dir tree lock =
    let left = IsQueue-end t s dir lock.0 tree lock.1 in
    ((left_by s lock.0, left), queue-waits (after_end t s) dir (left_by s lock.0) left ∙ left-sessions s lock.0 ∙ sym (ap (λ (q : List ℕ). without q s) (queue-waits t dir lock.0 lock.1)))
