-- a queue with one session more
use Rattle.np_lock.proofs.Prelude.{AllByRecursion, Creates, EphemeralSequential, HasParts-below, IsGivenOut, IsQueue, IsWhole, List, Node, NonePass, Ok, Option, Rises, Some, TreeState, Wait, after_create, all-push, all-weaker, ap, arith, below, child-line, child_answer-passed, counter_at, creates-show, false, insert_before-end, is_in, is_lt, is_path, is_path-below, join_answer, leb-true, list_any, map, map-append, name_of, nat_cmp, nat_cmp-more, nat_tests, not, of_others, option_map, parent_of, prefix, queue_at, refl, row_before, row_given, row_of_wait, slice_cmp, slice_cmp-ten, subst, sym, ten_digits_of, true, wait_path, with_row, ℕ, [], ◌++◌, ◌+◌, ◌<◌, ◌==◌, ◌∙◌, ◌∷◌, ◌≡◌, ◌≤◌}
use Rattle.np_lock.proofs.WaitLemmas.{queue-waits}

-- ## the path

pub is_path-wait : (dir : List ℕ) → is_path dir ≡ true → is_path (wait_path dir) ≡ true
is_path-wait dir is = is_path-below dir prefix is refl

above-wait : (dir : List ℕ) → is_path dir ≡ true → parent_of (wait_path dir) ≡ Some dir
above-wait dir is = (HasParts-below dir prefix is refl).above

name-wait : (dir : List ℕ) → is_path dir ≡ true → name_of (wait_path dir) ≡ prefix
name-wait dir is = (HasParts-below dir prefix is refl).last

-- ## the new row is the last

not-before : (new old : ℕ) → old < new → new ≤ 2147483647 → is_lt (slice_cmp nat_cmp (prefix ++ ten_digits_of new) (prefix ++ ten_digits_of old)) ≡ false
not-before new old below low = ap is_lt (slice_cmp-ten new old (omega arith) (omega arith) ∙ nat_cmp-more new old below)

last-by : (counter session : ℕ) (waits : List Wait) → counter ≤ 2147483647 → AllByRecursion (IsGivenOut (Some counter)) waits → NonePass (λ other. row_before (row_of_wait (record { number = counter; session = session })) other) (map row_of_wait waits)
last-by counter session [] low given = tt
last-by counter session (w ∷ waits) low given = (not-before counter w.number given.0 low, last-by counter session waits low given.1)

with_row-last : (counter session : ℕ) (waits : List Wait) → counter ≤ 2147483647 → AllByRecursion (IsGivenOut (Some counter)) waits →
    with_row (row_of_wait (record { number = counter; session = session })) (map row_of_wait waits) ≡ map row_of_wait (waits ++ record { number = counter; session = session } ∷ [])
with_row-last counter session waits low given =
    let new : Wait = record { number = counter; session = session } in
    insert_before-end (λ other. row_before (row_of_wait new) other) (row_of_wait new) (map row_of_wait waits) (last-by counter session waits low given) ∙ sym (map-append row_of_wait waits (new ∷ []))

-- ## each session once

others-by : (session : ℕ) (waits : List Wait) → list_any (λ s. s == session) (map (λ (w : Wait). w.session) waits) ≡ false → AllByRecursion (λ (w : Wait). not (w.session == session) ≡ true) waits
others-by session [] none = tt
others-by session (w ∷ waits) none = (grind (arith, nat_tests), others-by session waits (grind (arith, nat_tests)))

rises-push : (waits : List Wait) (new : Wait) → AllByRecursion (λ (w : Wait). of_others w new ≡ true) waits → Rises of_others waits → Rises of_others (waits ++ new ∷ [])
rises-push [] new all rises = (tt, tt)
rises-push (w ∷ waits) new all rises = (all-push (λ (v : Wait). of_others w v ≡ true) waits new rises.0 all.0, rises-push waits new all.1 rises.1)

-- ## the queue

IsQueue-created : (t u : TreeState) (dir : List ℕ) (counter session : ℕ) (waits : List Wait) → counter ≤ 2147483647 → counter_at t dir ≡ Some counter → IsQueue t dir waits → is_in (queue_at t dir) session ≡ false → Creates EphemeralSequential dir (row_given EphemeralSequential counter session prefix []) t u →
    IsQueue u dir (waits ++ record { number = counter; session = session } ∷ [])
IsQueue-created t u dir counter session waits low gives queue none creates =
    let new : Wait = record { number = counter; session = session } in
    let given = subst (λ (o : Option ℕ). AllByRecursion (IsGivenOut o) waits) gives queue.given in
    let more : counter_at u dir ≡ Some (counter + 1) = creates.counter ∙ ap (option_map (λ (c : ℕ). c + 1)) gives in
    let absent : list_any (λ s. s == session) (map (λ (w : Wait). w.session) waits) ≡ false = sym (ap (λ (q : List ℕ). is_in q session) (queue-waits t dir waits queue)) ∙ none in
    record {
      rows = creates.rows ∙ ap (with_row (row_of_wait new)) queue.rows ∙ with_row-last counter session waits low given;
      given = subst (λ (o : Option ℕ). AllByRecursion (IsGivenOut o) (waits ++ new ∷ [])) (sym more)
          (all-push (IsGivenOut (Some (counter + 1))) waits new (all-weaker (IsGivenOut (Some counter)) (IsGivenOut (Some (counter + 1))) (λ w low_w. omega arith) waits given) (omega arith));
      once = rises-push waits new (others-by session waits absent) queue.once;
    }

-- what is known of an accepted join
pub record Joins (t : TreeState) (session : ℕ) (dir : List ℕ) (waits : List Wait) : Type 0 where
  pub counter : ℕ
  pub gives : counter_at t dir ≡ Some counter
  pub queue : IsQueue (after_create t session (wait_path dir) [] EphemeralSequential) dir (waits ++ record { number = counter; session = session } ∷ [])

pub Joins-accepted : (t : TreeState) (session : ℕ) (dir made : List ℕ) (waits : List Wait) → is_path dir ≡ true → IsWhole t.nodes → IsQueue t dir waits → is_in (queue_at t dir) session ≡ false → join_answer t session dir ≡ Ok made → Joins t session dir waits
Joins-accepted t session dir made waits is whole queue none answer =
    let may = child_answer-passed t dir (name_of (wait_path dir)) [] EphemeralSequential made (child-line t session (wait_path dir) dir [] made EphemeralSequential (above-wait dir is) answer) in
    let counter : ℕ = may.parent.facts.counter in
    let gives : counter_at t dir ≡ Some counter = ap (option_map (λ (n : Node). n.facts.counter)) may.found in
    let shows = creates-show t session (wait_path dir) dir [] made EphemeralSequential counter whole (is_path-wait dir is) (above-wait dir is) gives answer in
    let low : counter ≤ 2147483647 = leb-true counter 2147483647 may.counter in
    let u : TreeState = after_create t session (wait_path dir) [] EphemeralSequential in
    record {
      counter = counter;
      gives = gives;
      queue = IsQueue-created t u dir counter session waits low gives queue none
          (subst (λ (name : List ℕ). Creates EphemeralSequential dir (row_given EphemeralSequential counter session name []) t u) (name-wait dir is) shows);
    }

-- the queue is one session longer
pub queue-joined : (t : TreeState) (session : ℕ) (dir : List ℕ) (waits : List Wait) → IsQueue t dir waits → Joins t session dir waits → queue_at (after_create t session (wait_path dir) [] EphemeralSequential) dir ≡ queue_at t dir ++ session ∷ []
queue-joined t session dir waits queue joins =
    let new : Wait = record { number = joins.counter; session = session } in
    queue-waits (after_create t session (wait_path dir) [] EphemeralSequential) dir (waits ++ new ∷ []) joins.queue
    ∙ map-append (λ (w : Wait). w.session) waits (new ∷ []) ∙ sym (ap (λ (q : List ℕ). q ++ session ∷ []) (queue-waits t dir waits queue))
