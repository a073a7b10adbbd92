-- the place of a session in a queue
use Rattle.np_lock.proofs.Prelude.{Bool, Err, Leaves, List, LockFault, None, Option, Releases, Some, ahead_in, ap, arith, cond, drop, drop-past, drop-there, drop_all, false, filter-not_none, first_of, is_in, is_owner, length, list_any, none-list_any, past-end, position_from, position_from-zero, refl, slice_get, suc, sym, true, without, ℕ, [], ◌+◌, ◌==◌, ◌∙◌, ◌∷◌, ◌≡◌, ◌≤◌}
use Rattle.np_lock.specs.declared.answer.LockFault.TheVariants.{NoMemory, Refused}

abbrev pub is_session : ℕ → ℕ → Bool
is_session session s = s == session

-- the rest of the queue, from a place on, decides where the session is
abbrev pub IsAsked : ℕ → List ℕ → ℕ → Type 0
IsAsked session queue at = ahead_in queue session ≡ position_from (is_session session) at (drop at queue)

pub IsAsked-none : (session : ℕ) (queue : List ℕ) → IsAsked session queue 0
IsAsked-none session queue = position_from-zero (is_session session) queue

-- the session at the place is that one
here-by : (session : ℕ) (queue : List ℕ) (at : ℕ) (o : Option ℕ) → slice_get queue at ≡ o → is_owner session o ≡ true → IsAsked session queue at → ahead_in queue session ≡ Some at
here-by session queue at None there is asked = absurd cc
here-by session queue at (Some s) there is asked =
    asked ∙ ap (position_from (is_session session) at) (drop-there queue at s there)
    ∙ ap (λ (b : Bool). cond b (Some at) (position_from (is_session session) (at + 1) (drop (suc at) queue))) is

pub ahead-here : (session : ℕ) (queue : List ℕ) (at : ℕ) → is_owner session (slice_get queue at) ≡ true → IsAsked session queue at → ahead_in queue session ≡ Some at
ahead-here session queue at is asked = here-by session queue at (slice_get queue at) refl is asked

-- or it is not
more-by : (session : ℕ) (queue : List ℕ) (at : ℕ) (o : Option ℕ) → slice_get queue at ≡ o → is_owner session o ≡ false → IsAsked session queue at → ahead_in queue session ≡ position_from (is_session session) (at + 1) (drop (suc at) queue)
more-by session queue at None there is asked =
    asked ∙ ap (position_from (is_session session) at) (drop-past queue at there)
    ∙ sym (ap (position_from (is_session session) (at + 1)) (drop_all (suc at) queue (omega (arith, past-end queue at there))))
more-by session queue at (Some s) there is asked =
    asked ∙ ap (position_from (is_session session) at) (drop-there queue at s there)
    ∙ ap (λ (b : Bool). cond b (Some at) (position_from (is_session session) (at + 1) (drop (suc at) queue))) is

pub IsAsked-more : (session : ℕ) (queue : List ℕ) (at : ℕ) → is_owner session (slice_get queue at) ≡ false → IsAsked session queue at → IsAsked session queue (at + 1)
IsAsked-more session queue at is asked =
    let next : suc at ≡ at + 1 = omega arith in
    more-by session queue at (slice_get queue at) refl is asked ∙ ap (λ (k : ℕ). position_from (is_session session) (at + 1) (drop k queue)) next

pub ahead-none : (session : ℕ) (queue : List ℕ) (at : ℕ) → length queue ≤ at → IsAsked session queue at → ahead_in queue session ≡ None
ahead-none session queue at past asked = asked ∙ ap (position_from (is_session session) at) (drop_all at queue past)

-- ## whether a session is there

any-some : (p : ℕ → Bool) (xs : List ℕ) (i at : ℕ) → position_from p i xs ≡ Some at → list_any p xs ≡ true
any-some p [] i at is = absurd cc
any-some p (x ∷ xs) i at is = grind (arith, any-some p xs (i + 1) at)

any-none : (p : ℕ → Bool) (xs : List ℕ) (i : ℕ) → position_from p i xs ≡ None → list_any p xs ≡ false
any-none p [] i is = refl
any-none p (x ∷ xs) i is = grind (arith, any-none p xs (i + 1))

pub there-some : (queue : List ℕ) (session at : ℕ) → ahead_in queue session ≡ Some at → is_in queue session ≡ true
there-some queue session at is = any-some (is_session session) queue 0 at (sym (IsAsked-none session queue) ∙ is)

pub there-none : (queue : List ℕ) (session : ℕ) → ahead_in queue session ≡ None → is_in queue session ≡ false
there-none queue session is = any-none (is_session session) queue 0 (sym (IsAsked-none session queue) ∙ is)

-- ## the first

pub nobody : (queue : List ℕ) (session : ℕ) → first_of queue ≡ None → is_in queue session ≡ false
nobody [] session is = refl
nobody (s ∷ queue) session is = absurd cc

-- ## a session that is not there

pub without-none : (queue : List ℕ) (session : ℕ) → is_in queue session ≡ false → queue ≡ without queue session
without-none queue session none = sym (filter-not_none (is_session session) queue (none-list_any (is_session session) queue none))

-- the answer to a session that leaves
pub leaves-answer : (changes : ℕ) (fault : LockFault) → Leaves changes (Err fault) → Releases true changes (Err fault)
leaves-answer changes (Refused refusal) is = is
leaves-answer changes NoMemory is = tt
