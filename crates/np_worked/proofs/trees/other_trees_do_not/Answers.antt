use Rattle.np_worked.proofs.Prelude.{Bool, List, None, Option, Row, Some, bytes_eq, codes, digits, false, list_any, not, path_of, refl, refute, request_text_of, sym, ten_digits_of, true, ℕ, [], ◌==◌, ◌∷◌}
use Rattle.np_worked.proofs.trees.other_trees_do_not.Goals as goal

abbrev is_named_owner : ℕ → Option ℕ → Bool
is_named_owner session None = false
is_named_owner session (Some other) = other == session

abbrev is_owner_of : ℕ → Row → Bool
is_owner_of session row = is_named_owner session row.owner

-- at least two
abbrev are_several : {A : Type 0} → List A → Bool
are_several [] = false
are_several (a ∷ []) = false
are_several (a ∷ b ∷ list) = true

abbrev is_there : {A : Type 0} → List A → Bool
is_there [] = false
is_there (a ∷ list) = true

pub returns-clause-tick : goal.returns-clause-tick
unfolding path_of ten_digits_of request_text_of digits
returns-clause-tick c = λ lays. refute (λ rows. list_any (λ row. bytes_eq row.bytes (codes "13")) rows) lays.frame.poolsim refl refl

pub returns-clause-holder : goal.returns-clause-holder
unfolding path_of ten_digits_of request_text_of digits
returns-clause-holder c = λ lays. refute (is_owner_of 4) lays.request_locks.queues.0.waits.0.is refl refl

pub returns-clause-ended : goal.returns-clause-ended
unfolding path_of ten_digits_of request_text_of digits
returns-clause-ended c = λ lays. refute (λ flags. list_any (λ flag. not flag) flags) (sym lays.live.each) refl refl

pub returns-clause-lock : goal.returns-clause-lock
unfolding path_of ten_digits_of request_text_of digits
returns-clause-lock c = λ lays. refute are_several lays.request_locks.rows refl refl

pub returns-clause-below : goal.returns-clause-below
unfolding path_of ten_digits_of request_text_of digits
returns-clause-below c = λ lays. refute is_there lays.swept.leaves.1.0 refl refl
