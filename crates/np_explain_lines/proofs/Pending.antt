-- what is to be told, while it grows and shrinks
use Rattle.np_explain_lines.proofs.Prelude.{IsPending, JobId, JobRecord, List, Next, None, Option, Some, State, Thing, ap, arith, cases_lt, false, inl, inr, is_over, length, not, option_map_or, push-places, refl, slice_get, slice_get-left, slice_get-middle, slice_get_within, subst, sym, true, waits, ℕ, [], ⊎_elim, ◌++◌, ◌-◌, ◌<◌, ◌∙◌, ◌∷◌, ◌≡◌, ◌≤◌, ◌⊎◌}

-- ## what is to be told

pub none_pending : (pending : List Next) (it : Thing) → pending ≡ [] → IsPending pending it → ⊥
none_pending pending it none has = let within = slice_get_within pending has.at has.next has.stands in absurd (omega (arith, ap length none))

pub push_stays : (pending : List Next) (n : Next) (it : Thing) → IsPending pending it → IsPending (pending ++ n ∷ []) it
push_stays pending n it has = record { at = has.at; next = has.next; stands = slice_get-left pending [] n has.at (slice_get_within pending has.at has.next has.stands) ∙ has.stands; about = has.about }

pub push_pending : (pending : List Next) (n : Next) (it : Thing) → n.thing ≡ it → IsPending (pending ++ n ∷ []) it
push_pending pending n it is = record { at = length pending; next = n; stands = slice_get-middle pending [] n (length pending) refl; about = is }

pub pushed_alone : (pending : List Next) (n : Next) (it : Thing) → IsPending (pending ++ n ∷ []) it → IsPending pending it ⊎ (n.thing ≡ it)
pushed_alone pending n it has =
    ⊎_elim (λ (there : slice_get pending has.at ≡ Some has.next). inl (record { at = has.at; next = has.next; stands = there; about = has.about }))
    (λ (here : (has.at ≡ length pending) × (has.next ≡ n)). inr (ap (λ (m : Next). m.thing) (sym here.1) ∙ has.about)) (push-places pending n has.at has.next has.stands)

-- a job that waits is one of them
pub waiting_within : (s : State) (j : JobId) → waits s j ≡ true → j.0 < length s.jobs
waiting_within s j is = by (slice_get s.jobs j.0) refl is
  where
    by : (o : Option JobRecord) → slice_get s.jobs j.0 ≡ o → option_map_or (λ kept. not (is_over kept.phase)) o false ≡ true → j.0 < length s.jobs
    by None there is = absurd cc
    by (Some kept) there is = slice_get_within s.jobs j.0 kept there

-- ## numbers, from the last on

-- what holds of the number before, and of each from here on
pub from_more : (P : ℕ → Type 0) (left : ℕ) → 0 < left → P (left - 1) → ((k : ℕ) → left ≤ k → P k) → (k : ℕ) → left - 1 ≤ k → P k
from_more P left some here later k past = ⊎_elim (λ (less : k < left). let same : left - 1 ≡ k = omega arith in subst P same here) (later k) (cases_lt k left)
