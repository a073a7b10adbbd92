-- a machine that began before the first event
use Rattle.np_rules.proofs.Prelude.{Configuration, Entry, Event, List, Ran, Runs, RunsOn, State, answer_after, answer_of, applied, applied_after, arith, length, refl, ℕ, [], ◌+◌, ◌∙◌, ◌∷◌, ◌≡◌}

none-before : (before : List Entry) → length before ≡ 0 → before ≡ []
none-before [] is = refl
none-before (e ∷ before) is = absurd (let none : length (e ∷ before) ≡ 0 = is in omega arith)

-- its journal is a run of its own
pub Runs-first : (c : Configuration) (earlier : ℕ) (journal : List Entry) (s : State) → earlier ≡ 0 → RunsOn c earlier journal s → Runs c journal s
Runs-first c earlier journal s first on = rw (none-before on.before (on.many ∙ first)) at on.runs

-- and it replies as its journal alone says
pub answer-first : (earlier : ℕ) (m : Ran) (e : Event) → earlier ≡ 0 → answer_after earlier m e ≡ answer_of m e
answer-first earlier m e first = let same : earlier + length m.journal ≡ length m.journal = omega (arith, first) in rw same refl

pub applied-first : (earlier : ℕ) (m : Ran) (e : Event) → earlier ≡ 0 → applied_after earlier m e ≡ applied m e
applied-first earlier m e first = let same : earlier + length m.journal ≡ length m.journal = omega (arith, first) in rw same refl
