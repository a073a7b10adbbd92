-- Words read back.
use Rattle.np_text.proofs.Prelude.{AreWords, Bool, List, Option, Some, ap, arith, bytes_eq, bytes_eq-Decides, cond, end_as_of, end_as_word, ending_of, ending_word, endings, ends, false, find, node_state_of, node_state_word, node_states, phase_of, phase_word, phases, refl, request_state_of, request_state_word, request_states, role_kind_of, role_kind_word, role_kinds, sym, true, ℕ, [], ◌∙◌, ◌∷◌, ◌≡◌}
use Rattle.np_text.proofs.SpellingLemmas.{some_injective}

-- if a value is found for a text, the text is its word
find-word : {X : Type 0} (word : X → List ℕ) (xs : List X) (x : X) (text : List ℕ) → find (λ y. bytes_eq text (word y)) xs ≡ Some x → word x ≡ text
find-word word [] x text is = absurd (cc)
find-word {X = X} word (y ∷ ys) x text is = cases (bytes_eq text (word y)) refl is (find-word word ys x text)
  where
    cases : (b : Bool) → bytes_eq text (word y) ≡ b → cond {A = Option X} b (Some y) (find (λ y. bytes_eq text (word y)) ys) ≡ Some x
        → (find (λ y. bytes_eq text (word y)) ys ≡ Some x → word x ≡ text) → word x ≡ text
    cases true here is rest = sym ((bytes_eq-Decides text (word y)).0 here ∙ ap word (some_injective y x is))
    cases false here is rest = rest is

-- values have their words if each is found by its word
AreWords-found : {X : Type 0} (word : X → List ℕ) (xs : List X) → ((x : X) → find (λ y. bytes_eq (word x) (word y)) xs ≡ Some x)
    → AreWords word (λ text. find (λ y. bytes_eq text (word y)) xs)
AreWords-found word xs again = record { reads_back = again; spelled = find-word word xs }

pub request_state_words : AreWords request_state_word request_state_of
request_state_words = AreWords-found request_state_word request_states (λ x. grind arith)

pub node_state_words : AreWords node_state_word node_state_of
node_state_words = AreWords-found node_state_word node_states (λ x. grind arith)

pub end_as_words : AreWords end_as_word end_as_of
end_as_words = AreWords-found end_as_word ends (λ x. grind arith)

pub phase_words : AreWords phase_word phase_of
phase_words = AreWords-found phase_word phases (λ x. grind arith)

pub ending_words : AreWords ending_word ending_of
ending_words = AreWords-found ending_word endings (λ x. grind arith)

pub role_kind_words : AreWords role_kind_word role_kind_of
role_kind_words = AreWords-found role_kind_word role_kinds (λ x. grind arith)
