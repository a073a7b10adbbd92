-- a text that is appended in parts
use Rattle.np_explain_lines.proofs.Prelude.{Err, List, Ok, OnOk, Result, ap, append_assoc, ℕ, ◌++◌, ◌∙◌, ◌≡◌}

-- one part, and then one that may fail
pub then_more : {A E : Type 0} (r : Result A E) (old mid new first more : List ℕ) → mid ≡ old ++ first → OnOk r (new ≡ mid ++ more) → OnOk r (new ≡ old ++ (first ++ more))
then_more (Ok done) old mid new first more begun put = put ∙ ap (λ (text : List ℕ). text ++ more) begun ∙ append_assoc old first more
then_more (Err fault) old mid new first more begun put = tt

pub then_two : {A E : Type 0} (r : Result A E) (old one two new a b more : List ℕ) → one ≡ old ++ a → two ≡ one ++ b → OnOk r (new ≡ two ++ more) → OnOk r (new ≡ old ++ ((a ++ b) ++ more))
then_two r old one two new a b more first second put = then_more r old two new (a ++ b) more (second ∙ ap (λ (text : List ℕ). text ++ b) first ∙ append_assoc old a b) put
