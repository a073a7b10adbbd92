use Rattle.np_event.proofs.Prelude.{ap, is_space, length-slice_split, sym, ℕ, ◌+◌, ◌∙◌}
use Rattle.np_event.proofs.words.count_words.Goals as goal

pub returns-in-Some : goal.returns-in-Some
returns-in-Some c = rw c.in-Some.is (ap (λ (n : ℕ). n + 1) c.count_spaces.ensures ∙ sym (length-slice_split is_space c.in-Some.text.now))
