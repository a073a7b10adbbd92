use Rattle.np_text.proofs.Prelude.{drop, length, ◌++◌, ◌≡◌}
use Rattle.np_text.proofs.NumberLemmas.{last_digits}
use Rattle.np_text.proofs.number.fill_digits.Given as goal

abbrev pub invariant-loop-at : goal.invariant-loop-at
invariant-loop-at l = last_digits l.at l.rest ++ drop l.at l.out ≡ last_digits (length l.fn.out) l.n
