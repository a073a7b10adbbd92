use Rattle.np_spelling.proofs.Prelude.{digits, drop, ◌≡◌, ◌≤◌}
use Rattle.np_spelling.proofs.cursor.count_digits.Given as goal

abbrev pub invariant-loop-at : goal.invariant-loop-at
invariant-loop-at l = (digits l.max l.value (drop l.at l.text) ≡ digits l.max l.start l.text) × (l.value ≤ l.max)
