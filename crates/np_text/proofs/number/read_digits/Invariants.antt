use Rattle.np_text.proofs.Prelude.{digits_within, drop, ◌≡◌}
use Rattle.np_text.proofs.NumberLemmas.{digits_from}
use Rattle.np_text.proofs.number.read_digits.Given as goal

abbrev pub invariant-loop-byte : goal.invariant-loop-byte
invariant-loop-byte l = digits_from l.max l.value (drop l.byte-index l.text) ≡ digits_within l.max l.text
