use Rattle.np_text.proofs.Prelude.{arith, ◌∙◌}
use Rattle.np_text.proofs.NumberLemmas.{last_digits-end, padded-filled}
use Rattle.np_text.proofs.number.fill_digits.Goals as goal

pub returns : goal.returns
returns c = last_digits-end _ _ _ _ c.loop-at.invariant (omega arith) ∙ padded-filled _ _ c.requires.some c.requires.room (omega arith)
