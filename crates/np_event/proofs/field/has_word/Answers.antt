use Rattle.np_event.proofs.Prelude.{arith, rules}
use Rattle.np_event.proofs.field.has_word.Goals as goal

pub returns-in-Pool : goal.returns-in-Pool
returns-in-Pool c = rw c.in-Pool.is (λ _. omega arith, λ _. search rules)
