use Rattle.np_io.proofs.Prelude.{◌≡◌}
use Rattle.np_io.proofs.draws.Draws.scramble.Given as goal

abbrev pub invariant-loop-byte : goal.invariant-loop-byte
invariant-loop-byte l = l.self.pick ≡ l.fn.self.pick
