use Rattle.np_gen.proofs.Prelude.{after_draws, ◌≡◌}
use Rattle.np_gen.proofs.draw.after_draws.Given as goal

abbrev pub invariant-loop : goal.invariant-loop
invariant-loop l = l.current ≡ after_draws l.counter l.state
