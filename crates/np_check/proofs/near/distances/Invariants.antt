use Rattle.np_check.proofs.Prelude.{distance, map, take, ◌≡◌}
use Rattle.np_check.proofs.near.distances.Given as goal

abbrev pub invariant-loop-key : goal.invariant-loop-key
invariant-loop-key l = l.found.items ≡ map (λ k. distance l.word k.now) (take l.key-index l.keys)
