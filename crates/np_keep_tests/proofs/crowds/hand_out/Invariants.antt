use Rattle.std.proofs.Common.{All}
use Rattle.np_desk.specs.Step.{IsOf}
use Rattle.np_keep_tests.proofs.crowds.hand_out.Given as goal

abbrev pub invariant-loop-thread : goal.invariant-loop-thread
invariant-loop-thread l = record {
  own : IsOf l.pass l.desk;
  all : All (λ p. IsOf p l.desk) l.passes.items;
}
