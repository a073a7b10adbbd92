use Rattle.np_desk.specs.Step.{IsOf}
use Rattle.np_keep_tests.proofs.crowds.take_turns.Given as goal

abbrev pub invariant-loop-turn : goal.invariant-loop-turn
invariant-loop-turn g l = record {
  own : IsOf l.pass l.desk;
}
