use Rattle.std.proofs.Common.{◌≡◌, true}
use Rattle.np_layout.specs.Prelude.{is_numbered, list_all}
use Rattle.np_low_tests.proofs.trees.adds.Given as goal

abbrev pub invariant-loop-call : goal.invariant-loop-call
invariant-loop-call l = list_all is_numbered l.ops.items ≡ true
