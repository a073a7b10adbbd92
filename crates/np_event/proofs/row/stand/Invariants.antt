use Rattle.np_event.proofs.Prelude.{drop, left_of, option_copied, stand, ◌≡◌}
use Rattle.np_event.proofs.row.stand.Given as goal

abbrev pub invariant-loop-kind : goal.invariant-loop-kind
invariant-loop-kind l = stand (drop l.kind-index l.kinds) (left_of (option_copied l.left)) ≡ stand l.kinds (left_of (option_copied l.fn.words))
