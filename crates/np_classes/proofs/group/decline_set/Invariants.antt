use Rattle.np_classes.proofs.Prelude.{decline_digits, ◌-◌, ◌≡◌, ◌≤◌}
use Rattle.np_classes.proofs.group.decline_set.Given as goal

abbrev pub invariant-loop-left : goal.invariant-loop-left
invariant-loop-left l = record {
  few : l.left ≤ 64;
  set : l.set ≡ decline_digits l.declined l.left (64 - l.left);
}

abbrev pub decreases-loop-left : goal.decreases-loop-left
decreases-loop-left l = l.left
