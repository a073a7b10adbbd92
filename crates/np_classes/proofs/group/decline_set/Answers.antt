use Rattle.np_classes.proofs.Prelude.{arith, sym, ◌-◌}
use Rattle.np_classes.proofs.MemberLemmas.{digits-none, digits-room, digits-down}
use Rattle.np_classes.proofs.group.decline_set.Goals as goal

pub loop-left-init : goal.loop-left-init
loop-left-init c = record { few = omega arith; set = sym (digits-none c.args.declined.now 64) }

pub overflow_mul-set : goal.overflow_mul-set
overflow_mul-set c = omega (arith, digits-room c.args.declined.now c.loop-left.left (64 - c.loop-left.left) c.loop-left.set (omega arith) c.loop-left.invariant.set)

pub overflow_add-set : goal.overflow_add-set
overflow_add-set c =
    omega (arith, c.decline_digit.ensures.few, digits-room c.args.declined.now c.loop-left.left (64 - c.loop-left.left) c.loop-left.set (omega arith) c.loop-left.invariant.set)

pub loop-left-preserved : goal.loop-left-preserved
loop-left-preserved c = record {
  few = omega arith;
  set =
      digits-down c.args.declined.now (c.loop-left.left - 1) c.loop-left.left (64 - c.loop-left.left) (64 - (c.loop-left.left - 1)) c.loop-left.set c.decline_digit.result
      (omega arith) (omega arith) c.loop-left.invariant.set c.decline_digit.ensures.digit;
}
