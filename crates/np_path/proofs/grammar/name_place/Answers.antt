use Rattle.np_path.proofs.Prelude.{arith, false, sym, true}
use Rattle.np_path.proofs.Walk.{IsWalked-slash, IsWalked-kept, fault-dots, fault-control, fault-last, IsNameAt-walked}
use Rattle.np_path.proofs.grammar.name_place.Goals.{then-byte-eq47+else-is_dots, else-byte-eq47+else-is_control}
use Rattle.np_path.proofs.grammar.name_place.Goals as goal

pub returns-then-is_dots-clause-fault : goal.returns-then-is_dots-clause-fault
returns-then-is_dots-clause-fault c = sym (fault-dots _ _ _ c.loop-at.invariant c.loop-at-test.true c.if-byte-eq47.true (sym c.if-is_dots.ensures))

pub returns-then-is_control-clause-fault : goal.returns-then-is_control-clause-fault
returns-then-is_control-clause-fault c = sym (fault-control _ _ _ c.loop-at.invariant c.loop-at-test.true (sym c.if-is_control.ensures))

pub loop-at-preserved : goal.loop-at-preserved
loop-at-preserved c = elim c.if-byte-eq47.branch [
  | then-byte-eq47+else-is_dots w ↦ rw w.start-is (IsWalked-slash _ _ _ c.loop-at.invariant c.loop-at-test.true w.if-byte-eq47.true (sym w.if-is_dots.ensures))
  | else-byte-eq47+else-is_control w ↦ rw w.start-is (IsWalked-kept _ _ _ c.loop-at.invariant w.if-byte-eq47.false (sym w.if-is_control.ensures))
]

pub returns-then-is_dots-2-clause-fault : goal.returns-then-is_dots-2-clause-fault
returns-then-is_dots-2-clause-fault c = sym (fault-last c.args.text.now c.loop-at.start c.loop-at.at true c.loop-at.invariant (omega arith) (sym c.if-is_dots-2.ensures))

pub returns-clause-fault : goal.returns-clause-fault
returns-clause-fault c = sym (fault-last c.args.text.now c.loop-at.start c.loop-at.at false c.loop-at.invariant (omega arith) (sym c.if-is_dots-2.ensures))

pub returns-clause-name : goal.returns-clause-name
returns-clause-name c = IsNameAt-walked c.args.text.now c.loop-at.start c.loop-at.at c.loop-at.invariant (omega arith) (sym c.if-is_dots-2.ensures)
