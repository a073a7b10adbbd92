use Rattle.np_io.proofs.Prelude.{arith, length-drop}
use Rattle.np_io.proofs.BytesLemmas.{Appends-next}
use Rattle.np_io.proofs.whole.write_all.Goals as goal

pub loop-written-preserved : goal.loop-written-preserved
loop-written-preserved g c = record {
  within = omega (arith, length-drop c.loop-written.written c.args.bytes.now, c.in_ok-written.ensures.bound);
  out = Appends-next _ _ _ _ _ _ c.loop-written.invariant.out c.in_ok-written.ensures.written;
  later = omega (arith, c.loop-written.invariant.later, c.in_ok-written.ensures.later);
}
