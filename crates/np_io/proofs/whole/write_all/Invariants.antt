use Rattle.np_io.proofs.Prelude.{Appends, length, take, ◌-◌, ◌≤◌}
use Rattle.np_io.proofs.whole.write_all.Given as goal

-- the bytes before `written` are written
abbrev pub invariant-loop-written : goal.invariant-loop-written
invariant-loop-written g l = record {
  within : l.written ≤ length l.bytes;
  out : Appends (g.K.Sink.facts l.fn.sink).written (g.K.Sink.facts l.sink).written (take l.written l.bytes);
  later : (g.K.Sink.facts l.fn.sink).faults ≤ (g.K.Sink.facts l.sink).faults;
}

abbrev pub decreases-loop-written : goal.decreases-loop-written
decreases-loop-written g l = length l.bytes - l.written
