use Rattle.np_io.proofs.Prelude.{IfSome, Stays, drop, length, take, ◌-◌, ◌≡◌, ◌≤◌}
use Rattle.np_io.proofs.whole_disk.read_full.Given as goal

-- the front of the buffer has the file's next bytes
abbrev pub invariant-loop-done : goal.invariant-loop-done
invariant-loop-done g l = record {
  within : l.done ≤ length l.buf;
  same_length : length l.buf ≡ length l.fn.buf;
  read : IfSome (g.D.Disk.facts l.fn.disk).now (λ file. take l.done l.buf ≡ take l.done (drop l.at file));
  stays : Stays (g.D.Disk.facts l.fn.disk) (g.D.Disk.facts l.disk);
  later : (g.D.Disk.facts l.fn.disk).faults ≤ (g.D.Disk.facts l.disk).faults;
}

abbrev pub decreases-loop-done : goal.decreases-loop-done
decreases-loop-done g l = length l.initial.buf - l.done
