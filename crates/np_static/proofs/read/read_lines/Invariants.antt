use Rattle.np_static.proofs.Prelude.{drop, host_said, length, lines_of, lines_read, read_before, ◌-◌, ◌≡◌, ◌≤◌}
use Rattle.np_static.proofs.read.read_lines.Given as goal

-- what the lines so far say, before what is left says, is what the whole text says
abbrev pub invariant-loop-start : goal.invariant-loop-start
invariant-loop-start l = record {
  within : l.from ≤ length l.bytes;
  number : l.line ≤ 1025;
  said : read_before l.read.items (lines_read (host_said l.pools) 1024 l.line (lines_of (drop l.from l.bytes))) ≡ lines_read (host_said l.pools) 1024 1 (lines_of l.bytes);
}

abbrev pub decreases-loop-start : goal.decreases-loop-start
decreases-loop-start l = length l.bytes - l.from
