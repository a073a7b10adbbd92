use Rattle.np_report.proofs.Prelude.{drop, length, lines_of, lines_read, ◌+◌, ◌-◌, ◌<◌, ◌^◌, ◌≡◌, ◌≤◌}
use Rattle.np_report.proofs.PlayedLemmas.{read_before}
use Rattle.np_report.proofs.lines.read_lines.Given as goal

-- what the lines so far say, before what is left says, is what the whole text says
abbrev pub invariant-loop-start : goal.invariant-loop-start
invariant-loop-start g l = record {
  within : l.from ≤ length l.text;
  room : l.most < 2 ^ 32 - 1;
  number : l.line ≤ l.most + 1;
  said : read_before l.read.items (lines_read g.L.FromLine.said l.most l.line (lines_of (drop l.from l.text))) ≡ lines_read g.L.FromLine.said l.most 1 (lines_of l.text);
}

abbrev pub decreases-loop-start : goal.decreases-loop-start
decreases-loop-start g l = length l.text - l.from
