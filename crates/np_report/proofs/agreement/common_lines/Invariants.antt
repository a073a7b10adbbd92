use Rattle.np_report.proofs.Prelude.{common_lines, drop, ◌+◌, ◌≡◌}
use Rattle.np_report.proofs.agreement.common_lines.Given as goal

-- the lines so far, and those that are left, are all
abbrev pub invariant-loop-at : goal.invariant-loop-at
invariant-loop-at l = l.count + common_lines (drop l.at l.text) (drop l.at l.other) ≡ common_lines l.text l.other
