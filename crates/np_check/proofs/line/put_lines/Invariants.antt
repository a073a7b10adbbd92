use Rattle.np_check.proofs.Prelude.{drop, finding_line, flat_map, ◌++◌, ◌≡◌}
use Rattle.np_check.proofs.line.put_lines.Given as goal

abbrev pub invariant-loop-finding : goal.invariant-loop-finding
invariant-loop-finding l =
    l.out.items ++ flat_map (finding_line l.config) (drop l.finding-index l.findings) ≡ l.fn.out.items ++ flat_map (finding_line l.config) l.findings
