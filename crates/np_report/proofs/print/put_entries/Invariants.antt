use Rattle.np_report.proofs.Prelude.{AllByRecursion, IsToldEntry, drop, entry_lines, ◌++◌, ◌≡◌}
use Rattle.np_report.proofs.print.put_entries.Given as goal

abbrev pub invariant-loop-entry : goal.invariant-loop-entry
invariant-loop-entry l = record {
  told : AllByRecursion IsToldEntry (drop l.entry-index l.journal);
  put : l.out.items ++ entry_lines (drop l.entry-index l.journal) ≡ l.fn.out.items ++ entry_lines l.journal;
}
