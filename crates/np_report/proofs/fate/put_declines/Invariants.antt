use Rattle.np_report.proofs.Prelude.{decline_text, drop, flat_map, ◌++◌, ◌≡◌}
use Rattle.np_report.proofs.fate.put_declines.Given as goal

abbrev pub invariant-loop-declined : goal.invariant-loop-declined
invariant-loop-declined l = l.out.items ++ flat_map decline_text (drop l.declined-index l.declines) ≡ l.fn.out.items ++ flat_map decline_text l.declines
