use Rattle.np_explain.proofs.Prelude.{declined_line, drop, flat_map, ◌++◌, ◌≡◌}
use Rattle.np_explain.proofs.fails.put_record.Given as goal

abbrev pub invariant-loop-declined : goal.invariant-loop-declined
invariant-loop-declined l = l.out.items ++ flat_map (declined_line l.config l.request) (drop l.declined-index l.declines) ≡ l.fn.out.items ++ flat_map (declined_line l.config l.request) l.declines
