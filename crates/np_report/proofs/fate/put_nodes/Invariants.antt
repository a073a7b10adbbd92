use Rattle.np_report.proofs.Prelude.{drop, flat_map, map, node_text, ◌++◌, ◌≡◌}
use Rattle.np_report.proofs.fate.put_nodes.Given as goal

abbrev pub invariant-loop-marked : goal.invariant-loop-marked
invariant-loop-marked l = l.out.items ++ flat_map node_text (map (λ m. m.node) (drop l.marked-index l.nodes)) ≡ l.fn.out.items ++ flat_map node_text (map (λ m. m.node) l.nodes)
