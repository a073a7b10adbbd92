use Rattle.np_tables.proofs.Prelude.{all_in_use, drop, ◌≡◌}
use Rattle.np_tables.proofs.settle.take_over.Given as goal

abbrev pub invariant-loop-node : goal.invariant-loop-node
invariant-loop-node l = all_in_use l.tick (drop l.node-index l.numbers) l.nodes.rows ≡ all_in_use l.tick l.numbers l.initial.nodes.rows
