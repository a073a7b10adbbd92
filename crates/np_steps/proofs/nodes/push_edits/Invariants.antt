use Rattle.np_steps.proofs.Prelude.{drop, each_changed, edited_entry, ◌++◌, ◌≡◌}
use Rattle.np_steps.proofs.nodes.push_edits.Given as goal

abbrev pub invariant-loop-node : goal.invariant-loop-node
invariant-loop-node g l =
    l.ops.items ++ each_changed (edited_entry l.edit) (drop l.node-index l.nodes) (g.R.Rows.state l.rows).nodes
    ≡ l.fn.ops.items ++ each_changed (edited_entry l.edit) l.nodes (g.R.Rows.state l.rows).nodes
