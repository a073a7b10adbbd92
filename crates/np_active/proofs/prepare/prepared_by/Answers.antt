use Rattle.np_active.proofs.Prelude.{AllByRecursion, List, NodeId, ap, length, map, node_queue, placed_node, subst, suc, ◌∙◌, ◌≤◌}
use Rattle.np_active.proofs.Changes.{is-prepared}
use Rattle.np_active.proofs.prepare.prepared_by.Goals as goal

pub returns : goal.returns
returns g c =
    is-prepared (g.R.Rows.site c.args.rows.now) (g.R.Rows.state c.args.rows.now) c.args.changes.now c.args.touched.now _ c.requires.touched
    (c.in_ok-past.ensures ∙ ap (λ (nodes : List NodeId). map (placed_node (g.R.Rows.site c.args.rows.now) (g.R.Rows.state c.args.rows.now)) nodes) (c.as_slice.ensures.value ∙ c.in_ok-nodes.ensures))
    (subst (AllByRecursion (λ n. suc (length (node_queue n (g.R.Rows.state c.args.rows.now).nodes)) ≤ _)) (c.as_slice-2.ensures.value ∙ c.in_ok-nodes.ensures) c.most_queued-most.ensures)
