use Rattle.np_index.proofs.Prelude.{Group, ap, ids_in, slice_get, ◌∙◌}
use Rattle.np_index.proofs.Nodes.{spare-at}
use Rattle.np_index.proofs.pool.free_ready.Goals as goal

pub returns : goal.returns
returns c site state are =
    c.node_at.ensures ∙ ap (λ (g : Group). slice_get (ids_in g c.args.classes.now.nodes) c.args.at) c.spare_group.ensures
    ∙ spare-at site state c.args.classes.now are c.args.pool c.args.label c.args.at
