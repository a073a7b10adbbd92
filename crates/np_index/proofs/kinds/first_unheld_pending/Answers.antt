use Rattle.np_index.proofs.Prelude.{Group, ap, ids_in, slice_get, ◌∙◌}
use Rattle.np_index.proofs.Nodes.{first-unheld}
use Rattle.np_index.proofs.kinds.first_unheld_pending.Goals as goal

pub returns : goal.returns
returns c site state are =
    c.request_at.ensures ∙ ap (λ (g : Group). slice_get (ids_in g c.args.classes.now.requests) 0) c.unheld_pending_group.ensures
    ∙ first-unheld site state c.args.classes.now are c.args.pool
