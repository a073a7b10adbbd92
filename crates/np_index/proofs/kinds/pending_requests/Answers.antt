use Rattle.np_index.proofs.Prelude.{Group, List, RequestId, ap, ids_in, length, ◌∙◌}
use Rattle.np_index.proofs.Nodes.{pending-ids}
use Rattle.np_index.proofs.kinds.pending_requests.Goals as goal

pub returns : goal.returns
returns c site state are =
    c.requests_in.ensures ∙ ap (λ (g : Group). length (ids_in g c.args.classes.now.requests)) c.pending_group.ensures
    ∙ ap (λ (ids : List RequestId). length ids) (pending-ids site state c.args.classes.now are c.args.pool)
