use Rattle.np_index.proofs.Prelude.{◌∙◌}
use Rattle.np_index.proofs.Requests.{under-way}
use Rattle.np_index.proofs.pool.has_under_way.Goals as goal

pub returns : goal.returns
returns c site state are =
    c.is_some.ensures
    ∙ under-way c.args.pool c.args.is_pinned c.label_group-first.result c.label_group-first.ensures c.request_group_from.result c.label_if.result c.label_if.ensures
    site state c.args.classes.now are c.request_group_from.ensures
