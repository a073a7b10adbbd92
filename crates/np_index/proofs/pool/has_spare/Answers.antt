use Rattle.np_index.proofs.Prelude.{Group, ap, ids_in, length, nat_lt, ℕ, ◌∙◌}
use Rattle.np_index.proofs.Nodes.{some-spare}
use Rattle.np_index.proofs.pool.has_spare.Goals as goal

pub returns : goal.returns
returns c site state are =
    ap (λ (n : ℕ). nat_lt 0 n) (c.nodes_in.ensures ∙ ap (λ (g : Group). length (ids_in g c.args.classes.now.nodes)) c.spare_group.ensures)
    ∙ some-spare site state c.args.classes.now are c.args.pool c.args.label
