use Rattle.np_index.proofs.Prelude.{Group, ap, ids_in, length, nat_lt, ℕ, ◌∙◌}
use Rattle.np_index.proofs.Nodes.{some-spent}
use Rattle.np_index.proofs.label.has_spent_min_ready.Goals as goal

pub returns : goal.returns
returns c site state are =
    ap (λ (n : ℕ). nat_lt 0 n) (c.requests_in.ensures ∙ ap (λ (g : Group). length (ids_in g c.args.classes.now.requests)) c.spent_group.ensures)
    ∙ some-spent site state c.args.classes.now are c.args.pool c.args.label
