use Rattle.np_tree_rows.proofs.Prelude.{SiteState, ap, decoded, ◌∙◌}
use Rattle.np_tree_rows.proofs.tree_rows.TreeRowsRows.next_request.Goals as goal

pub returns : goal.returns
returns c =
    c.next_request.ensures c.self.inside.config.now (decoded c.self.inside.config.now c.self.inside.tree.now) c.self.invariant.stored
    ∙ ap (λ (k : SiteState). k.state.next_request) c.self.view_is
