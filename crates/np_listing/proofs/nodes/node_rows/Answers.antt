use Rattle.np_listing.proofs.Prelude.{Configuration, ap, node_row, node_rows, node_view, sym, ℕ, ◌∙◌, ◌≡◌}
use Rattle.np_listing.proofs.Walks.{put}
use Rattle.np_listing.proofs.nodes.node_rows.Goals as goal

pub loop-at-preserved : goal.loop-at-preserved
loop-at-preserved g c =
    let site = g.R.Rows.site c.args.rows.now in
    let state = g.R.Rows.state c.args.rows.now in
    let view = c.in-Some.view in
    let made : c.in_ok-node_row.field-0 ≡ node_row site state.tick view =
    c.in_ok-node_row.ensures
    ∙ ap (λ (config : Configuration). node_row config c.tick.result view) c.config.ensures
    ∙ ap (λ (tick : ℕ). node_row site tick view) c.tick.ensures in
    put node_view (node_row site state.tick) state.nodes c.loop-at.at view c.in_ok-node_row.field-0 c.loop-at.table.items c.push-in-loop-at.new.self.items
    (node_rows site state) (sym c.in-Some.ensures) made c.in_ok-push-2.ensures.items c.loop-at.invariant
