use Rattle.np_listing.proofs.Prelude.{Configuration, ap, request_row, request_rows, request_view, sym, ◌∙◌, ◌≡◌}
use Rattle.np_listing.proofs.Walks.{put}
use Rattle.np_listing.proofs.requests.request_rows.Goals as goal

pub loop-at-preserved : goal.loop-at-preserved
loop-at-preserved g c =
    let site = g.R.Rows.site c.args.rows.now in
    let state = g.R.Rows.state c.args.rows.now in
    let view = c.in-Some.view in
    let made : c.in_ok-request_row.field-0 ≡ request_row site view =
    c.in_ok-request_row.ensures ∙ ap (λ (config : Configuration). request_row config view) c.config.ensures in
    put request_view (request_row site) state.requests c.loop-at.at view c.in_ok-request_row.field-0 c.loop-at.table.items c.push-in-loop-at.new.self.items
    (request_rows site state) (sym c.in-Some.ensures) made c.in_ok-push-2.ensures.items c.loop-at.invariant
