use Rattle.np_causes.proofs.Prelude.{Option, RequestView, Some, Thing, ap, if_near, request_seen, request_view, sym, ◌∙◌}
use Rattle.np_causes.proofs.NearViews.{near_named}
use Rattle.np_causes.proofs.Places.{seen_at}
use Rattle.np_causes.proofs.near.request_near.Goals as goal

pub returns-in-Some : goal.returns-in-Some
returns-in-Some g c =
    let site = g.R.Rows.site c.args.rows.now in
    let state = g.R.Rows.state c.args.rows.now in
    ap (λ (o : Option Thing). Some o) c.if_near.ensures
    ∙ sym (seen_at request_view (if_near site state c.args.pool) (λ (v : RequestView). if_near site state c.args.pool (request_seen v)) (near_named site state c.args.pool)
    state.requests c.args.at (Some c.in-Some.view) c.in-Some.ensures)
