use Rattle.np_causes.proofs.Prelude.{RequestView, add-one, arith, cond, count_here, is_near, request_seen, request_view, sym, ◌≡◌}
use Rattle.np_causes.proofs.NearViews.{near_seen}
use Rattle.np_causes.proofs.near.requests_near.Goals as goal

pub loop-at-preserved : goal.loop-at-preserved
loop-at-preserved g c =
    let site = g.R.Rows.site c.args.rows.now in
    let state = g.R.Rows.state c.args.rows.now in
    let step =
    count_here (λ (v : RequestView). is_near site state c.args.pool (request_seen v)) request_view (is_near site state c.args.pool) (near_seen site state c.args.pool)
    state.requests c.loop-at.at c.in-Some.view (sym c.in-Some.ensures) in
    let here : c.one_if-count.result ≡ cond (is_near site state c.args.pool (request_seen c.in-Some.view)) 1 0 = cc in
    record {
      few = omega (arith, c.one_if-count.ensures.few, c.loop-at.invariant.few);
      all = rw add-one (omega (arith, step, here, c.loop-at.invariant.all));
    }
