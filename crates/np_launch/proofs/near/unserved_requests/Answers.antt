use Rattle.np_launch.proofs.Prelude.{RequestId, add-one, arith, as_it_is, count_here, is_served_by_sister, not, queued_requests, refl, request_is, sym, ◌≡◌}
use Rattle.np_launch.proofs.Finds.{one}
use Rattle.np_launch.proofs.near.unserved_requests.Goals as goal

pub loop-at-preserved : goal.loop-at-preserved
loop-at-preserved g c =
    let step =
    count_here (λ (r : RequestId). not (request_is r (g.L.Look.state c.args.look.now) (is_served_by_sister (g.L.Look.site c.args.look.now) c.args.pool))) (λ r. r) (λ r. not (request_is r (g.L.Look.state c.args.look.now) (is_served_by_sister (g.L.Look.site c.args.look.now) c.args.pool))) (λ r. refl)
    (queued_requests c.args.session (g.L.Look.state c.args.look.now)) c.loop-at.at c.in-Some.request (as_it_is _ c.in-Some.request (sym c.in-Some.ensures)) in
    let here : c.one_if-count.result ≡ one (not (request_is c.in-Some.request (g.L.Look.state c.args.look.now) (is_served_by_sister (g.L.Look.site c.args.look.now) c.args.pool))) = cc in
    record {
      few = omega (arith, c.one_if-count.ensures.few, c.loop-at.invariant.few);
      all = rw add-one (omega (arith, step, here, c.loop-at.invariant.all));
    }
