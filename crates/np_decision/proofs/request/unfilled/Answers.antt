use Rattle.np_decision.proofs.Prelude.{add-one, arith, lack_at, length, slice_get, ◌<◌, ◌≡◌}
use Rattle.np_decision.proofs.PlaceLemmas.{unfilled-more}
use Rattle.np_decision.proofs.request.unfilled.Goals as goal

pub loop-at-preserved : goal.loop-at-preserved
loop-at-preserved g c =
    let within : c.loop-at.at < length c.args.asked.now.labels = omega arith in
    let more = unfilled-more c.args.pool c.args.session c.args.request (g.R.Rows.state c.args.rows.now).nodes c.args.asked.now.labels c.args.asked.now.nodes c.loop-at.at within in
    let here : c.lack-missing.result ≡ lack_at c.args.pool c.args.session c.args.request (g.R.Rows.state c.args.rows.now).nodes (slice_get c.args.asked.now.labels c.loop-at.at) (slice_get c.args.asked.now.nodes c.loop-at.at) = cc in
    record {
      few = omega arith;
      all = rw add-one (omega (arith, more, here, c.loop-at.invariant.all));
    }
