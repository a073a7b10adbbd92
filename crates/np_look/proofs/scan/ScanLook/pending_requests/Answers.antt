use Rattle.np_look.proofs.Prelude.{RequestEntry, RequestView, add-one, arith, cond, is_pending_by, refl, request_view, sym, ◌≡◌}
use Rattle.np_look.proofs.Looks.{count_here, none_there, counted}
use Rattle.np_look.proofs.scan.ScanLook.pending_requests.Goals as goal

pub returns-in_default : goal.returns-in_default
returns-in_default g c =
    absurd (none_there request_view (g.R.Rows.state c.args.self.now.rows.now).requests c.loop-at.at (omega (arith, c.requests-at-end.ensures, c.loop-at-test.true)) (sym c.in_default.ensures))

pub loop-at-preserved : goal.loop-at-preserved
loop-at-preserved g c =
    let step = count_here (λ (v : RequestView). is_pending_by c.args.pool v.kept) request_view (λ (e : RequestEntry). is_pending_by c.args.pool e.kept) (λ e. refl) (g.R.Rows.state c.args.self.now.rows.now).requests c.loop-at.at c.in-Some.view (sym c.in-Some.ensures) in
    let one : c.one_if-count.result ≡ cond (is_pending_by c.args.pool c.in-Some.view.kept) 1 0 = cc in
    record {
      few = omega (arith, c.one_if-count.ensures.few, c.loop-at.invariant.few);
      all = rw add-one (omega (arith, step, one, c.loop-at.invariant.all));
    }

pub returns : goal.returns
returns g c =
    counted (λ (e : RequestEntry). is_pending_by c.args.pool e.kept) (λ (e : RequestEntry). e.id) (g.R.Rows.state c.args.self.now.rows.now).requests c.loop-at.at c.loop-at.count (omega (arith, c.requests-at-end.ensures, c.loop-at-test.false)) c.loop-at.invariant.all
