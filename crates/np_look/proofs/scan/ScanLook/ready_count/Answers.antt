use Rattle.np_look.proofs.Prelude.{add-one, arith, cond, is_coming, is_free_ready, node_seen, node_view, refl, request_seen, request_view, sym, ◌≡◌}
use Rattle.np_look.proofs.Looks.{count_here, none_there}
use Rattle.np_look.proofs.scan.ScanLook.ready_count.Goals as goal

pub loop-at-preserved : goal.loop-at-preserved
loop-at-preserved g c =
    let step = count_here (λ v. is_free_ready c.args.label (node_seen v)) node_view (is_free_ready c.args.label) (λ e. refl) (g.R.Rows.state c.args.self.now.rows.now).nodes c.loop-at.at c.in-Some.view (sym c.in-Some.ensures) in
    let one : c.one_if-count.result ≡ cond (is_free_ready c.args.label (node_seen c.in-Some.view)) 1 0 = cc in
    record {
      few = omega (arith, c.one_if-count.ensures.few, c.loop-at.invariant.few);
      all = rw add-one (omega (arith, step, one, c.loop-at.invariant.all));
    }

pub returns-in_default-request_view : goal.returns-in_default-request_view
returns-in_default-request_view g c =
    absurd (none_there request_view (g.R.Rows.state c.args.self.now.rows.now).requests c.loop-at-2.at (omega (arith, c.requests-at-end.ensures, c.loop-at-2-test.true)) (sym c.in_default-request_view.ensures))

pub loop-at-2-preserved : goal.loop-at-2-preserved
loop-at-2-preserved g c =
    let step = count_here (λ v. is_coming c.args.label (request_seen v)) request_view (is_coming c.args.label) (λ e. refl) (g.R.Rows.state c.args.self.now.rows.now).requests c.loop-at-2.at c.in-Some-request_view.view (sym c.in-Some-request_view.ensures) in
    let one : c.one_if-count-in-loop-at-2.result ≡ cond (is_coming c.args.label (request_seen c.in-Some-request_view.view)) 1 0 = cc in
    record {
      few = omega (arith, c.one_if-count-in-loop-at-2.ensures.few, c.loop-at-2.invariant.few);
      all = rw add-one (omega (arith, step, one, c.loop-at-2.invariant.all));
    }
