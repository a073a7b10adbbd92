use Rattle.np_look.proofs.Prelude.{None, RequestEntry, RequestView, add-one, ap, arith, drop, drop-past, false, find, is_declined_by_all, length, nat_tests, option_map, refl, request_view, slice_get_past, sym, ◌==◌, ◌∙◌, ◌≡◌}
use Rattle.np_look.proofs.Looks.{found_here, found_later}
use Rattle.np_look.proofs.scan.ScanLook.first_declined_by_all.Goals as goal

pub returns-then-is_declined_by_all : goal.returns-then-is_declined_by_all
returns-then-is_declined_by_all g c =
    let some : (length (g.R.Rows.state c.args.self.now.rows.now).registrations == 0) ≡ false = grind (arith, nat_tests, c.registrations.ensures, c.if-registrations-eq0.false) in
    rw some (sym (ap (option_map (λ (e : RequestEntry). e.id)) (sym c.loop-at.invariant)
    ∙ found_here (λ (v : RequestView). is_declined_by_all (g.R.Rows.state c.args.self.now.rows.now) v.kept) request_view (λ (e : RequestEntry). is_declined_by_all (g.R.Rows.state c.args.self.now.rows.now) e.kept) (λ e. refl) (λ v. v.id) (g.R.Rows.state c.args.self.now.rows.now).requests c.loop-at.at c.in_ok-view.view (sym c.in_ok-view.ensures) (cc)))

pub loop-at-preserved : goal.loop-at-preserved
loop-at-preserved g c =
    rw add-one (sym (found_later (λ (v : RequestView). is_declined_by_all (g.R.Rows.state c.args.self.now.rows.now) v.kept) request_view (λ (e : RequestEntry). is_declined_by_all (g.R.Rows.state c.args.self.now.rows.now) e.kept) (λ e. refl) (g.R.Rows.state c.args.self.now.rows.now).requests c.loop-at.at c.in_ok-view.view (sym c.in_ok-view.ensures) (cc)) ∙ c.loop-at.invariant)

pub returns : goal.returns
returns g c =
    let some : (length (g.R.Rows.state c.args.self.now.rows.now).registrations == 0) ≡ false = grind (arith, nat_tests, c.registrations.ensures, c.if-registrations-eq0.false) in
    let none : find (λ (e : RequestEntry). is_declined_by_all (g.R.Rows.state c.args.self.now.rows.now) e.kept) (drop c.loop-at.at (g.R.Rows.state c.args.self.now.rows.now).requests) ≡ None = rw (drop-past (g.R.Rows.state c.args.self.now.rows.now).requests c.loop-at.at (slice_get_past (g.R.Rows.state c.args.self.now.rows.now).requests c.loop-at.at (omega (arith, c.requests-at-end.ensures, c.loop-at-test.false)))) refl in
    rw some (ap (option_map (λ (e : RequestEntry). e.id)) (sym none ∙ c.loop-at.invariant))
