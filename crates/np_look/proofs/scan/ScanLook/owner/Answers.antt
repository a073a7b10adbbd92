use Rattle.np_look.proofs.Prelude.{Option, ap, arith, below_more, false, get_or, get_or_from_slice_get, is_marked, new_job, option_map, slice_get_within, sym, true, ℕ, ◌∙◌, ◌≡◌}
use Rattle.np_look.proofs.Looks.{position-at, position-nowhere}
use Rattle.np_look.proofs.scan.ScanLook.owner.Goals as goal

pub returns-then-is_marked : goal.returns-then-is_marked
returns-then-is_marked g c =
    let there : get_or (g.R.Rows.state c.args.self.now.rows.now).jobs c.loop-at.at new_job ≡ c.in-Some.kept = get_or_from_slice_get _ c.loop-at.at c.in-Some.kept new_job (sym c.in-Some.ensures) in
    let here : is_marked c.args.node (get_or (g.R.Rows.state c.args.self.now.rows.now).jobs c.loop-at.at new_job) ≡ true = ap (is_marked c.args.node) there ∙ sym c.if-is_marked.ensures in
    sym (ap (λ (o : Option ℕ). option_map (λ (at : ℕ). record { 0 = at }) o)
    (position-at (is_marked c.args.node) (g.R.Rows.state c.args.self.now.rows.now).jobs c.loop-at.at new_job (slice_get_within _ c.loop-at.at c.in-Some.kept (sym c.in-Some.ensures)) c.loop-at.invariant here))

pub loop-at-preserved : goal.loop-at-preserved
loop-at-preserved g c =
    let there : get_or (g.R.Rows.state c.args.self.now.rows.now).jobs c.loop-at.at new_job ≡ c.in-Some.kept = get_or_from_slice_get _ c.loop-at.at c.in-Some.kept new_job (sym c.in-Some.ensures) in
    let here : is_marked c.args.node (get_or (g.R.Rows.state c.args.self.now.rows.now).jobs c.loop-at.at new_job) ≡ false = ap (is_marked c.args.node) there ∙ sym c.if-is_marked.ensures in
    below_more (λ k. is_marked c.args.node (get_or (g.R.Rows.state c.args.self.now.rows.now).jobs k new_job) ≡ false) c.loop-at.at c.loop-at.invariant here

pub returns : goal.returns
returns g c =
    sym (ap (λ (o : Option ℕ). option_map (λ (at : ℕ). record { 0 = at }) o)
    (position-nowhere (is_marked c.args.node) (g.R.Rows.state c.args.self.now.rows.now).jobs new_job (λ k below. c.loop-at.invariant k (omega (arith, c.jobs-at-end.ensures, c.loop-at-test.false)))))
