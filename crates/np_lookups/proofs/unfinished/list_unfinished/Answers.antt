use Rattle.np_lookups.proofs.Prelude.{Configuration, IsSound, None, Some, arith, length, slice_get, subst, sym, ◌<◌, ◌≡◌}
use Rattle.np_lookups.proofs.LookupLemmas.{made-over, made-unowned, made-before, made-more}
use Rattle.np_lookups.proofs.unfinished.list_unfinished.Goals as goal

pub loop-number-preserved-then-has_ended : goal.loop-number-preserved-then-has_ended
loop-number-preserved-then-has_ended g c =
    let within : c.loop-number.number < length (g.R.Rows.state c.args.rows.now).jobs = omega (arith, c.jobs-number-end.ensures) in
    made-over _ _ c.loop-number.number _ c.loop-number.invariant within (sym c.if-has_ended.ensures)

pub loop-number-preserved-in_default : goal.loop-number-preserved-in_default
loop-number-preserved-in_default g c =
    let within : c.loop-number.number < length (g.R.Rows.state c.args.rows.now).jobs = omega (arith, c.jobs-number-end.ensures) in
    let none : slice_get (g.R.Rows.site c.args.rows.now).jobs c.loop-number.number ≡ None =
    subst (λ (x : Configuration). slice_get x.jobs c.loop-number.number ≡ None) c.config-config.ensures (sym c.in_default.ensures) in
    made-unowned _ _ c.loop-number.number _ c.loop-number.invariant within none

pub push_at-requires : goal.push_at-requires
push_at-requires g c =
    let within : c.loop-number.number < length (g.R.Rows.state c.args.rows.now).jobs = omega (arith, c.jobs-number-end.ensures) in
    let sound : IsSound (g.R.Rows.site c.args.rows.now) = subst (λ (x : Configuration). IsSound x) c.config-config.ensures c.know_soundness.ensures in
    let is_row : slice_get (g.R.Rows.site c.args.rows.now).jobs c.loop-number.number ≡ Some c.in-Some.row.now =
    subst (λ (x : Configuration). slice_get x.jobs c.loop-number.number ≡ Some c.in-Some.row.now) c.config-config.ensures (sym c.in-Some.ensures) in
    made-before _ _ c.loop-number.number _ c.loop-number.invariant within sound c.in-Some.row.now is_row

pub loop-number-preserved : goal.loop-number-preserved
loop-number-preserved g c =
    let within : c.loop-number.number < length (g.R.Rows.state c.args.rows.now).jobs = omega (arith, c.jobs-number-end.ensures) in
    let sound : IsSound (g.R.Rows.site c.args.rows.now) = subst (λ (x : Configuration). IsSound x) c.config-config.ensures c.know_soundness.ensures in
    let is_row : slice_get (g.R.Rows.site c.args.rows.now).jobs c.loop-number.number ≡ Some c.in-Some.row.now =
    subst (λ (x : Configuration). slice_get x.jobs c.loop-number.number ≡ Some c.in-Some.row.now) c.config-config.ensures (sym c.in-Some.ensures) in
    made-more _ _ c.loop-number.number _ c.loop-number.invariant within sound c.in-Some.row.now is_row _ c.in_ok-push_at.ensures (sym c.if-has_ended.ensures)
