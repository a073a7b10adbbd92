use Rattle.np_look.proofs.Prelude.{Registration, add-one, false, is_declined_by, refl, sym, true, ◌==◌, ◌||◌, ◌∙◌, ◌≡◌}
use Rattle.np_look.proofs.Looks.{all_here}
use Rattle.np_look.proofs.predicates.is_last_pool.Goals as goal

pub returns-then-not-declines_or_is : goal.returns-then-not-declines_or_is
returns-then-not-declines_or_is g c =
    let fails : (is_declined_by c.in-Some-registration_at.row.pool c.in-Some.kept.declined || (c.args.pool.0 == c.in-Some-registration_at.row.pool.0)) ≡ false = cc in
    rw (← c.in-Some.ensures)
    (sym (all_here (λ (r : Registration). is_declined_by r.pool c.in-Some.kept.declined || (c.args.pool.0 == r.pool.0)) (g.R.Rows.state c.args.rows.now).registrations c.loop-at.at c.in-Some-registration_at.row (sym c.in-Some-registration_at.ensures) ∙ rw fails refl)
    ∙ c.loop-at.invariant)

pub loop-at-preserved : goal.loop-at-preserved
loop-at-preserved g c =
    let passes : (is_declined_by c.in-Some-registration_at.row.pool c.in-Some.kept.declined || (c.args.pool.0 == c.in-Some-registration_at.row.pool.0)) ≡ true = cc in
    rw add-one
    (sym (all_here (λ (r : Registration). is_declined_by r.pool c.in-Some.kept.declined || (c.args.pool.0 == r.pool.0)) (g.R.Rows.state c.args.rows.now).registrations c.loop-at.at c.in-Some-registration_at.row (sym c.in-Some-registration_at.ensures) ∙ rw passes refl)
    ∙ c.loop-at.invariant)
