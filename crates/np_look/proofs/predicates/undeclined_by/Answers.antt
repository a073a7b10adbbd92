use Rattle.np_look.proofs.Prelude.{Registration, add-one, arith, cond, is_declined_by, not, refl, sym, ◌≡◌}
use Rattle.np_look.proofs.Looks.{count_here, as_it_is}
use Rattle.np_look.proofs.predicates.undeclined_by.Goals as goal

pub loop-at-preserved : goal.loop-at-preserved
loop-at-preserved g c =
    let step = count_here (λ (r : Registration). not (is_declined_by r.pool c.args.kept.now.declined)) (λ (r : Registration). r) (λ (r : Registration). not (is_declined_by r.pool c.args.kept.now.declined)) (λ r. refl) (g.R.Rows.state c.args.rows.now).registrations c.loop-at.at c.in-Some.row (as_it_is _ c.in-Some.row (sym c.in-Some.ensures)) in
    let one : c.one_if-count.result ≡ cond (not (is_declined_by c.in-Some.row.pool c.args.kept.now.declined)) 1 0 = cc in
    record {
      few = omega (arith, c.one_if-count.ensures.few, c.loop-at.invariant.few);
      all = rw add-one (omega (arith, step, one, c.loop-at.invariant.all));
    }
