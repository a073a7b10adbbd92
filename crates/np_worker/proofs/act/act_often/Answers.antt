use Rattle.np_worker.proofs.Prelude.{IsOfWork, Phase, WentFar, acting, ap, err_from_is_err_and, phase_of, player, refl, rests, subst, sym, ◌∙◌, ◌≡◌}
use Rattle.np_worker.proofs.Walks.{of_part, same_from}
use Rattle.np_worker.proofs.Steps.{lone_rests, work_acting}
use Rattle.np_worker.proofs.act.act_often.Goals as goal

pub returns-in_err-take_turns-clause-part : goal.returns-in_err-take_turns-clause-part
returns-in_err-take_turns-clause-part g c = λ d.
    let e = err_from_is_err_and c.from_residual.result c.from_residual.ensures.1 in
    of_part (same_from c.acting.ensures (c.take_turns.ensures.part d)) (rw e.1 tt)

pub returns-in-Ended-clause-part : goal.returns-in-Ended-clause-part
returns-in-Ended-clause-part g c = λ d.
    let p = same_from c.acting.ensures (c.in_ok-take_turns.ensures.part d) in
    of_part p (p.holds ∙ ap phase_of c.in-Ended.is)

pub returns-in_default : goal.returns-in_default
returns-in_default g c =
    let begins : IsOfWork (player c.args.role) (phase_of c.acting.result) = subst (IsOfWork (player c.args.role)) (sym c.acting.ensures) (work_acting (player c.args.role) c.args.role 16 refl) in
    let far : WentFar (acting c.args.role 16) c.in_ok-take_turns.field-0 = subst (λ (p : Phase). WentFar p c.in_ok-take_turns.field-0) c.acting.ensures c.in_ok-take_turns.ensures.far in
    let end : phase_of c.in_ok-take_turns.field-0 ≡ rests = lone_rests c.args.role c.in_ok-take_turns.field-0 c.requires.lone (c.in_ok-take_turns.ensures.work (player c.args.role) begins) far c.in_default.not-Ended in
    record {
      ready = c.in_ok-take_turns.ensures.ready;
      fixed = c.in_ok-take_turns.ensures.fixed;
      place = c.in_ok-take_turns.ensures.place;
      part = λ d. let p = same_from c.acting.ensures (c.in_ok-take_turns.ensures.part d) in of_part p (p.holds ∙ end);
      count = c.in_ok-take_turns.ensures.count;
    }
