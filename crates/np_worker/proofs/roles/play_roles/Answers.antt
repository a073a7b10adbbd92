use Rattle.np_worker.proofs.Prelude.{unturned_same, Comes, IsOfWork, Next, Ok, Role, Some, WentOn, acting, ap, arith, driving, err_from_is_err_and, of_pool, phase_of, refl, steps_left, subst, sym, ◌++◌, ◌∙◌}
use Rattle.np_worker.proofs.Walks.{counts_on, follow, no_turn, roles_end, same_fixed}
use Rattle.np_worker.proofs.Steps.{work_acting}
use Rattle.np_worker.proofs.roles.play_roles.Goals as goal

pub loop-step-init : goal.loop-step-init
loop-step-init g c = record {
  ready = c.requires.ready;
  fixed = refl;
  place = refl;
  part = no_turn (acting (Role.Launcher c.args.pool) 16) (g.T.Turns.sight c.args.turns.now) (g.T.Turns.sight c.args.turns.now) (Some (driving g.D.Driver.facts g.D.Driver.plan g.D.Driver.sound g.D.Driver.room c.args.driver.now)) (unturned_same (g.T.Turns.sight c.args.turns.now)) (sym c.acting-stage.ensures);
  left = omega (arith, ap steps_left c.acting-stage.ensures);
  work = subst (IsOfWork (of_pool c.args.pool)) (sym c.acting-stage.ensures) (work_acting (of_pool c.args.pool) (Role.Launcher c.args.pool) 16 refl);
  count = refl;
}

pub loop-step-preserved : goal.loop-step-preserved
loop-step-preserved g c =
    let b = Some (driving g.D.Driver.facts g.D.Driver.plan g.D.Driver.sound g.D.Driver.room c.loop-step.driver) in
    let x = Some (driving g.D.Driver.facts g.D.Driver.plan g.D.Driver.sound g.D.Driver.room c.play_on.new.driver) in
    let i = c.loop-step.invariant in
    let p = i.part in
    let q = same_fixed i.fixed c.in_ok-next.ensures.part in
    let now = phase_of c.play_on.new.stage in
    record {
      ready = c.in_ok-next.ensures.ready;
      fixed = c.in_ok-next.ensures.fixed ∙ i.fixed;
      place = c.in_ok-next.ensures.place ∙ i.place;
      part = follow p p.holds q (subst (λ (n : Next). Comes now now b x (Ok n) q.trace q.to) c.in-Go.is q.holds);
      left = omega (arith, i.left, subst (λ (n : Next). WentOn n (phase_of c.loop-step.stage) now) c.in-Go.is c.in_ok-next.ensures.on);
      work = c.in_ok-next.ensures.work (of_pool c.args.pool) i.work;
      count = counts_on c.args.entries.now c.loop-step.entries c.play_on.new.entries (g.T.Turns.sight c.args.turns.now) (g.T.Turns.sight c.loop-step.turns) (g.T.Turns.sight c.play_on.new.turns) i.count c.in_ok-next.ensures.count;
    }

pub returns-in_err-next-clause-part : goal.returns-in_err-next-clause-part
returns-in_err-next-clause-part g c =
    let i = c.loop-step.invariant in
    let e = err_from_is_err_and c.from_residual.result c.from_residual.ensures.1 in
    follow i.part i.part.holds (same_fixed i.fixed c.play_on.ensures.part) (rw e.1 tt)

pub returns-in_default-clause-part : goal.returns-in_default-clause-part
returns-in_default-clause-part g c =
    let d = Some (driving g.D.Driver.facts g.D.Driver.plan g.D.Driver.sound g.D.Driver.room c.args.driver.now) in
    let b = Some (driving g.D.Driver.facts g.D.Driver.plan g.D.Driver.sound g.D.Driver.room c.loop-step.driver) in
    let x = Some (driving g.D.Driver.facts g.D.Driver.plan g.D.Driver.sound g.D.Driver.room c.play_on.new.driver) in
    let i = c.loop-step.invariant in
    let p = i.part in
    let q = same_fixed i.fixed c.in_ok-next.ensures.part in
    let now = phase_of c.play_on.new.stage in
    follow p p.holds q (roles_end c.args.pool d b x p.trace c.in_ok-next.next (phase_of c.loop-step.stage) now q.trace (p.trace ++ q.trace) q.to c.in_default.not-Go p.drove q.holds c.in_ok-next.ensures.on (c.in_ok-next.ensures.work (of_pool c.args.pool) i.work))
