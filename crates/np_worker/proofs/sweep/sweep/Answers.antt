use Rattle.np_worker.proofs.Prelude.{unturned_same, Next, Ok, Some, SweepsOne, arith, driving, err_from_is_err_and, refl, subst, suc, sweeps, [], ◌++◌, ◌-◌, ◌<◌, ◌∙◌, ◌≡◌}
use Rattle.np_worker.proofs.Walks.{KeptFrom, counts_on, follow, kept_all, kept_none, kept_one, kept_start, no_turn, of_part, same_fixed, sweeps_one_all}
use Rattle.np_worker.proofs.sweep.sweep.Goals as goal

pub returns-in_err-count-clause-part : goal.returns-in_err-count-clause-part
returns-in_err-count-clause-part g c =
    let d = driving g.D.Driver.facts g.D.Driver.plan g.D.Driver.sound g.D.Driver.room c.args.driver.now in
    let e = err_from_is_err_and c.from_residual.result c.from_residual.ensures.1 in
    no_turn (sweeps c.args.pool) (g.T.Turns.sight c.args.turns.now) (g.T.Turns.sight c.args.turns.now) (Some d) (unturned_same (g.T.Turns.sight c.args.turns.now)) (rw e.1 tt)

pub loop-at-init : goal.loop-at-init
loop-at-init g c = record {
  ready = c.requires.ready;
  fixed = refl;
  place = refl;
  part = no_turn (sweeps c.args.pool) (g.T.Turns.sight c.args.turns.now) (g.T.Turns.sight c.args.turns.now) (Some (driving g.D.Driver.facts g.D.Driver.plan g.D.Driver.sound g.D.Driver.room c.args.driver.now)) (unturned_same (g.T.Turns.sight c.args.turns.now)) (refl, kept_start c.args.pool [] c.in_ok-count.count (g.D.Driver.facts c.args.driver.now).servers c.in_ok-count.ensures);
  count = refl;
}

pub loop-at-preserved : goal.loop-at-preserved
loop-at-preserved g c =
    let i = c.loop-at.invariant in
    let p = i.part in
    record {
      ready = i.ready;
      fixed = i.fixed;
      place = i.place;
      part = of_part p (p.holds.0, kept_none c.args.pool p.trace (c.loop-at.at - 1) (g.D.Driver.facts c.loop-at.driver).servers c.in_default.ensures);
      count = i.count;
    }

pub loop-at-preserved-in-Go : goal.loop-at-preserved-in-Go
loop-at-preserved-in-Go g c =
    let b = driving g.D.Driver.facts g.D.Driver.plan g.D.Driver.sound g.D.Driver.room c.loop-at.driver in
    let x = driving g.D.Driver.facts g.D.Driver.plan g.D.Driver.sound g.D.Driver.room c.sweep_one.new.driver in
    let i = c.loop-at.invariant in
    let l : 0 < c.loop-at.at = c.loop-at-test.true in
    let h : c.loop-at.at ≡ suc (c.loop-at.at - 1) = omega arith in
    let p = i.part in
    let q = same_fixed i.fixed c.in_ok-next.ensures.part in
    let k = subst (λ (n : Next). SweepsOne c.args.pool c.in-Some.server b x (Ok n) q.trace q.to) c.in-Go.is q.holds in
    let from : KeptFrom c.args.pool p.trace (suc (c.loop-at.at - 1)) b.facts.servers = subst (λ n. KeptFrom c.args.pool p.trace n (g.D.Driver.facts c.loop-at.driver).servers) h p.holds.1 in
    record {
      ready = c.in_ok-next.ensures.ready;
      fixed = c.in_ok-next.ensures.fixed ∙ i.fixed;
      place = c.in_ok-next.ensures.place ∙ i.place;
      part = follow p p.holds.0 q (k.0, kept_one c.args.pool (c.loop-at.at - 1) c.in-Some.server b x p.trace q.trace c.in-Some.ensures from k.1);
      count = counts_on c.args.entries.now c.loop-at.entries c.sweep_one.new.entries (g.T.Turns.sight c.args.turns.now) (g.T.Turns.sight c.loop-at.turns) (g.T.Turns.sight c.sweep_one.new.turns) i.count c.in_ok-next.ensures.count;
    }

pub returns-clause-part : goal.returns-clause-part
returns-clause-part g c = let p = c.loop-at.invariant.part in
    let h : c.loop-at.at ≡ 0 = omega arith in
    of_part p (p.holds.0, kept_all c.args.pool p.trace (g.D.Driver.facts c.loop-at.driver).servers (subst (λ n. KeptFrom c.args.pool p.trace n (g.D.Driver.facts c.loop-at.driver).servers) h p.holds.1))

pub returns-in_err-next-clause-part : goal.returns-in_err-next-clause-part
returns-in_err-next-clause-part g c =
    let i = c.loop-at.invariant in
    let e = err_from_is_err_and c.from_residual-in_err-next.result c.from_residual-in_err-next.ensures.1 in
    follow i.part i.part.holds.0 (same_fixed i.fixed c.sweep_one.ensures.part) (rw e.1 tt)

pub returns-in_default-2-clause-part : goal.returns-in_default-2-clause-part
returns-in_default-2-clause-part g c =
    let d = driving g.D.Driver.facts g.D.Driver.plan g.D.Driver.sound g.D.Driver.room c.args.driver.now in
    let b = driving g.D.Driver.facts g.D.Driver.plan g.D.Driver.sound g.D.Driver.room c.loop-at.driver in
    let x = driving g.D.Driver.facts g.D.Driver.plan g.D.Driver.sound g.D.Driver.room c.sweep_one.new.driver in
    let i = c.loop-at.invariant in
    let p = i.part in
    let q = same_fixed i.fixed c.in_ok-next.ensures.part in
    follow p p.holds.0 q (sweeps_one_all c.args.pool c.in-Some.server d b x p.trace _ q.trace (p.trace ++ q.trace) q.to c.in_default-2.not-Go p.drove q.holds)
