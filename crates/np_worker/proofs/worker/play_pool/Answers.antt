use Rattle.np_worker.proofs.Prelude.{Some, driving, err_from_is_err_and, sweeps}
use Rattle.np_worker.proofs.Walks.{follow, of_part, same_fixed, comes_to, sweeps_before}
use Rattle.np_worker.proofs.worker.play_pool.Goals as goal

pub returns-in_err-play_roles-clause-part : goal.returns-in_err-play_roles-clause-part
returns-in_err-play_roles-clause-part g c =
    let e = err_from_is_err_and c.from_residual.result c.from_residual.ensures.1 in
    of_part c.play_roles.ensures.part (rw e.1 tt)

pub returns-in-Full-clause-part : goal.returns-in-Full-clause-part
returns-in-Full-clause-part g c = let p = c.in_ok-play_roles.ensures.part in of_part p (rw c.in-Full.is at p.holds)

pub returns-in-Failed-clause-part : goal.returns-in-Failed-clause-part
returns-in-Failed-clause-part g c = let p = c.in_ok-play_roles.ensures.part in of_part p (rw c.in-Failed.is at p.holds)

pub returns-in_default-clause-part : goal.returns-in_default-clause-part
returns-in_default-clause-part g c =
    let d = driving g.D.Driver.facts g.D.Driver.plan g.D.Driver.sound g.D.Driver.room c.args.driver.now in
    let x = driving g.D.Driver.facts g.D.Driver.plan g.D.Driver.sound g.D.Driver.room c.play_roles.new.driver in
    let y = driving g.D.Driver.facts g.D.Driver.plan g.D.Driver.sound g.D.Driver.room c.sweep.new.driver in
    let p = c.in_ok-play_roles.ensures.part in
    let q = same_fixed c.play_roles.ensures.fixed c.sweep.ensures.part in
    follow p (comes_to (sweeps c.args.pool) (Some d) (Some x) _ p.trace p.to c.in_default.not-Full c.in_default.not-Failed p.holds) q (sweeps_before c.args.pool d x y p.trace q.trace c.sweep.result q.to p.drove q.holds)
