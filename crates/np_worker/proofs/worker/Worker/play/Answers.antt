use Rattle.np_worker.proofs.Prelude.{EndsAs, None, Ok, RoundEnd, Worker, err_from_is_err_and, of_reaper, of_requester, refl, subst, sym}
use Rattle.np_worker.proofs.Walks.{of_part, ends_alone}
use Rattle.np_worker.proofs.Rounds.{round_of}
use Rattle.np_worker.proofs.worker.Worker.play.Goals as goal

pub returns-in_err-next-in-Requester-clause-round : goal.returns-in_err-next-in-Requester-clause-round
returns-in_err-next-in-Requester-clause-round g c =
    let e = err_from_is_err_and c.from_residual-in_err-next-in-Requester.result c.from_residual-in_err-next-in-Requester.ensures.1 in
    round_of g.D.Driver.facts g.D.Driver.plan g.D.Driver.sound g.D.Driver.room c.args.self.now (Worker.Requester c.in-Requester.id) (Worker.Requester c.in-Requester.id) c.from_residual-in_err-next-in-Requester.result c.in-Requester.is refl (of_part (c.act_often.ensures.part None) (rw e.1 tt))

pub returns-in_err-next-in-Reaper-clause-round : goal.returns-in_err-next-in-Reaper-clause-round
returns-in_err-next-in-Reaper-clause-round g c =
    let e = err_from_is_err_and c.from_residual-in_err-next-in-Reaper.result c.from_residual-in_err-next-in-Reaper.ensures.1 in
    round_of g.D.Driver.facts g.D.Driver.plan g.D.Driver.sound g.D.Driver.room c.args.self.now c.args.self.now Worker.Reaper c.from_residual-in_err-next-in-Reaper.result c.in-Reaper.is c.in-Reaper.is (of_part (c.act_often-in-Reaper.ensures.part None) (rw e.1 tt))

pub returns-in_ok-next-in-Requester-clause-round : goal.returns-in_ok-next-in-Requester-clause-round
returns-in_ok-next-in-Requester-clause-round g c =
    let p = c.in_ok-next-in-Requester.ensures.part None in
    round_of g.D.Driver.facts g.D.Driver.plan g.D.Driver.sound g.D.Driver.room c.args.self.now (Worker.Requester c.in-Requester.id) (Worker.Requester c.in-Requester.id) (Ok c.round_end-in-Requester.result) c.in-Requester.is refl (of_part p (subst (λ (r : RoundEnd). EndsAs (of_requester c.in-Requester.id) None None (Ok r) p.trace p.to) (sym c.round_end-in-Requester.ensures) (ends_alone (of_requester c.in-Requester.id) c.in_ok-next-in-Requester.next c.act_often.new.entries p.trace p.to (λ q h. h) p.holds)))

pub returns-in_ok-next-in-Reaper-clause-round : goal.returns-in_ok-next-in-Reaper-clause-round
returns-in_ok-next-in-Reaper-clause-round g c =
    let p = c.in_ok-next-in-Reaper.ensures.part None in
    round_of g.D.Driver.facts g.D.Driver.plan g.D.Driver.sound g.D.Driver.room c.args.self.now c.args.self.now Worker.Reaper (Ok c.round_end-in-Reaper.result) c.in-Reaper.is c.in-Reaper.is (of_part p (subst (λ (r : RoundEnd). EndsAs of_reaper None None (Ok r) p.trace p.to) (sym c.round_end-in-Reaper.ensures) (ends_alone of_reaper c.in_ok-next-in-Reaper.next c.act_often-in-Reaper.new.entries p.trace p.to (λ q h. h) p.holds)))
