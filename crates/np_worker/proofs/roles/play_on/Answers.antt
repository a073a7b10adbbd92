use Rattle.np_worker.proofs.Prelude.{unturned_same, Comes, IsOfWork, Ok, Part, Role, Some, Stage, acts, ap, driving, err_from_is_err_and, launched, owes_due, owes_launch, owes_report, phase_of, refl, subst, [], ◌++◌, ◌∙◌, ◌∷◌, ◌≡◌, Driving, Drove, sym}
use Rattle.np_worker.proofs.Walks.{comes_from, follow, of_part, removal, with_moves, drives_none}
use Rattle.np_worker.proofs.roles.play_on.Goals as goal

pub returns-in_err-reached-clause-part : goal.returns-in_err-reached-clause-part
returns-in_err-reached-clause-part g c =
    let e = err_from_is_err_and c.from_residual.result c.from_residual.ensures.1 in
    of_part (c.take_turns.ensures.part (Some (driving g.D.Driver.facts g.D.Driver.plan g.D.Driver.sound g.D.Driver.room c.args.driver.now))) (rw e.1 tt)

pub returns-in_err-outcome-in-Launches-clause-part : goal.returns-in_err-outcome-in-Launches-clause-part
returns-in_err-outcome-in-Launches-clause-part g c =
    let d = driving g.D.Driver.facts g.D.Driver.plan g.D.Driver.sound g.D.Driver.room c.args.driver.now in
    let x = driving g.D.Driver.facts g.D.Driver.plan g.D.Driver.sound g.D.Driver.room c.launch_server.new.driver in
    let e = err_from_is_err_and c.from_residual-in_err-outcome-in-Launches.result c.from_residual-in_err-outcome-in-Launches.ensures.1 in
    let p = c.in_ok-reached.ensures.part (Some d) in
    let owed = owes_launch c.in-Launches.pool c.in-Launches.left c.in-Launches.start in
    let q : Part g.T.Turns.answers (g.T.Turns.fixed c.args.turns.now) owed (g.T.Turns.sight c.take_turns.new.turns) (g.T.Turns.sight c.take_turns.new.turns) (Some d) (Some x) (λ trace to. to ≡ owed) = with_moves [] owed (unturned_same (g.T.Turns.sight c.take_turns.new.turns)) (subst (λ (y : Driving). Drove [] (Some d) (Some y)) (sym c.in_err-outcome-in-Launches.ensures) (drives_none d)) refl refl in
    follow p (p.holds ∙ ap phase_of c.in-Launches.is) q (rw e.1 tt)

pub returns-in_ok-outcome-in-Launches-clause-part : goal.returns-in_ok-outcome-in-Launches-clause-part
returns-in_ok-outcome-in-Launches-clause-part g c =
    let d = Some (driving g.D.Driver.facts g.D.Driver.plan g.D.Driver.sound g.D.Driver.room c.args.driver.now) in
    let x = Some (driving g.D.Driver.facts g.D.Driver.plan g.D.Driver.sound g.D.Driver.room c.launch_server.new.driver) in
    let p = c.in_ok-reached.ensures.part d in
    let owed = owes_launch c.in-Launches.pool c.in-Launches.left c.in-Launches.start in
    let q : Part g.T.Turns.answers (g.T.Turns.fixed c.args.turns.now) owed (g.T.Turns.sight c.take_turns.new.turns) (g.T.Turns.sight c.take_turns.new.turns) d x (λ trace to. to ≡ owes_report c.in-Launches.pool c.in-Launches.left c.in-Launches.start c.in_ok-outcome-in-Launches.outcome) = with_moves (launched c.in-Launches.start.tag c.in_ok-outcome-in-Launches.outcome ∷ []) (owes_report c.in-Launches.pool c.in-Launches.left c.in-Launches.start c.in_ok-outcome-in-Launches.outcome) (unturned_same (g.T.Turns.sight c.take_turns.new.turns)) c.in_ok-outcome-in-Launches.ensures (refl, refl) refl in
    follow p (p.holds ∙ ap phase_of c.in-Launches.is) q q.holds

pub returns-in_ok-outcome-in-Launches-clause-work : goal.returns-in_ok-outcome-in-Launches-clause-work
returns-in_ok-outcome-in-Launches-clause-work g c = λ w h. subst (λ (s : Stage). IsOfWork w (phase_of s)) c.in-Launches.is (c.in_ok-reached.ensures.work w h)

pub returns-in-Removes-clause-part : goal.returns-in-Removes-clause-part
returns-in-Removes-clause-part g c =
    let d = driving g.D.Driver.facts g.D.Driver.plan g.D.Driver.sound g.D.Driver.room c.args.driver.now in
    let x = driving g.D.Driver.facts g.D.Driver.plan g.D.Driver.sound g.D.Driver.room c.remove_server.new.driver in
    let p = c.in_ok-reached.ensures.part (Some d) in
    let owed = owes_due c.in-Removes.pool c.in-Removes.left c.in-Removes.number in
    let now = acts (Role.Janitor c.in-Removes.pool) c.in-Removes.left in
    let q : Part g.T.Turns.answers (g.T.Turns.fixed c.args.turns.now) owed (g.T.Turns.sight c.take_turns.new.turns) (g.T.Turns.sight c.take_turns.new.turns) (Some d) (Some x) (Comes now now (Some d) (Some x) (Ok c.remove_server.result)) = removal owed now now (g.T.Turns.sight c.take_turns.new.turns) d x c.in-Removes.number c.remove_server.result refl tt refl c.remove_server.ensures in
    follow p (p.holds ∙ ap phase_of c.in-Removes.is) q (comes_from now now (Some d) (Some x) (Ok c.remove_server.result) q.trace (p.trace ++ q.trace) q.to q.holds)

pub returns-in-Removes-clause-work : goal.returns-in-Removes-clause-work
returns-in-Removes-clause-work g c = λ w h. subst (λ (s : Stage). IsOfWork w (phase_of s)) c.in-Removes.is (c.in_ok-reached.ensures.work w h)

pub returns-in-Ended-clause-part : goal.returns-in-Ended-clause-part
returns-in-Ended-clause-part g c = let p = c.in_ok-reached.ensures.part (Some (driving g.D.Driver.facts g.D.Driver.plan g.D.Driver.sound g.D.Driver.room c.args.driver.now)) in of_part p (p.holds ∙ ap phase_of c.in-Ended.is)

pub returns-in-Sweeps-clause-part : goal.returns-in-Sweeps-clause-part
returns-in-Sweeps-clause-part g c = let p = c.in_ok-reached.ensures.part (Some (driving g.D.Driver.facts g.D.Driver.plan g.D.Driver.sound g.D.Driver.room c.args.driver.now)) in of_part p p.holds

pub returns-in-Rests-clause-part : goal.returns-in-Rests-clause-part
returns-in-Rests-clause-part g c = let p = c.in_ok-reached.ensures.part (Some (driving g.D.Driver.facts g.D.Driver.plan g.D.Driver.sound g.D.Driver.room c.args.driver.now)) in of_part p p.holds

pub returns-in_default-clause-part : goal.returns-in_default-clause-part
returns-in_default-clause-part g c = let p = c.in_ok-reached.ensures.part (Some (driving g.D.Driver.facts g.D.Driver.plan g.D.Driver.sound g.D.Driver.room c.args.driver.now)) in of_part p p.holds
