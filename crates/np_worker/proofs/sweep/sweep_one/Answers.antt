use Rattle.np_worker.proofs.Prelude.{Bool, Ok, Part, Some, SweepsOne, after_sweep, ap, cond, driving, err_from_is_err_and, inl, owes_swept, refl, sweeps, sym, ◌++◌, ◌∙◌}
use Rattle.np_worker.proofs.Walks.{follow, of_part, swept_removal, sweeps_one_on, removed_deals, after_sweep_turn, of_kept_server, was_kept_now}
use Rattle.np_worker.proofs.sweep.sweep_one.Goals as goal

pub returns-in_err-turn-clause-part : goal.returns-in_err-turn-clause-part
returns-in_err-turn-clause-part g c =
    let d = driving g.D.Driver.facts g.D.Driver.plan g.D.Driver.sound g.D.Driver.room c.args.driver.now in
    let e = err_from_is_err_and c.from_residual.result c.from_residual.ensures.1 in
    let p = c.take_turn.ensures.part (sweeps c.args.pool) (Some d) (c.args.server.tag.node, c.args.server.number, refl) (of_kept_server c.args.pool c.args.server d c.requires.server) in
    of_part p (rw e.1 tt)

pub returns-in-Full-clause-part : goal.returns-in-Full-clause-part
returns-in-Full-clause-part g c =
    let d = driving g.D.Driver.facts g.D.Driver.plan g.D.Driver.sound g.D.Driver.room c.args.driver.now in
    let p = c.in_ok-turn.ensures.part (sweeps c.args.pool) (Some d) (c.args.server.tag.node, c.args.server.number, refl) (of_kept_server c.args.pool c.args.server d c.requires.server) in
    of_part p (p.holds.1 ∙ ap (after_sweep c.args.pool c.args.server.number) c.in-Full.is)

pub returns-then-is_unwanted-clause-part : goal.returns-then-is_unwanted-clause-part
returns-then-is_unwanted-clause-part g c =
    let d = driving g.D.Driver.facts g.D.Driver.plan g.D.Driver.sound g.D.Driver.room c.args.driver.now in
    let x = driving g.D.Driver.facts g.D.Driver.plan g.D.Driver.sound g.D.Driver.room c.remove_server.new.driver in
    let p = c.in_ok-turn.ensures.part (sweeps c.args.pool) (Some d) (c.args.server.tag.node, c.args.server.number, refl) (of_kept_server c.args.pool c.args.server d c.requires.server) in
    let q : Part g.T.Turns.answers (g.T.Turns.fixed c.args.turns.now) (owes_swept c.args.pool c.args.server.number) (g.T.Turns.sight c.take_turn.new.turns) (g.T.Turns.sight c.take_turn.new.turns) (Some d) (Some x) (SweepsOne c.args.pool c.args.server d x (Ok c.remove_server.result)) = swept_removal c.args.pool (g.T.Turns.sight c.take_turn.new.turns) d x c.args.server c.remove_server.result c.remove_server.ensures in
    follow p (p.holds.1 ∙ (after_sweep_turn c.args.pool c.args.server.number c.in_ok-turn.turn c.in_default.not-Full ∙ ap (λ (b : Bool). cond b (owes_swept c.args.pool c.args.server.number) (sweeps c.args.pool)) (sym c.is_unwanted.ensures ∙ c.if-is_unwanted.true))) q (sweeps_one_on c.args.pool c.args.server d x c.remove_server.result q.trace (p.trace ++ q.trace) q.to (removed_deals c.args.pool c.args.server d x c.remove_server.result (p.trace ++ q.trace) c.remove_server.ensures) q.holds)

pub returns-else-is_unwanted-clause-part : goal.returns-else-is_unwanted-clause-part
returns-else-is_unwanted-clause-part g c =
    let d = driving g.D.Driver.facts g.D.Driver.plan g.D.Driver.sound g.D.Driver.room c.args.driver.now in
    let p = c.in_ok-turn.ensures.part (sweeps c.args.pool) (Some d) (c.args.server.tag.node, c.args.server.number, refl) (of_kept_server c.args.pool c.args.server d c.requires.server) in
    of_part p ((p.holds.1 ∙ (after_sweep_turn c.args.pool c.args.server.number c.in_ok-turn.turn c.in_default.not-Full ∙ ap (λ (b : Bool). cond b (owes_swept c.args.pool c.args.server.number) (sweeps c.args.pool)) (sym c.is_unwanted.ensures ∙ c.if-is_unwanted.false))), inl (was_kept_now c.args.pool c.args.server c.in_ok-turn.turn p.trace p.holds.0 (sym c.is_unwanted.ensures ∙ c.if-is_unwanted.false), refl))
