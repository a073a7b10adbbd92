use Rattle.np_rounds.proofs.Prelude.{Driving, List, ap, driving, map, [], ◌++◌, ◌∙◌, ◌∷◌}
use Rattle.np_rounds.proofs.Players.{released, without, no_driver}
use Rattle.np_rounds.proofs.crew.drivers_of.Goals as goal

pub loop-worker-preserved-in-Continue-1 : goal.loop-worker-preserved-in-Continue-1
loop-worker-preserved-in-Continue-1 g c =
    released g.D.Driver.facts g.D.Driver.plan g.D.Driver.sound g.D.Driver.room c.loop-worker.drivers.items c.push.new.self.items c.in-Pool.driver c.in-Pool.pool c.loop-worker.workers.items c.pop.new.self.items
    c.in_ok-push.ensures.items (c.in-Some.ensures.items ∙ ap (λ w. c.pop.new.self.items ++ w ∷ []) c.in-Pool.is) ∙ c.loop-worker.invariant

pub loop-worker-preserved : goal.loop-worker-preserved
loop-worker-preserved g c =
    ap (λ (l : List Driving). map (driving g.D.Driver.facts g.D.Driver.plan g.D.Driver.sound g.D.Driver.room) c.loop-worker.drivers.items ++ l)
    (without g.D.Driver.facts g.D.Driver.plan g.D.Driver.sound g.D.Driver.room c.loop-worker.workers.items c.pop.new.self.items c.in-Some.worker (no_driver g.D.Driver.facts g.D.Driver.plan g.D.Driver.sound g.D.Driver.room c.in-Some.worker c.in_default-worker.not-Pool) c.in-Some.ensures.items)
    ∙ c.loop-worker.invariant
