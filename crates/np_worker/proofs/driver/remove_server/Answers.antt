use Rattle.np_worker.proofs.Prelude.{driving}
use Rattle.np_worker.proofs.Walks.{drives_removed, drives_kept}
use Rattle.np_worker.proofs.driver.remove_server.Goals as goal

pub returns-in-Ok : goal.returns-in-Ok
returns-in-Ok g c = drives_removed (driving g.D.Driver.facts g.D.Driver.plan g.D.Driver.sound g.D.Driver.room c.args.driver.now) (driving g.D.Driver.facts g.D.Driver.plan g.D.Driver.sound g.D.Driver.room c.remove.new.self) c.args.number c.in-Ok.ensures.removal.0 c.in-Ok.ensures.removal.1 (record { plan = c.in-Ok.ensures.plan; sound = c.in-Ok.ensures.sound; room = c.in-Ok.ensures.room; counts = c.in-Ok.ensures.counts })

pub returns-in-Err : goal.returns-in-Err
returns-in-Err g c = (drives_kept (driving g.D.Driver.facts g.D.Driver.plan g.D.Driver.sound g.D.Driver.room c.args.driver.now) (driving g.D.Driver.facts g.D.Driver.plan g.D.Driver.sound g.D.Driver.room c.remove.new.self) c.in-Err.ensures.removal.0 c.in-Err.ensures.removal.1 (record { plan = c.in-Err.ensures.plan; sound = c.in-Err.ensures.sound; room = c.in-Err.ensures.room; counts = c.in-Err.ensures.counts }), c.in-Err.ensures.removal.2)
