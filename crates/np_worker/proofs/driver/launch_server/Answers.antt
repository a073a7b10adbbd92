use Rattle.np_worker.proofs.Prelude.{driving}
use Rattle.np_worker.proofs.Walks.{drives_launch, drives_failed, same_driving}
use Rattle.np_worker.proofs.driver.launch_server.Goals as goal

pub returns-in-Ok : goal.returns-in-Ok
returns-in-Ok g c = drives_launch (driving g.D.Driver.facts g.D.Driver.plan g.D.Driver.sound g.D.Driver.room c.args.driver.now) (driving g.D.Driver.facts g.D.Driver.plan g.D.Driver.sound g.D.Driver.room c.launch.new.self) c.args.tag c.in-Ok.number c.in-Ok.ensures.launch c.in-Ok.ensures.planned (g.D.Driver.soundness c.launch.new.self)
    (record { plan = c.in-Ok.ensures.plan; sound = c.in-Ok.ensures.sound; room = c.in-Ok.ensures.room; counts = c.in-Ok.ensures.counts })

pub returns-in-Err-Failed : goal.returns-in-Err-Failed
returns-in-Err-Failed g c =
    let h = rw c.in-Err-Failed.field-0-is at c.in-Err-Failed.ensures.launch in
    let k = rw c.in-Err-Failed.field-0-is at c.in-Err-Failed.ensures.planned in
    let full = rw c.in-Err-Failed.field-0-is at c.in-Err-Failed.ensures.full in
    drives_failed (driving g.D.Driver.facts g.D.Driver.plan g.D.Driver.sound g.D.Driver.room c.args.driver.now) (driving g.D.Driver.facts g.D.Driver.plan g.D.Driver.sound g.D.Driver.room c.launch.new.self) c.args.tag h.0 k full
    (record { plan = c.in-Err-Failed.ensures.plan; sound = c.in-Err-Failed.ensures.sound; room = c.in-Err-Failed.ensures.room; counts = c.in-Err-Failed.ensures.counts })

pub returns-in-Err-NoMemory : goal.returns-in-Err-NoMemory
returns-in-Err-NoMemory g c =
    let h = rw c.in-Err-NoMemory.field-0-is at c.in-Err-NoMemory.ensures.launch in
    same_driving (driving g.D.Driver.facts g.D.Driver.plan g.D.Driver.sound g.D.Driver.room c.launch.new.self) (driving g.D.Driver.facts g.D.Driver.plan g.D.Driver.sound g.D.Driver.room c.args.driver.now) h c.in-Err-NoMemory.ensures.plan c.in-Err-NoMemory.ensures.sound c.in-Err-NoMemory.ensures.room
