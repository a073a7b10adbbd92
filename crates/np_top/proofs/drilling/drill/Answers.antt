use Rattle.np_top.proofs.Statuses.{drills}
use Rattle.np_top.proofs.drilling.drill.Goals as goal

pub returns : goal.returns
returns g c =
    drills g.K.Sink.facts g.E.Sink.facts c.args.jobs c.args.out.now c.tell.new.out c.args.err.now c.tell.new.err
    c.tell.result c.ending_of-ending.result c.ending_of-ending.ensures c.tell.ensures
