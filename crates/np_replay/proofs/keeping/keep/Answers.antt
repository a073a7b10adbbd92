use Rattle.np_replay.proofs.Statuses.{keeps}
use Rattle.np_replay.proofs.keeping.keep.Goals as goal

pub returns : goal.returns
returns g c =
    keeps g.S.Source.facts g.K.Sink.facts g.E.Sink.facts g.D.Disk.facts c.args.source.now c.ending_of-ending.new.source c.args.out.now c.tell.new.out c.args.err.now c.tell.new.err
    c.args.disk.now c.ending_of-ending.new.disk c.tell.result c.ending_of-ending.result c.ending_of-ending.ensures.ends c.ending_of-ending.ensures.crash c.tell.ensures
