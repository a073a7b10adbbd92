use Rattle.np_explain.proofs.Statuses.{explains}
use Rattle.np_explain.proofs.top.explain.Goals as goal

pub returns : goal.returns
returns g c =
    explains g.S.Source.facts g.K.Sink.facts g.E.Sink.facts c.args.asked c.args.source.now c.ending_of-ending.new.source c.args.out.now c.tell.new.out c.args.err.now c.tell.new.err
    c.tell.result c.ending_of-ending.result c.ending_of-ending.ensures c.tell.ensures
