use Rattle.np_top.proofs.Statuses.{audits}
use Rattle.np_top.proofs.auditing.audit.Goals as goal

pub returns : goal.returns
returns g c =
    audits g.S.Source.facts g.K.Sink.facts g.E.Sink.facts c.args.source.now c.ending_of-ending.new.source c.args.out.now c.tell.new.out c.args.err.now c.tell.new.err
    c.tell.result c.ending_of-ending.result c.ending_of-ending.ensures c.tell.ensures
