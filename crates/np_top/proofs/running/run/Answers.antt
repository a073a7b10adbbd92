use Rattle.np_top.proofs.Prelude.{site_run}
use Rattle.np_top.proofs.Statuses.{faults-run, runs_site}
use Rattle.np_top.proofs.running.run.Goals as goal

pub returns : goal.returns
returns g c =
    runs_site (site_run c.args.plans) (faults-run c.args.plans) g.S.Source.facts g.K.Sink.facts g.E.Sink.facts c.args.source.now c.ending_of-ending.new.source c.args.out.now c.tell.new.out c.args.err.now c.tell.new.err
    c.tell.result c.ending_of-ending.result c.ending_of-ending.ensures c.tell.ensures
