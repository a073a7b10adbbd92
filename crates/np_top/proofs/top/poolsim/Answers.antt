use Rattle.np_top.proofs.Prelude.{Ending, false, hosted_run, inl, keeps, plain_run, planned_run, refl, replays, resumes, true}
use Rattle.np_top.proofs.Statuses.{audits, drills, faults-hosted, faults-run, runs_site}
use Rattle.np_top.proofs.top.poolsim.Goals as goal

pub returns-in-Err-clause-replay : goal.returns-in-Err-clause-replay
returns-in-Err-clause-replay g c is = (
  refl,
  replays g.S.Source.facts g.K.Sink.facts g.E.Sink.facts c.args.source.now c.args.source.now c.args.out.now c.tell.new.out c.args.err.now c.tell.new.err
      c.tell.result Ending.NoMemory tt c.tell.ensures,
)

pub returns-in-Err-clause-run : goal.returns-in-Err-clause-run
returns-in-Err-clause-run g c is = (
  refl,
  runs_site plain_run (faults-run false) g.S.Source.facts g.K.Sink.facts g.E.Sink.facts c.args.source.now c.args.source.now c.args.out.now c.tell.new.out c.args.err.now c.tell.new.err
      c.tell.result Ending.NoMemory tt c.tell.ensures,
)

pub returns-in-Err-clause-run_hosts : goal.returns-in-Err-clause-run_hosts
returns-in-Err-clause-run_hosts g c is = (
  refl,
  runs_site hosted_run faults-hosted g.S.Source.facts g.K.Sink.facts g.E.Sink.facts c.args.source.now c.args.source.now c.args.out.now c.tell.new.out c.args.err.now c.tell.new.err
      c.tell.result Ending.NoMemory tt c.tell.ensures,
)

pub returns-in-Err-clause-run_planned : goal.returns-in-Err-clause-run_planned
returns-in-Err-clause-run_planned g c is = (
  refl,
  runs_site planned_run (faults-run true) g.S.Source.facts g.K.Sink.facts g.E.Sink.facts c.args.source.now c.args.source.now c.args.out.now c.tell.new.out c.args.err.now c.tell.new.err
      c.tell.result Ending.NoMemory tt c.tell.ensures,
)

pub returns-in-Err-clause-audit : goal.returns-in-Err-clause-audit
returns-in-Err-clause-audit g c is = (
  refl,
  audits g.S.Source.facts g.K.Sink.facts g.E.Sink.facts c.args.source.now c.args.source.now c.args.out.now c.tell.new.out c.args.err.now c.tell.new.err
      c.tell.result Ending.NoMemory tt c.tell.ensures,
)

pub returns-in-Err-clause-drill : goal.returns-in-Err-clause-drill
returns-in-Err-clause-drill g c jobs is = (
  refl,
  refl,
  drills g.K.Sink.facts g.E.Sink.facts jobs c.args.out.now c.tell.new.out c.args.err.now c.tell.new.err c.tell.result Ending.NoMemory tt c.tell.ensures,
)

pub returns-in-Err-clause-keep : goal.returns-in-Err-clause-keep
returns-in-Err-clause-keep g c file is =
    keeps g.S.Source.facts g.K.Sink.facts g.E.Sink.facts g.D.Disk.facts c.args.source.now c.args.source.now c.args.out.now c.tell.new.out c.args.err.now c.tell.new.err
    c.args.disk.now c.args.disk.now c.tell.result Ending.NoMemory tt (inl refl) c.tell.ensures

pub returns-in-Err-clause-resume : goal.returns-in-Err-clause-resume
returns-in-Err-clause-resume g c file is =
    resumes g.S.Source.facts g.K.Sink.facts g.E.Sink.facts g.D.Disk.facts c.args.source.now c.args.source.now c.args.out.now c.tell.new.out c.args.err.now c.tell.new.err
    c.args.disk.now c.args.disk.now c.tell.result Ending.NoMemory tt (inl refl) c.tell.ensures
