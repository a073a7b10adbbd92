use Rattle.np_rules.proofs.RunLemmas.{RunsOn-start}
use Rattle.np_rules.proofs.machine.Machine.begin.Goals as goal

pub of_tables-requires-clause-runs : goal.of_tables-requires-clause-runs
of_tables-requires-clause-runs g c = rw (c.in_ok-tables.ensures.configuration, c.in_ok-tables.ensures.state) (RunsOn-start c.args.config)

pub of_tables-requires-clause-held : goal.of_tables-requires-clause-held
of_tables-requires-clause-held g c = rw (c.in_ok-tables.ensures.configuration, c.in_ok-tables.ensures.state) c.requires
