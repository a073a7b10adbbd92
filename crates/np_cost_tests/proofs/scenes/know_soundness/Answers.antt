use Rattle.np_rules.proofs.RunLemmas.{RunsOn-fits, RunsOn-reached}
use Rattle.np_cost_tests.proofs.scenes.know_soundness.Goals as goal

pub returns-clause-reached : goal.returns-clause-reached
returns-clause-reached c = RunsOn-reached _ _ _ _ c.know_soundness.ensures.runs

pub returns-clause-fits : goal.returns-clause-fits
returns-clause-fits c = RunsOn-fits _ _ _ _ c.know_soundness.ensures.site c.know_soundness.ensures.runs
