use Rattle.np_rules.proofs.RunLemmas.{RunsOn-fits}
use Rattle.np_rules.proofs.machine.Machine.judge.Goals as goal

pub decide-requires : goal.decide-requires
decide-requires g c = RunsOn-fits _ _ _ _ c.know_soundness.ensures.site c.know_soundness.ensures.runs
