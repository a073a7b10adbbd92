use Rattle.np_rules.proofs.Prelude.{IsFitSite, sound_fits, subst}
use Rattle.np_rules.proofs.RunLemmas.{RunsOn-reached, RunsOn-fits}
use Rattle.np_rules.proofs.machine.Machine.of_tables.Goals as goal

pub rebuild-requires-clause-reached : goal.rebuild-requires-clause-reached
rebuild-requires-clause-reached g c = RunsOn-reached _ _ _ _ c.requires.runs

pub rebuild-requires-clause-fits : goal.rebuild-requires-clause-fits
rebuild-requires-clause-fits g c = RunsOn-fits _ _ _ _ (subst IsFitSite c.config.ensures (sound_fits c.config.result.now c.know_soundness.ensures)) c.requires.runs

pub invariant_of-result : goal.invariant_of-result
invariant_of-result g c = record {
  site = subst IsFitSite c.config.ensures (sound_fits c.config.result.now c.know_soundness.ensures);
  runs = rw c.new.ensures.items c.requires.runs;
  index = c.in-Ok.ensures;
  held = c.requires.held;
}
