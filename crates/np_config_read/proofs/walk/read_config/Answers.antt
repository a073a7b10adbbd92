use Rattle.np_config_read.proofs.Prelude.{IsSound, configuration_at, reads, view}
use Rattle.np_config_read.proofs.Parsed.{parsed-none, parsed-some}
use Rattle.np_config_read.proofs.WalkTakes.{configuration-takes, gives_ok}
use Rattle.np_config_read.proofs.walk.read_config.Goals as goal

pub returns-in-Ok : goal.returns-in-Ok
unfolding reads
returns-in-Ok c = record {
  exact = rw (parsed-some _ _ c.in-Ok.ensures.ok.0 c.in-Ok.ensures.ok.1) c.configuration_of.ensures;
  sound = gives_ok IsSound _ (configuration_at (view c.in-Ok.value)) (configuration-takes (view c.in-Ok.value)) c.configuration_of.ensures;
}

pub returns-in_default : goal.returns-in_default
unfolding reads
returns-in_default c = record {
  exact = rw (parsed-none _ (c.in-Err.ensures.err (λ e. c.in_default.not-Memory (c.classify.ensures.memory.1 e)))) c.fault_at.ensures;
  sound = tt;
}
