use Rattle.np_log.proofs.Prelude.{event_forms, event_in, record_in, refl, walk, walk_of}
use Rattle.np_log.proofs.law.a_worked_log_says_its_events.Goals as goal

pub returns : goal.returns
unfolding walk_of walk record_in event_in event_forms
returns c = record { start = refl; start_bytes = refl; tick = refl; tick_bytes = refl; closed = refl }
