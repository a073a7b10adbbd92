use Rattle.np_log.proofs.Prelude.{batch_text, take, ◌≡◌}
use Rattle.np_log.proofs.bytes.batch_text.Given as goal

abbrev pub invariant-loop-event : goal.invariant-loop-event
invariant-loop-event l = l.text.items ≡ batch_text (take l.event-index l.events)
