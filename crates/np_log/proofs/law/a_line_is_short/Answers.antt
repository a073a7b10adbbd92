use Rattle.np_log.proofs.Writes.{batch_text-short, event_line-short}
use Rattle.np_log.proofs.law.a_line_is_short.Goals as goal

pub returns : goal.returns
returns c = record { line = event_line-short; batch = batch_text-short }
