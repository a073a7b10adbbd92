use Rattle.np_log.proofs.Walks.{batch_of-told, batch_of-written}
use Rattle.np_log.proofs.law.a_batch_is_its_event_lines.Goals as goal

pub returns : goal.returns
returns c = record { read = batch_of-told; written = batch_of-written }
