use Rattle.np_event.proofs.Lines.{event_in-spelled, event_in-words, event_line-injective}
use Rattle.np_event.proofs.law.an_event_has_one_line.Goals as goal

pub returns : goal.returns
returns c = record { reads_back = event_in-words; spelled = event_in-spelled; apart = event_line-injective }
