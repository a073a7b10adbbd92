use Rattle.np_event.proofs.Lines.{entry_line-no_bar, is_line-entry, is_line-event}
use Rattle.np_event.proofs.law.a_line_is_one_line.Goals as goal

pub returns : goal.returns
returns c = record { event = is_line-event; entry = is_line-entry; no_bar = entry_line-no_bar }
