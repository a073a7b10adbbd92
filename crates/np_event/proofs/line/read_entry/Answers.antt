use Rattle.np_event.proofs.Prelude.{sym, ◌∙◌}
use Rattle.np_event.proofs.Lines.{HasEntryLine-read}
use Rattle.np_event.proofs.line.read_entry.Goals as goal

pub returns-clause-has_line : goal.returns-clause-has_line
returns-clause-has_line c =
    HasEntryLine-read _ _ c.in_ok-event.reply.now _ _ (sym c.ok.ensures.value ∙ c.in_ok-event-2.was) c.read_event.ensures.has_line c.read_reply.ensures c.in_ok-reply.was
