use Rattle.np_event.proofs.Lines.{HasEventLine-read}
use Rattle.np_event.proofs.line.read_event.Goals as goal

pub returns-clause-has_line : goal.returns-clause-has_line
returns-clause-has_line c =
    HasEventLine-read c.in_ok-form.form _ _ _ c.in_ok-fields.fields _ c.row.ensures.kinds c.row_fields.ensures c.in_ok-fields.was c.event_of.ensures
