use Rattle.np_report.proofs.Prelude.{reads-takes, worked, worked_text}
use Rattle.np_report.proofs.Findings.{begins-nothing}
use Rattle.np_report.proofs.finding.there_is_a_text.Goals as goal

pub returns : goal.returns
returns c = begins-nothing worked (reads-takes worked_text worked c.a_worked_text_is_read_and_printed.ensures.read)
