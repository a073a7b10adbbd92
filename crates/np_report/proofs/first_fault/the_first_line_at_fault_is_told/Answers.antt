use Rattle.np_report.proofs.Prelude.{event_said, most_lines}
use Rattle.np_report.proofs.PlayedLemmas.{first-told, told-is_first}
use Rattle.np_report.proofs.first_fault.the_first_line_at_fault_is_told.Goals as goal

pub returns : goal.returns
returns c = λ lines n fault. (told-is_first event_said most_lines 1 n lines fault, first-told event_said most_lines 1 n lines fault)
