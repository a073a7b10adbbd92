use Rattle.np_report.proofs.Prelude.{ap, later_lines, leading_events, played, reads, sym, ◌∙◌}
use Rattle.np_report.proofs.Findings.{few_newlines, finding-so, unread_so}
use Rattle.np_report.proofs.finding.audit.Goals as goal

pub compare-requires : goal.compare-requires
compare-requires c =
    let journal = played c.in-Ok.config (leading_events (later_lines c.split_line.result.1.now)) in
    few_newlines c.in-Ok.config journal c.in_ok-text-in-Ok.text.items c.as_slice.result.now c.in_ok-text-in-Ok.ensures c.as_slice.ensures.value

pub returns-in-Ok : goal.returns-in-Ok
returns-in-Ok c =
    let read = ap reads (sym c.split_line.ensures.line) ∙ sym c.in_ok-config.ensures ∙ c.in-Ok.is in
    finding-so c.in-Ok.config c.args.bytes.now c.split_line.result.1.now c.in_ok-text-in-Ok.text.items c.as_slice.result.now c.compare.result
    read c.in_ok-text-in-Ok.ensures c.split_line.ensures.later c.as_slice.ensures.value c.compare.ensures

pub returns : goal.returns
returns c =
    let unread = ap reads (sym c.split_line.ensures.line) ∙ sym c.in_ok-config.ensures ∙ c.in-Err.is in
    unread_so c.args.bytes.now c.in-Err.field-0 unread c.there_is_a_text.ensures
