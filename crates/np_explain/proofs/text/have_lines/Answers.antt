use Rattle.np_explain.proofs.Prelude.{arith, length, ◌<◌}
use Rattle.np_explain.proofs.JournalLines.{all_next}
use Rattle.np_explain.proofs.text.have_lines.Goals as goal

pub loop-entry-preserved : goal.loop-entry-preserved
loop-entry-preserved c =
    let within : c.loop-entry.entry-index < length c.args.journal.now = omega (arith, c.loop-entry-test.true) in
    all_next c.args.journal.now c.loop-entry.entry-index _ within (c.event_has_line.ensures.0 c.if-not-event_has_line.false) c.loop-entry.invariant
