use Rattle.np_report.proofs.Prelude.{ap, arith, drop, drop_min, lines_of, lines_of-walk, sym, take, ◌+◌, ◌-◌, ◌∙◌}
use Rattle.np_report.proofs.PlayedLemmas.{lines_read-said, lines_read-fault, lines_read-many}
use Rattle.np_report.proofs.lines.read_lines.Goals as goal

pub returns-then-most-line : goal.returns-then-most-line
returns-then-most-line g c =
    let text = c.args.text.now in
    let walk = (lines_of-walk text c.loop-start.from c.in-Some.start c.in-Some.end c.loop-start.invariant.within (sym c.line_at.ensures.answer ∙ c.in-Some.is)).1 in
    let said = rw walk at c.loop-start.invariant.said in
    sym (lines_read-many g.L.FromLine.said c.args.most c.loop-start.read.items c.loop-start.line (take (c.in-Some.end - c.in-Some.start) (drop c.in-Some.start text)) (lines_of (drop (c.in-Some.end + 1) text)) c.if-most-line.true) ∙ said

pub returns-in-Err : goal.returns-in-Err
returns-in-Err g c =
    let text = c.args.text.now in
    let walk = (lines_of-walk text c.loop-start.from c.in-Some.start c.in-Some.end c.loop-start.invariant.within (sym c.line_at.ensures.answer ∙ c.in-Some.is)).1 in
    let said = rw walk at c.loop-start.invariant.said in
    let told = ap g.L.FromLine.said (sym c.between.ensures) ∙ sym c.from_line.ensures ∙ c.in-Err.is in
    sym (lines_read-fault g.L.FromLine.said c.args.most c.loop-start.read.items c.loop-start.line (take (c.in-Some.end - c.in-Some.start) (drop c.in-Some.start text)) (lines_of (drop (c.in-Some.end + 1) text)) c.in-Err.fault (omega (arith, c.if-most-line.false)) told) ∙ said

pub loop-start-preserved : goal.loop-start-preserved
loop-start-preserved g c =
    let text = c.args.text.now in
    let walk = (lines_of-walk text c.loop-start.from c.in-Some.start c.in-Some.end c.loop-start.invariant.within (sym c.line_at.ensures.answer ∙ c.in-Some.is)).1 in
    let said = rw walk at c.loop-start.invariant.said in
    let told = ap g.L.FromLine.said (sym c.between.ensures) ∙ sym c.from_line.ensures ∙ c.in-Ok.is in
    record {
      within = omega (arith, c.min-from.ensures);
      room = c.loop-start.invariant.room;
      number = omega (arith, c.if-most-line.false);
      said = rw (c.in_ok-push-in-Ok.ensures.items, c.min-from.ensures, drop_min (c.in-Some.end + 1) text)
          (sym (lines_read-said g.L.FromLine.said c.args.most c.loop-start.read.items c.loop-start.line (take (c.in-Some.end - c.in-Some.start) (drop c.in-Some.start text)) (lines_of (drop (c.in-Some.end + 1) text)) c.in-Ok.item (omega (arith, c.if-most-line.false)) told) ∙ said);
    }
