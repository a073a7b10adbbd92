use Rattle.np_static.proofs.Prelude.{arith, drop, drop_min, host_said, lines_of, lines_of-walk, lines_read-fault, lines_read-many, lines_read-said, sym, take, ◌+◌, ◌-◌, ◌∙◌, ◌≤◌}
use Rattle.np_static.proofs.read.read_lines.Goals as goal

pub returns-then-from-gt-HOSTS : goal.returns-then-from-gt-HOSTS
returns-then-from-gt-HOSTS c =
    let text = c.args.bytes.now in
    let walk = (lines_of-walk text c.loop-start.from c.in-Some.start c.in-Some.end c.loop-start.invariant.within (sym c.line_at.ensures.answer ∙ c.in-Some.is)).1 in
    let said = rw walk at c.loop-start.invariant.said in
    sym (lines_read-many (host_said c.args.pools) 1024 c.loop-start.read.items c.loop-start.line (take (c.in-Some.end - c.in-Some.start) (drop c.in-Some.start text)) (lines_of (drop (c.in-Some.end + 1) text)) (omega (arith, c.if-from-gt-HOSTS.true, c.from.ensures))) ∙ said

pub returns-in-Err : goal.returns-in-Err
returns-in-Err c =
    let text = c.args.bytes.now in
    let walk = (lines_of-walk text c.loop-start.from c.in-Some.start c.in-Some.end c.loop-start.invariant.within (sym c.line_at.ensures.answer ∙ c.in-Some.is)).1 in
    let said = rw walk at c.loop-start.invariant.said in
    let few : c.loop-start.line ≤ 1024 = omega (arith, c.if-from-gt-HOSTS.false, c.from.ensures) in
    sym (lines_read-fault (host_said c.args.pools) 1024 c.loop-start.read.items c.loop-start.line (take (c.in-Some.end - c.in-Some.start) (drop c.in-Some.start text)) (lines_of (drop (c.in-Some.end + 1) text)) c.in-Err.fault few (sym c.read_host.ensures ∙ c.in-Err.is)) ∙ said

pub loop-start-preserved : goal.loop-start-preserved
loop-start-preserved c =
    let text = c.args.bytes.now in
    let walk = (lines_of-walk text c.loop-start.from c.in-Some.start c.in-Some.end c.loop-start.invariant.within (sym c.line_at.ensures.answer ∙ c.in-Some.is)).1 in
    let said = rw walk at c.loop-start.invariant.said in
    let few : c.loop-start.line ≤ 1024 = omega (arith, c.if-from-gt-HOSTS.false, c.from.ensures) in
    record {
      within = omega (arith, c.min-from.ensures);
      number = omega arith;
      said = rw (c.in_ok-push-in-Ok.ensures.items, c.min-from.ensures, drop_min (c.in-Some.end + 1) text)
          (sym (lines_read-said (host_said c.args.pools) 1024 c.loop-start.read.items c.loop-start.line (take (c.in-Some.end - c.in-Some.start) (drop c.in-Some.start text)) (lines_of (drop (c.in-Some.end + 1) text)) c.in-Ok.host few (sym c.read_host.ensures ∙ c.in-Ok.is)) ∙ said);
    }
