use Rattle.np_log.proofs.Prelude.{Event, IfSome, LeavesOnly, List, SaysAllOrNone, ap, arith, content_of, content_with, length, length-drop, option_map, subst, take, ◌+◌, ◌∙◌, ◌≡◌, ◌≤◌}
use Rattle.np_log.proofs.Writes.{content_more, run_more}
use Rattle.np_log.proofs.log.Log.append_all.Goals as goal

pub returns-in_err-log-clause-any_moment : goal.returns-in_err-log-clause-any_moment
returns-in_err-log-clause-any_moment g c =
    let batch_is = c.split_at-in-loop-at.ensures.front ∙ ap (take c.min-count.result) c.split_at.ensures.back in
    let within : c.loop-at.at + c.min-count.result ≤ length c.args.events.now = omega (arith, c.min-count.ensures, ap length c.split_at.ensures.back, length-drop c.loop-at.at c.args.events.now) in
    run_more (g.D.Disk.facts c.args.disk.now).now (g.D.Disk.facts c.loop-at.disk).now (g.D.Disk.facts c.args.disk.now) (g.D.Disk.facts c.loop-at.disk) (g.D.Disk.facts c.append.new.disk) c.args.events.now c.loop-at.at c.min-count.result within c.loop-at.invariant.content c.loop-at.invariant.any_moment
    (subst (λ (batch : List Event). IfSome (g.D.Disk.facts c.loop-at.disk).now (λ file. LeavesOnly (g.D.Disk.facts c.loop-at.disk) (g.D.Disk.facts c.append.new.disk) (SaysAllOrNone (content_of file) batch))) batch_is c.append.ensures.any_moment)

pub loop-at-preserved : goal.loop-at-preserved
loop-at-preserved g c =
    let batch_is = c.split_at-in-loop-at.ensures.front ∙ ap (take c.min-count.result) c.split_at.ensures.back in
    let within : c.loop-at.at + c.min-count.result ≤ length c.args.events.now = omega (arith, c.min-count.ensures, ap length c.split_at.ensures.back, length-drop c.loop-at.at c.args.events.now) in
    record {
      within = within;
      count = omega (arith, c.loop-at.invariant.count, c.in_ok-log.ensures.count, c.split_at-in-loop-at.ensures.front_len);
      settled = c.in_ok-log.ensures.settled;
      content = content_more (g.D.Disk.facts c.args.disk.now).now (g.D.Disk.facts c.loop-at.disk).now (g.D.Disk.facts c.append.new.disk).now c.args.events.now c.loop-at.at c.min-count.result c.loop-at.invariant.content
          (subst (λ (batch : List Event). option_map content_of (g.D.Disk.facts c.append.new.disk).now ≡ option_map (λ file. content_with (content_of file) batch) (g.D.Disk.facts c.loop-at.disk).now) batch_is c.in_ok-log.ensures.content);
      any_moment = run_more (g.D.Disk.facts c.args.disk.now).now (g.D.Disk.facts c.loop-at.disk).now (g.D.Disk.facts c.args.disk.now) (g.D.Disk.facts c.loop-at.disk) (g.D.Disk.facts c.append.new.disk) c.args.events.now c.loop-at.at c.min-count.result within c.loop-at.invariant.content c.loop-at.invariant.any_moment
          (subst (λ (batch : List Event). IfSome (g.D.Disk.facts c.loop-at.disk).now (λ file. LeavesOnly (g.D.Disk.facts c.loop-at.disk) (g.D.Disk.facts c.append.new.disk) (SaysAllOrNone (content_of file) batch))) batch_is c.append.ensures.any_moment);
      later = omega (arith, c.loop-at.invariant.later, c.append.ensures.later);
    }
