use Rattle.np_report.proofs.Prelude.{None, Some, arith, event_told, length, ◌+◌, ◌∙◌, ◌≡◌, ◌≤◌}
use Rattle.np_report.proofs.PlayedLemmas.{few-next, none_left, some_left, told-end, told-full, told-next, told-stop}
use Rattle.np_report.proofs.entries.leading_events.Goals as goal

pub returns-then-len-eq-JOURNAL_ENTRIES : goal.returns-then-len-eq-JOURNAL_ENTRIES
returns-then-len-eq-JOURNAL_ENTRIES c =
    let full : length c.loop-rest.events.items ≡ 262144 = omega (arith, c.len.ensures) in
    c.new.ensures ∙ told-full c.args.text.now c.loop-rest.rest.now c.loop-rest.events.items full c.loop-rest.invariant.told

pub returns-in_default : goal.returns-in_default
returns-in_default c =
    let some = some_left c.loop-rest.rest.now c.loop-rest-test.ensures in
    let none : event_told c.split_line.result.0.now ≡ None = cc (c.in_default.ensures) in
    c.new-in_default.ensures
    ∙ told-stop c.args.text.now c.loop-rest.rest.now c.split_line.result.0.now c.loop-rest.events.items some c.split_line.ensures.line none c.loop-rest.invariant.few c.loop-rest.invariant.told

pub loop-rest-preserved : goal.loop-rest-preserved
loop-rest-preserved c =
    let events = c.loop-rest.events.items in
    let some = some_left c.loop-rest.rest.now c.loop-rest-test.ensures in
    let told : event_told c.split_line.result.0.now ≡ Some c.in-Some.event = cc (c.in-Some.ensures) in
    let room : length events + 1 ≤ 262144 = omega (arith, c.len.ensures) in
    record {
      few = few-next events c.push.new.self.items c.in-Some.event room c.in_ok-push.ensures.items;
      told = told-next c.args.text.now c.loop-rest.rest.now c.split_line.result.0.now c.split_line.result.1.now events c.push.new.self.items c.in-Some.event some
          c.split_line.ensures.line c.split_line.ensures.later told c.in_ok-push.ensures.items c.loop-rest.invariant.told;
    }

pub returns : goal.returns
returns c =
    let none = none_left c.loop-rest.rest.now c.loop-rest-test.ensures in
    c.new-2.ensures ∙ told-end c.args.text.now c.loop-rest.rest.now c.loop-rest.events.items none c.loop-rest.invariant.few c.loop-rest.invariant.told
