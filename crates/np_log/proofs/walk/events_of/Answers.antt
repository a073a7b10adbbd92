use Rattle.np_log.proofs.Prelude.{List, Some, ap, arith, drop, drop_min, event_in, events_of, line_in, lines_of, lines_of-walk, sym, take, words_of, ℕ, ◌+◌, ◌-◌, ◌∙◌, ◌≡◌}
use Rattle.np_log.proofs.Walks.{events_of-fault, events_of-read, events_then}
use Rattle.np_log.proofs.walk.events_of.Goals as goal

pub returns-in_default-read_event : goal.returns-in_default-read_event
returns-in_default-read_event c =
    let text = c.args.text.now in
    let from = c.loop-start in
    let here : line_in text from.from ≡ Some (c.in-Some.start, c.in-Some.end) = sym c.line_at.ensures.answer ∙ c.in-Some.is in
    let walk = (lines_of-walk text from.from c.in-Some.start c.in-Some.end from.invariant.within here).1 in
    let line = take (c.in-Some.end - c.in-Some.start) (drop c.in-Some.start text) in
    sym (events_of-fault from.events.items line (lines_of (drop (c.in-Some.end + 1) text)) c.in_default-read_event.field-0
    (ap (λ (l : List ℕ). event_in (words_of l)) (sym c.between.ensures) ∙ sym c.read_event.ensures.answer ∙ c.in_default-read_event.is))
    ∙ sym (ap (λ (lines : List (List ℕ)). events_then from.events.items (events_of lines)) walk)
    ∙ from.invariant.same

pub loop-start-preserved : goal.loop-start-preserved
loop-start-preserved c =
    let text = c.args.text.now in
    let from = c.loop-start in
    let here : line_in text from.from ≡ Some (c.in-Some.start, c.in-Some.end) = sym c.line_at.ensures.answer ∙ c.in-Some.is in
    let walk = (lines_of-walk text from.from c.in-Some.start c.in-Some.end from.invariant.within here).1 in
    let line = take (c.in-Some.end - c.in-Some.start) (drop c.in-Some.start text) in
    let next : lines_of (drop c.min-from.result text) ≡ lines_of (drop (c.in-Some.end + 1) text) =
    ap (λ (n : ℕ). lines_of (drop n text)) c.min-from.ensures ∙ ap lines_of (drop_min (c.in-Some.end + 1) text) in
    record {
      within = omega (arith, c.min-from.ensures);
      same =
          (λ i. events_then (c.in_ok-push.ensures.items i) (events_of (next i)))
          ∙ sym (events_of-read from.events.items line (lines_of (drop (c.in-Some.end + 1) text)) c.in-Ok.event
          (ap (λ (l : List ℕ). event_in (words_of l)) (sym c.between.ensures) ∙ sym c.read_event.ensures.answer ∙ c.in-Ok.is))
          ∙ sym (ap (λ (lines : List (List ℕ)). events_then from.events.items (events_of lines)) walk)
          ∙ from.invariant.same;
    }
