use Rattle.np_spelling.proofs.Prelude.{ap, arith, length, length-append, option_map, rest_in, sym, with_front, [], ◌+◌, ◌-◌, ◌<◌, ◌∙◌, ◌∷◌}
use Rattle.np_spelling.proofs.Readers.{pushed_row, rest_item, rest_last, rest_no_comma, rest_no_item, rest_shut}
use Rattle.np_spelling.proofs.list.rest.Goals as goal

pub returns-then-begins : goal.returns-then-begins
returns-then-begins g c =
    sym c.loop-at.invariant.0
    ∙ rest_shut g.T.Part.reads c.loop-at.row c.args.room c.loop-at.at c.loop-at.cursor c.lead.new.self c.lead.result c.loop-at-test.true (sym c.begins.ensures ∙ c.if-begins.true) c.lead.ensures

pub returns-in_err-lead : goal.returns-in_err-lead
returns-in_err-lead g c =
    sym c.loop-at.invariant.0
    ∙ rest_no_comma g.T.Part.reads c.loop-at.row c.args.room c.loop-at.at c.loop-at.cursor c.lead-in-loop-at.new.self c.loop-at-test.true (sym c.begins.ensures ∙ c.if-begins.false) c.in_err-lead.ensures
    ∙ ap (λ o. (option_map (λ u. c.loop-at.row) o, c.lead-in-loop-at.new.self)) (sym c.from_residual.ensures)

pub returns-in_err-item : goal.returns-in_err-item
returns-in_err-item g c =
    sym c.loop-at.invariant.0
    ∙ rest_no_item g.T.Part.reads c.loop-at.row c.args.room c.loop-at.at c.loop-at.cursor c.lead-in-loop-at.new.self c.part.new.cursor c.loop-at-test.true (sym c.begins.ensures ∙ c.if-begins.false) c.in_ok-lead.ensures c.in_err-item.ensures
    ∙ ap (λ o. (option_map (λ u. c.loop-at.row) o, c.part.new.cursor)) (sym c.from_residual-in_err-item.ensures)

pub loop-at-preserved : goal.loop-at-preserved
loop-at-preserved g c =
    let room : length c.loop-at.row < g.row.N = omega (arith, c.loop-at-test.true, c.loop-at.invariant.1) in
    let pushed = pushed_row c.push.result g.row.N c.loop-at.row c.push.new.self c.in_ok-item.item c.push.ensures.room c.push.ensures.pushed room in
    let step = rest_item g.T.Part.reads c.loop-at.row c.args.room c.loop-at.at c.loop-at.cursor c.lead-in-loop-at.new.self c.part.new.cursor c.in_ok-item.item c.loop-at-test.true (sym c.begins.ensures ∙ c.if-begins.false) c.in_ok-lead.ensures c.in_ok-item.ensures in
    let long = ap length pushed ∙ length-append c.loop-at.row (c.in_ok-item.item ∷ []) in (
      ap (λ row. with_front row (rest_in g.T.Part.reads (c.args.room - (c.loop-at.at + 1)) c.part.new.cursor)) pushed ∙ sym step ∙ c.loop-at.invariant.0,
      omega (arith, long, c.loop-at-test.true, c.loop-at.invariant.1),
    )

pub returns : goal.returns
returns g c = sym c.loop-at.invariant.0 ∙ rest_last g.T.Part.reads c.loop-at.row c.args.room c.loop-at.at c.loop-at.cursor c.lead-2.new.self c.lead-2.result c.loop-at-test.false c.lead-2.ensures
