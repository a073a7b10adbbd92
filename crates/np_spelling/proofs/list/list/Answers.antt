use Rattle.np_spelling.proofs.Prelude.{ap, arith, length, rest_in, sym, with_front, [], ◌++◌, ◌-◌, ◌<◌, ◌∙◌, ◌∷◌}
use Rattle.np_spelling.proofs.Readers.{list_items, pushed_row}
use Rattle.np_spelling.proofs.list.list.Goals as goal

pub returns : goal.returns
returns g c =
    let none = ap length c.requires.empty in
    let room : length c.args.row.now < g.row.N = omega (arith, none, c.requires.some) in
    let pushed = pushed_row c.push.result g.row.N c.args.row.now c.push.new.self c.in_ok-item.item c.push.ensures.room c.push.ensures.pushed room
    ∙ ap (λ row. row ++ c.in_ok-item.item ∷ []) c.requires.empty in
    list_items g.T.Part.reads (g.row.N - 1) c.args.cursor.now c.lead.new.self c.part.new.cursor c.in_ok-item.item c.in_ok-lead.ensures (sym c.begins.ensures ∙ c.if-begins.false) c.in_ok-item.ensures
    ∙ ap (λ row. with_front row (rest_in g.T.Part.reads (g.row.N - 1) c.part.new.cursor)) (sym pushed)
    ∙ c.rest.ensures
