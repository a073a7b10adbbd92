use Rattle.np_json.proofs.Prelude.{ap, list_any, nat_eq, ◌∙◌}
use Rattle.np_json.proofs.Lists.{list_any-map}
use Rattle.np_json.proofs.numbered.Marked.has.Goals as goal

pub returns : goal.returns
returns g c =
    let number = c.args.number in
    c.contains.ensures ∙ ap (list_any (nat_eq number)) c.self.invariant ∙ list_any-map (nat_eq number) g.T.Numbered.number c.self.inside.rows.items
    ∙ ap (list_any (λ row. nat_eq number (g.T.Numbered.number row))) c.self.view_is
