use Rattle.np_json.proofs.Prelude.{ap, false, list_any, map-append, nat_eq, ◌∙◌, ◌≡◌}
use Rattle.np_json.proofs.Lists.{list_any-map}
use Rattle.np_json.proofs.numbered.Marked.push.Goals as goal

pub invariant_of-self-2 : goal.invariant_of-self-2
invariant_of-self-2 g c =
    let number = g.T.Numbered.number c.args.row in
    let fresh : list_any (nat_eq number) c.self.inside.numbers.keys ≡ false =
    ap (list_any (nat_eq number)) c.self.invariant ∙ list_any-map (nat_eq number) g.T.Numbered.number c.self.inside.rows.items
    ∙ ap (list_any (λ row. nat_eq number (g.T.Numbered.number row))) c.self.view_is ∙ c.requires in
    rw (c.in_ok-insert.ensures.keys, c.in_ok-push.ensures.items, c.in_ok-reserve.ensures.items, c.number.ensures, fresh, map-append, c.self.invariant)
