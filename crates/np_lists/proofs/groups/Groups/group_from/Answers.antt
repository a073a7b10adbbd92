use Rattle.np_lists.proofs.Prelude.{ap, group_from, option_map, sym, ◌∙◌}
use Rattle.np_lists.proofs.Members.{from-there}
use Rattle.np_lists.proofs.groups.Groups.group_from.Goals as goal

pub returns-in_err-at : goal.returns-in_err-at
returns-in_err-at g c =
    c.from_residual.ensures
    ∙ ap (option_map (λ m. m.group)) (sym c.in_err-at.was)
    ∙ from-there c.args.group c.self.inside.rows.items c.start_of-start.result c.at.result c.at.ensures c.start_of-start.ensures
    ∙ ap (λ known. group_from c.args.group known.members) c.self.view_is

pub returns : goal.returns
returns g c =
    ap (option_map (λ m. m.group)) (sym c.in_ok-at.was)
    ∙ from-there c.args.group c.self.inside.rows.items c.start_of-start.result c.at.result c.at.ensures c.start_of-start.ensures
    ∙ ap (λ known. group_from c.args.group known.members) c.self.view_is
