use Rattle.np_lists.proofs.Prelude.{ap, group_after, option_map, sym, ◌∙◌}
use Rattle.np_lists.proofs.Members.{after-there}
use Rattle.np_lists.proofs.groups.Groups.group_after.Goals as goal

pub returns-in_err-at : goal.returns-in_err-at
returns-in_err-at g c =
    c.from_residual.ensures
    ∙ ap (option_map (λ m. m.group)) (sym c.in_err-at.was)
    ∙ after-there c.args.group c.self.inside.rows.items c.end_of-end.result c.at.result c.at.ensures c.end_of-end.ensures
    ∙ ap (λ known. group_after c.args.group known.members) c.self.view_is

pub returns : goal.returns
returns g c =
    ap (option_map (λ m. m.group)) (sym c.in_ok-at.was)
    ∙ after-there c.args.group c.self.inside.rows.items c.end_of-end.result c.at.result c.at.ensures c.end_of-end.ensures
    ∙ ap (λ known. group_after c.args.group known.members) c.self.view_is
