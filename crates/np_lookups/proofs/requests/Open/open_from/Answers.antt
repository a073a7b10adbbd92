use Rattle.np_lookups.proofs.Prelude.{Group, IsRunEnd, List, Member, Rank, Some, ap, closed_group, has_member, is_closed_rank, ranks_of, same_rank, slice_get, subst, sym, true, ◌∙◌, ◌≡◌}
use Rattle.np_lookups.proofs.LineLemmas.{open-after}
use Rattle.np_lookups.proofs.requests.Open.open_from.Goals as goal

pub returns : goal.returns
returns c site s are =
    let there : slice_get (ranks_of c.args.line c.args.self.now.members) c.args.place ≡ Some c.in-Some.rank = sym c.at.ensures ∙ c.in-Some.is in
    let is : is_closed_rank c.args.line c.args.pool c.in-Some.rank c.args.self.now.members ≡ true =
    ap (λ (ms : List (Member Rank)). is_closed_rank c.args.line c.args.pool c.in-Some.rank ms) (sym (ap (λ kept. kept.members) c.self.view_is))
    ∙ ap (λ (g : Group). has_member same_rank g c.in-Some.rank c.self.inside.groups.members) (sym c.closed_group-group.ensures)
    ∙ sym c.has.ensures ∙ c.if-not-has.false in
    open-after site s c.args.self.now are c.args.line c.args.pool c.args.place c.in-Some.rank there is c.run_end.result
    (subst (λ (ms : List (Member Rank)). IsRunEnd c.args.line (closed_group c.args.line c.args.pool) ms c.args.place c.run_end.result) (ap (λ kept. kept.members) c.self.view_is)
    (subst (λ (g : Group). IsRunEnd c.args.line g c.self.inside.groups.members c.args.place c.run_end.result) c.closed_group-group.ensures c.run_end.ensures))
