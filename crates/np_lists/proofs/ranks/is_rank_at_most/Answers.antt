-- the ids of the inner group before the one at the place are those before the place
use Rattle.np_lists.proofs.Prelude.{ap, arith, nat_le, sym, ℕ, ◌∙◌}
use Rattle.np_lists.proofs.Members.{outside-rank}
use Rattle.np_lists.proofs.Plain.{past-end}
use Rattle.np_lists.proofs.ranks.is_rank_at_most.Goals as goal

pub returns-in-Some : goal.returns-in-Some
returns-in-Some g c = λ ranked within.
    ap (λ (n : ℕ). nat_le n c.args.at)
    (c.rank_at.ensures
    ∙ outside-rank g.O.Order.before g.O.Order.same g.met.O.Order.one_way g.met.O.Order.some_way g.met.O.Order.equal
    c.args.inner c.args.groups.now.members (g.I.Ids.ids c.args.ids.now) ranked c.args.place c.in-Some.id (sym c.at.ensures ∙ c.in-Some.is))

pub returns-in-None : goal.returns-in-None
returns-in-None g c = λ ranked within.
    let past = past-end (g.I.Ids.ids c.args.ids.now) c.args.place (sym c.at.ensures ∙ c.in-None.is) in
    absurd (omega arith)
