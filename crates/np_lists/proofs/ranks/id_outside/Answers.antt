-- the id at the last place has the rank, or none has it
use Rattle.np_lists.proofs.Prelude.{false_from_ne_true, sym, ◌==◌, ◌∙◌}
use Rattle.np_lists.proofs.Members.{id-wanted}
use Rattle.np_lists.proofs.Plain.{equal-numbers, same_number}
use Rattle.np_lists.proofs.ranks.id_outside.Goals.{then-rank_at-at-via-then-rank_at-at, then-rank_at-at-via-else-rank_at-at+then-has}
use Rattle.np_lists.proofs.ranks.id_outside.Goals as goal

pub returns-then-rank_at-at : goal.returns-then-rank_at-at
returns-then-rank_at-at g c = λ ranked.
    let wanted = id-wanted g.O.Order.before g.O.Order.same g.met.O.Order.one_way g.met.O.Order.some_way g.met.O.Order.equal
    c.args.inner c.args.groups.now.members (g.I.Ids.ids c.args.ids.now) ranked c.args.at c.last_place-place.result
    (record { most = c.last_place-place.ensures.most ranked; last = c.last_place-place.ensures.last ranked })
    c.in_ok-id.id (sym c.at.ensures ∙ c.in_ok-id.was) c.rank_at.result c.rank_at.ensures in
    elim c.then-rank_at-at.branch [
      | then-rank_at-at-via-then-rank_at-at w ↦ rw (false_from_ne_true (c.rank_at.result == c.args.at) (λ is. w.if-rank_at-at.true (equal-numbers _ _ is))) at wanted.0
      | then-rank_at-at-via-else-rank_at-at+then-has w ↦ wanted.1 (sym w.has.ensures ∙ w.if-has.true)
    ]

pub returns : goal.returns
returns g c = λ ranked.
    let wanted = id-wanted g.O.Order.before g.O.Order.same g.met.O.Order.one_way g.met.O.Order.some_way g.met.O.Order.equal
    c.args.inner c.args.groups.now.members (g.I.Ids.ids c.args.ids.now) ranked c.args.at c.last_place-place.result
    (record { most = c.last_place-place.ensures.most ranked; last = c.last_place-place.ensures.last ranked })
    c.in_ok-id.id (sym c.at.ensures ∙ c.in_ok-id.was) c.rank_at.result c.rank_at.ensures in
    rw (same_number c.rank_at.result c.args.at c.if-rank_at-at.false, sym c.has.ensures ∙ c.if-has.false) at wanted.0
