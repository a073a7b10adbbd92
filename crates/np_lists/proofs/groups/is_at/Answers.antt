-- where the members before it end this one is, or there is none
use Rattle.np_lists.proofs.Prelude.{OnFalse_from, OnTrue_from, arith, get_or_from_slice_get, is_member_before, same_member, slice_get_within, sym, ◌∙◌}
use Rattle.np_lists.proofs.Members.{member-equal, member-one_way, member-transitive}
use Rattle.np_lists.proofs.Searches.{apart, found, key_absent}
use Rattle.np_lists.proofs.Plain.{past-end}
use Rattle.np_lists.proofs.groups.is_at.Goals as goal

pub returns-in-Some-clause-yes : goal.returns-in-Some-clause-yes
returns-in-Some-clause-yes g c =
    let there = sym c.at.ensures ∙ c.in-Some.is in
    OnTrue_from c.is_same_member.result _ (λ is.
    found (λ m. is_member_before g.O.Order.before m c.args.one) (λ m. same_member g.O.Order.same m c.args.one) (λ m. apart (is_member_before g.O.Order.before) (same_member g.O.Order.same)
    (member-one_way g.O.Order.before g.met.O.Order.one_way) (member-equal g.O.Order.same g.met.O.Order.equal) m c.args.one) c.args.members.now.items
    c.args.at c.in-Some.other c.requires.point (slice_get_within c.args.members.now.items c.args.at c.in-Some.other there)
    (rw (get_or_from_slice_get c.args.members.now.items c.args.at c.in-Some.other c.in-Some.other there) (sym c.is_same_member.ensures ∙ is)))

pub returns-in-Some-clause-no : goal.returns-in-Some-clause-no
returns-in-Some-clause-no g c =
    let item = get_or_from_slice_get c.args.members.now.items c.args.at c.in-Some.other c.in-Some.other (sym c.at.ensures ∙ c.in-Some.is) in
    OnFalse_from c.is_same_member.result _ (λ is.
    key_absent (λ m. m) (is_member_before g.O.Order.before) (same_member g.O.Order.same) (member-transitive g.O.Order.before g.met.O.Order.transitive)
    (member-one_way g.O.Order.before g.met.O.Order.one_way) (member-equal g.O.Order.same g.met.O.Order.equal) c.args.one c.args.members.now.items
    c.args.at c.requires.rises c.requires.point (λ within. (c.in-Some.other, rw item (sym c.is_same_member.ensures ∙ is))))

pub returns-in-None-clause-no : goal.returns-in-None-clause-no
returns-in-None-clause-no g c =
    let past = past-end c.args.members.now.items c.args.at (sym c.at.ensures ∙ c.in-None.is) in
    key_absent (λ m. m) (is_member_before g.O.Order.before) (same_member g.O.Order.same) (member-transitive g.O.Order.before g.met.O.Order.transitive)
    (member-one_way g.O.Order.before g.met.O.Order.one_way) (member-equal g.O.Order.same g.met.O.Order.equal) c.args.one c.args.members.now.items
    c.args.at c.requires.rises c.requires.point (λ within. absurd (omega arith))
