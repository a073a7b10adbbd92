use Rattle.np_lookups.proofs.Prelude.{AreBy, ap, arith, closed_member, line_of, subst, sym, ℕ, ◌+◌, ◌∙◌, ◌≡◌}
use Rattle.np_lookups.proofs.Members.{all-moved, closed-moved, moved-as, none-closed-moved, none-moved, open-moved-by, passes_so_far, pool_by}
use Rattle.np_lookups.proofs.moves.move_request.Goals as goal

pub returns-then-not-is_open-2-clause-members : goal.returns-then-not-is_open-2-clause-members
returns-then-not-is_open-2-clause-members c passes either are =
    none-moved c.args.pools (line_of c.args.config.now c.args.lines.now) c.args.request c.args.was.now c.args.now.now passes either
    (sym c.is_open.ensures ∙ c.if-not-is_open.true) (sym c.is_open-then-not-is_open.ensures ∙ c.if-not-is_open-2.true) c.args.groups.now.members are

pub loop-number-init : goal.loop-number-init
loop-number-init c = record {
  members = λ passes either are.
      open-moved-by c.args.pools (line_of c.args.config.now c.args.lines.now) c.args.request c.args.was.now c.args.now.now passes either _ _ _ _ c.args.groups.now.members _
      c.line_of-left.ensures c.line_of-joined.ensures c.open_member.ensures c.open_member-2.ensures c.move_one.ensures.members are;
  room = omega arith;
}

pub returns-then-not-is_closed-2-clause-members : goal.returns-then-not-is_closed-2-clause-members
returns-then-not-is_closed-2-clause-members c passes either are =
    none-closed-moved c.args.pools (line_of c.args.config.now c.args.lines.now) c.args.request c.args.was.now c.args.now.now passes either
    (sym c.is_closed.ensures ∙ c.if-not-is_closed.true) (sym c.is_closed-then-not-is_closed.ensures ∙ c.if-not-is_closed-2.true) _
    (open-moved-by c.args.pools (line_of c.args.config.now c.args.lines.now) c.args.request c.args.was.now c.args.now.now passes either _ _ _ _ c.args.groups.now.members _
    c.line_of-left.ensures c.line_of-joined.ensures c.open_member.ensures c.open_member-2.ensures c.move_one.ensures.members are)

pub loop-number-preserved : goal.loop-number-preserved
loop-number-preserved c = record {
  members = λ passes either are.
      subst (AreBy (passes_so_far c.args.pools (line_of c.args.config.now c.args.lines.now) c.args.request c.args.now.now (c.loop-number.number + 1) passes))
      (sym (moved-as _ _ _ _ _ _ c.move_one-in-loop-number.ensures.members
      (c.closed_member.ensures ∙ ap (λ (line : ℕ). closed_member line (pool_by c.loop-number.number) c.args.request c.args.was.now) c.line_of-left.ensures)
      (c.closed_member-in-loop-number.ensures ∙ ap (λ (line : ℕ). closed_member line (pool_by c.loop-number.number) c.args.request c.args.now.now) c.line_of-joined.ensures)))
      (closed-moved c.args.pools (line_of c.args.config.now c.args.lines.now) c.args.request c.args.was.now c.args.now.now passes either (pool_by c.loop-number.number) c.loop-number-test.true
      c.loop-number.groups.members (c.loop-number.invariant.members passes either are));
  room = omega arith;
}

pub returns-clause-members : goal.returns-clause-members
returns-clause-members c passes either are =
    let last : c.loop-number.number ≡ c.args.pools = omega arith in
    all-moved c.args.pools (line_of c.args.config.now c.args.lines.now) c.args.request c.args.was.now c.args.now.now passes either c.loop-number.groups.members
    (subst (λ (n : ℕ). AreBy (passes_so_far c.args.pools (line_of c.args.config.now c.args.lines.now) c.args.request c.args.now.now n passes) c.loop-number.groups.members) last
    (c.loop-number.invariant.members passes either are))
