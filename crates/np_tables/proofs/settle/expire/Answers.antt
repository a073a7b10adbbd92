use Rattle.np_tables.proofs.Prelude.{SessionFacts, ap, arith, change_at-past, change_at-set, ended, length, slice_set, sym, ◌-◌, ◌<◌, ◌∙◌}
use Rattle.np_tables.proofs.settle.expire.Goals as goal

pub returns-then-at-len : goal.returns-then-at-len
returns-then-at-len c = sym (change_at-past (c.args.session.0 - 1) ended c.args.sessions.now.items (omega (arith, c.len.ensures, c.saturating_sub-at.ensures)))

pub returns : goal.returns
returns c =
    let within : c.args.session.0 - 1 < length c.args.sessions.now.items = omega (arith, c.len.ensures, c.saturating_sub-at.ensures) in
    rw c.saturating_sub-at.ensures (
    ap (λ (x : SessionFacts). slice_set c.args.sessions.now.items (c.args.session.0 - 1) (ended x)) (rw c.saturating_sub-at.ensures at c.index_mut-facts.ensures.value)
    ∙ sym (change_at-set (c.args.session.0 - 1) ended c.args.sessions.now.items c.index_mut-facts.result.now within))
