use Rattle.np_tree_rows.proofs.Prelude.{List, Registration, ap, arith, past-end, slice_get, sym}
use Rattle.np_tree_rows.proofs.Registered.{from-zero, pool_of, walk-here, walk-later, walk-next, walk-over}
use Rattle.np_tree_rows.proofs.session_table.registration_at.Goals as goal

pub loop-number-init : goal.loop-number-init
loop-number-init c s stored = ap (λ (list : List Registration). slice_get list c.args.at) (sym (from-zero pool_of s.registrations))

pub returns-in_default : goal.returns-in_default
returns-in_default c s stored = walk-over c.args.config.now s c.args.tree.now stored c.args.at c.loop-number.left c.loop-number.number (past-end c.args.config.now.pools c.loop-number.number (sym c.in_default.ensures)) (c.loop-number.invariant s stored)

pub loop-number-preserved-in_default-registration : goal.loop-number-preserved-in_default-registration
loop-number-preserved-in_default-registration c s stored = walk-next c.args.config.now s c.args.tree.now stored c.args.at c.loop-number.left (record { 0 = c.loop-number.number }) (c.loop-number.invariant s stored) (c.in_default-registration.ensures c.args.config.now s stored)

pub returns-then-left-eq0 : goal.returns-then-left-eq0
returns-then-left-eq0 c s stored = walk-here c.args.config.now s c.args.tree.now stored c.args.at c.loop-number.left (record { 0 = c.loop-number.number }) (c.loop-number.invariant s stored) c.in-Some-registration.session (c.in-Some-registration.ensures c.args.config.now s stored) c.if-left-eq0.true

pub loop-number-preserved : goal.loop-number-preserved
loop-number-preserved c s stored = walk-later c.args.config.now s c.args.tree.now stored c.args.at c.loop-number.left (record { 0 = c.loop-number.number }) (c.loop-number.invariant s stored) c.in-Some-registration.session (c.in-Some-registration.ensures c.args.config.now s stored) c.if-left-eq0.false

pub returns : goal.returns
returns c s stored =
    let few = c.know_soundness.ensures.supply.few_pools in
    walk-over c.args.config.now s c.args.tree.now stored c.args.at c.loop-number.left c.loop-number.number (omega arith) (c.loop-number.invariant s stored)
