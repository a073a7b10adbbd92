use Rattle.np_useful.proofs.Prelude.{Bool, Fault, None, Some, ap, arith, cond, drop, drop-past, false, filter, same_role, slice_get, slice_get_within, sym, true, ℕ, ◌&&◌, ◌+◌, ◌-◌, ◌==◌, ◌∙◌, ◌≡◌}
use Rattle.np_useful.proofs.Useful.{filter-first, filter-later, next-parts}
use Rattle.np_useful.proofs.session.fault_of.Goals as goal

pub returns-then-is_next : goal.returns-then-is_next
returns-then-is_next c =
    let there : slice_get c.args.config.now.faults c.loop-fault.at ≡ Some c.in-Some.fault.now = sym c.in-Some.ensures in
    let parts = next-parts c.is_same_role-own.result c.loop-fault.left c.if-is_next.ensures in
    let own : same_role c.in-Some.fault.now.role c.args.role ≡ true = sym c.is_same_role-own.ensures ∙ parts.0 in
    sym (filter-first (λ (f : Fault). same_role f.role c.args.role) c.args.config.now.faults c.loop-fault.at c.in-Some.fault.now there own)
    ∙ ap (λ (n : ℕ). slice_get (filter (λ (f : Fault). same_role f.role c.args.role) (drop c.loop-fault.at c.args.config.now.faults)) n) (sym parts.1)
    ∙ c.loop-fault.invariant.rest

pub loop-fault-smaller : goal.loop-fault-smaller
loop-fault-smaller c =
    let there : slice_get c.args.config.now.faults c.loop-fault.at ≡ Some c.in-Some.fault.now = sym c.in-Some.ensures in
    omega (arith, slice_get_within c.args.config.now.faults c.loop-fault.at c.in-Some.fault.now there)

pub loop-fault-preserved : goal.loop-fault-preserved
loop-fault-preserved c =
    let there : slice_get c.args.config.now.faults c.loop-fault.at ≡ Some c.in-Some.fault.now = sym c.in-Some.ensures in
    let other : (same_role c.in-Some.fault.now.role c.args.role && (c.loop-fault.left == 0)) ≡ false = sym (c.if-is_next.ensures ∙ ap (λ (b : Bool). b && (c.loop-fault.left == 0)) c.is_same_role-own.ensures) in
    let fewer : c.saturating_sub-left.result ≡ c.loop-fault.left - cond (same_role c.in-Some.fault.now.role c.args.role) 1 0 = c.saturating_sub-left.ensures ∙ ap (λ (n : ℕ). c.loop-fault.left - n) (c.one_if.ensures ∙ ap (λ (b : Bool). cond b 1 0) c.is_same_role-own.ensures) in
    record {
      within = omega (arith, slice_get_within c.args.config.now.faults c.loop-fault.at c.in-Some.fault.now there);
      rest =
          ap (λ (n : ℕ). slice_get (filter (λ (f : Fault). same_role f.role c.args.role) (drop (c.loop-fault.at + 1) c.args.config.now.faults)) n) fewer
          ∙ filter-later (λ (f : Fault). same_role f.role c.args.role) c.args.config.now.faults c.loop-fault.at c.in-Some.fault.now c.loop-fault.left there other
          ∙ c.loop-fault.invariant.rest;
    }

pub returns : goal.returns
returns c =
    let none : slice_get c.args.config.now.faults c.loop-fault.at ≡ None = sym c.in_default.ensures in
    sym (ap (λ faults. slice_get (filter (λ (f : Fault). same_role f.role c.args.role) faults) c.loop-fault.left) (drop-past c.args.config.now.faults c.loop-fault.at none))
    ∙ c.loop-fault.invariant.rest
