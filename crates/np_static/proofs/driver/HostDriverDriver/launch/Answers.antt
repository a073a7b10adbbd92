use Rattle.np_static.proofs.Prelude.{HasOutcome, KeepsLoads, List, Outcome, Server, after_launch, ap, arith, hosted_outcome, hosting, length, numbers_of, server_number, subst, suc, sym, ℕ, ◌+◌, ◌<◌, ◌∙◌, ◌≡◌}
use Rattle.np_static.proofs.Loads.{failed-leaves, fails-only-full, launch-many, launched, load-at, outcome-at, outcome-full, passes}
use Rattle.np_static.proofs.driver.HostDriverDriver.launch.Goals.{then-host-len-via-then-host-len, then-host-len-via-else-host-len+then-launches-ge-MOST_LAUNCHES}
use Rattle.np_static.proofs.driver.HostDriverDriver.launch.Goals as goal

pub invariant_of-self : goal.invariant_of-self
invariant_of-self c =
    let d = c.args.self.now in
    let keeps = (passes d _ _ _ c.deref.ensures.value c.deref-2.ensures.value c.first_free-self.ensures).1 in
    let leaves = failed-leaves d.inventory c.args.tag c.answer.result c.answer.new.self c.answer.ensures.outcome d.numbered in
    record {
      keeps = subst (λ (l : List Server). KeepsLoads d.hosts.items d.loads.items c.first_free-self.result (numbers_of l)) (sym leaves.0) keeps;
      numbered = leaves.1;
    }

pub returns-then-host-len-clause-outcome : goal.returns-then-host-len-clause-outcome
returns-then-host-len-clause-outcome c =
    let d = c.args.self.now in
    let keeps = (passes d _ _ _ c.deref.ensures.value c.deref-2.ensures.value c.first_free-self.ensures).1 in
    let fails : hosted_outcome (hosting d) ≡ Outcome.Failed = elim c.then-host-len.branch [
      | then-host-len-via-then-host-len w ↦ outcome-full (hosting d) d.loads.items c.first_free-self.result keeps (omega (arith, w.if-host-len.true, c.len.ensures))
      | then-host-len-via-else-host-len+then-launches-ge-MOST_LAUNCHES w ↦ launch-many (hosting d) (omega (arith, c.launches-launches.ensures, w.if-launches-ge-MOST_LAUNCHES.true))
    ] in
    subst (λ (o : Outcome). HasOutcome o d.inventory c.args.tag c.answer.result c.answer.new.self) (sym fails) c.answer.ensures.outcome

pub returns-then-host-len-clause-full : goal.returns-then-host-len-clause-full
returns-then-host-len-clause-full c = fails-only-full (hosting c.args.self.now) c.args.tag c.answer.result c.answer.new.self (returns-then-host-len-clause-outcome c)

pub overflow_add-index_mut : goal.overflow_add-index_mut
overflow_add-index_mut c =
    let d = c.args.self.now in
    let free = (passes d _ _ _ c.deref.ensures.value c.deref-2.ensures.value c.first_free-self.ensures).0 in
    let inside : c.first_free-self.result < length d.hosts.items = omega (arith, c.len.ensures, c.if-host-len.false, free.high) in
    omega (arith, load-at d c.first_free-self.result c.index_mut.result.now c.index_mut.ensures.value (omega (arith, d.keeps.lengths)), free.free inside, free.fits inside)

pub invariant_of-self-2 : goal.invariant_of-self-2
invariant_of-self-2 c =
    let d = c.args.self.now in
    let at = c.first_free-self.result in
    let it = passes d _ _ _ c.deref.ensures.value c.deref-2.ensures.value c.first_free-self.ensures in
    let inside : at < length d.hosts.items = omega (arith, c.len.ensures, c.if-host-len.false, it.0.high) in
    let load = load-at d at c.index_mut.result.now c.index_mut.ensures.value (omega (arith, d.keeps.lengths)) in
    let number = c.server_number-number.ensures ∙ ap (λ (k : ℕ). server_number (suc k) at) c.launches-launches.ensures in
    let leaves = launched d at c.args.tag c.answer-2.new.self c.server_number-number.result (c.index_mut.result.now + 1) it.0 it.1 inside number c.in_ok-answer.ensures.outcome.1 (ap (λ (n : ℕ). n + 1) load) in
    record { keeps = leaves.0; numbered = leaves.1 }

pub returns-clause-outcome : goal.returns-clause-outcome
returns-clause-outcome c =
    let d = c.args.self.now in
    let at = c.first_free-self.result in
    let kept = passes d _ _ _ c.deref.ensures.value c.deref-2.ensures.value c.first_free-self.ensures in
    let inside : at < length d.hosts.items = omega (arith, c.len.ensures, c.if-host-len.false, kept.0.high) in
    let takes = outcome-at (hosting d) d.loads.items at kept.1 inside (kept.0.free inside) (omega (arith, c.launches-launches.ensures, c.if-launches-ge-MOST_LAUNCHES.false)) in
    let number = c.server_number-number.ensures ∙ ap (λ (k : ℕ). server_number (suc k) at) c.launches-launches.ensures in
    let it = c.in_ok-answer.ensures.outcome in
    let same = takes ∙ ap Outcome.Launched (sym number) in
    (same ∙ it.0, it.1 ∙ ap (after_launch d.inventory c.args.tag) (sym same))
