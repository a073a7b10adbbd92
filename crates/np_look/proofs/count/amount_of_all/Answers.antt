use Rattle.np_look.proofs.Prelude.{Amount, AmountFits, ap, arith, sym, total_more, ◌+◌, ◌∙◌, ◌≡◌}
use Rattle.np_look.proofs.count.amount_of_all.Goals as goal

pub loop-label-preserved : goal.loop-label-preserved
loop-label-preserved c =
    let small : AmountFits c.amount.result = rw c.amount.ensures (c.requires.small _) in
    let instances : c.plus-sum.result.instances ≡ c.loop-label.sum.instances + c.amount.result.instances = ap (λ (a : Amount). a.instances) c.plus-sum.ensures in
    let cores : c.plus-sum.result.cores ≡ c.loop-label.sum.cores + c.amount.result.cores = ap (λ (a : Amount). a.cores) c.plus-sum.ensures in
    let ram : c.plus-sum.result.ram ≡ c.loop-label.sum.ram + c.amount.result.ram = ap (λ (a : Amount). a.ram) c.plus-sum.ensures in
    record {
      sum = c.plus-sum.ensures ∙ rw (c.loop-label.invariant.sum, c.amount.ensures) (sym (total_more _ c.args.labels.now c.loop-label.label-index _ c.loop-label-test.true));
      instances = omega arith;
      cores = omega arith;
      ram = omega arith;
    }
