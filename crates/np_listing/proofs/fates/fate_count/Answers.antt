use Rattle.np_listing.proofs.Prelude.{Bool, JobRecord, Some, ap, arith, cond, has_fate, slice_get, sym, ◌∙◌, ◌≡◌}
use Rattle.np_listing.proofs.Walks.{count-take}
use Rattle.np_listing.proofs.fates.fate_count.Goals as goal

pub loop-at-preserved : goal.loop-at-preserved
loop-at-preserved g c =
    let jobs = (g.R.Rows.state c.args.rows.now).jobs in
    let kept = c.in-Some.kept in
    let there : slice_get jobs c.loop-at.at ≡ Some kept = sym c.in-Some.ensures in
    let next = count-take (λ (job : JobRecord). has_fate c.args.fate job.ending) jobs c.loop-at.at kept there in
    let one : c.one_if-count.result ≡ cond (has_fate c.args.fate kept.ending) 1 0 = c.one_if-count.ensures.answer ∙ ap (λ (b : Bool). cond b 1 0) c.has_fate.ensures in
    record {
      few = omega (arith, c.one_if-count.ensures.small, c.loop-at.invariant.few);
      all = omega (arith, one, next, c.loop-at.invariant.all);
    }
