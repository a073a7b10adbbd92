use Rattle.np_report.proofs.Prelude.{Bool, Some, add-one, ap, arith, fate_of, if◌then◌else◌, is_end, length, slice_get, slice_get_within, sym, ◌<◌, ◌∙◌, ◌≡◌}
use Rattle.np_report.proofs.Rows.{count_by-next, count_by-end}
use Rattle.np_report.proofs.ends.count_ends.Goals as goal

pub loop-job-preserved : goal.loop-job-preserved
loop-job-preserved g c =
    let jobs = (g.R.Rows.state c.args.rows.now).jobs in
    let at = c.loop-job.at in
    let found : slice_get jobs at ≡ Some c.in-Some.job = sym c.job.ensures ∙ c.in-Some.is in
    let within : at < length jobs = slice_get_within jobs at c.in-Some.job found in
    let next = count_by-next (is_end c.args.end) (fate_of (g.R.Rows.state c.args.rows.now)) jobs at c.in-Some.job found in
    let one : c.one_if-count.result ≡ (if is_end c.args.end (fate_of (g.R.Rows.state c.args.rows.now) c.in-Some.job) then 1 else 0) =
    c.one_if-count.ensures.answer ∙ ap (λ (b : Bool). if b then 1 else 0) c.is_end.ensures in
    record {
      within = omega arith;
      few = c.loop-job.invariant.few;
      few_counted = omega (arith, c.one_if-count.ensures.small, c.loop-job.invariant.few_counted);
      counted = rw add-one (omega (arith, one, next, c.loop-job.invariant.counted));
    }

pub returns : goal.returns
returns g c =
    let none = count_by-end (is_end c.args.end) (fate_of (g.R.Rows.state c.args.rows.now)) (g.R.Rows.state c.args.rows.now).jobs c.loop-job.at (sym c.job.ensures ∙ c.in_default.is) in
    omega (arith, none, c.loop-job.invariant.counted)
