use Rattle.np_report.proofs.Prelude.{Configuration, List, Some, ap, append-nil, arith, length, option_copied, slice_get, slice_get_within, sym, ℕ, ◌++◌, ◌+◌, ◌<◌, ◌∙◌, ◌≡◌}
use Rattle.np_report.proofs.Rows.{lines_from, lines_from-put, lines_from-end, lines_from-short}
use Rattle.np_report.proofs.print.put_fates.Goals as goal

pub loop-job-smaller : goal.loop-job-smaller
loop-job-smaller g c =
    let found : slice_get c.config-config.result.now.jobs c.loop-job.at ≡ Some c.in-Some.job.now = sym c.job.ensures ∙ ap option_copied c.in-Some.is in
    let within : c.loop-job.at < length c.config-config.result.now.jobs = slice_get_within c.config-config.result.now.jobs c.loop-job.at c.in-Some.job.now found in
    omega arith

pub loop-job-preserved : goal.loop-job-preserved
loop-job-preserved g c =
    let site = c.config-config.result.now in
    let records = (g.R.Rows.state c.args.rows.now).jobs in
    let at = c.loop-job.at in
    let found : slice_get site.jobs at ≡ Some c.in-Some.job.now = sym c.job.ensures ∙ ap option_copied c.in-Some.is in
    let has : slice_get records at ≡ Some c.in-Some-job.kept = sym c.job-in-Some.ensures ∙ c.in-Some-job.is in
    let within : at < length site.jobs = slice_get_within site.jobs at c.in-Some.job.now found in
    record {
      within = omega arith;
      few = c.loop-job.invariant.few;
      put = lines_from-put site (g.R.Rows.state c.args.rows.now) at at (at + 1) site.jobs records c.in-Some.job.now c.in-Some-job.kept
          c.loop-job.out.items c.put_job.new.out.items c.put_fate.new.out.items c.push.new.self.items found has (omega arith)
          c.in_ok-put_job.ensures c.in_ok-put_fate.ensures c.in_ok-push.ensures.items
          ∙ c.loop-job.invariant.put;
    }

pub returns-in_default-job : goal.returns-in_default-job
returns-in_default-job g c =
    let site = c.config-config.result.now in
    let state = g.R.Rows.state c.args.rows.now in
    let none = lines_from-short site state c.loop-job.at c.loop-job.at site.jobs state.jobs (sym c.job-in-Some.ensures ∙ c.in_default-job.is) in
    sym (append-nil c.loop-job.out.items) ∙ ap (λ (rest : List ℕ). c.loop-job.out.items ++ rest) (sym none) ∙ c.loop-job.invariant.put
    ∙ ap (λ (s : Configuration). c.args.out.now.items ++ lines_from s state 0 s.jobs state.jobs) c.config-config.ensures

pub returns : goal.returns
returns g c =
    let site = c.config-config.result.now in
    let state = g.R.Rows.state c.args.rows.now in
    let none = lines_from-end site state c.loop-job.at c.loop-job.at site.jobs state.jobs (sym c.job.ensures ∙ ap option_copied c.in_default.is) in
    sym (append-nil c.loop-job.out.items) ∙ ap (λ (rest : List ℕ). c.loop-job.out.items ++ rest) (sym none) ∙ c.loop-job.invariant.put
    ∙ ap (λ (s : Configuration). c.args.out.now.items ++ lines_from s state 0 s.jobs state.jobs) c.config-config.ensures
