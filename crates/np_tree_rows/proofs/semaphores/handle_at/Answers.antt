use Rattle.np_tree_rows.proofs.Prelude.{JobId, List, None, Some, add-one, all-weaker, ap, arith, false, handles_of, has_handle, length, option_copied, past-end, slice_get, slice_get_within, sym, true, ◌<◌, ◌∙◌, ◌≡◌}
use Rattle.np_tree_rows.proofs.Registered.{are-holders, at-first, at-later, from-end, from-over, from-zero, job-found, number_of_job}
use Rattle.np_tree_rows.proofs.semaphores.handle_at.Goals as goal

pub loop-job-init : goal.loop-job-init
loop-job-init c = record {
  within = omega arith;
  few = c.know_soundness.ensures.demand.few_jobs;
  rest = λ s stored. ap (λ (jobs : List JobId). slice_get jobs c.args.at) (from-zero number_of_job (handles_of c.args.semaphore s.handles));
}

pub returns-then-left-eq0 : goal.returns-then-left-eq0
returns-then-left-eq0 c s stored =
    let told = c.has_handle.ensures c.args.config.now s stored in
    let has : has_handle (record { 0 = c.loop-job.number }) s.handles c.args.semaphore ≡ true = cc in
    let holders = are-holders c.args.config.now s c.args.tree.now c.args.semaphore stored in
    sym (sym (c.loop-job.invariant.rest s stored) ∙ at-first number_of_job c.loop-job.number c.loop-job.left (record { 0 = c.loop-job.number }) (handles_of c.args.semaphore s.handles) holders.rise (job-found c.loop-job.number (handles_of c.args.semaphore s.handles) has) c.if-left-eq0.true)

pub loop-job-smaller : goal.loop-job-smaller
loop-job-smaller c =
    let found : slice_get c.args.config.now.jobs c.loop-job.number ≡ Some c.in-Some.field-0.now = sym c.job.ensures ∙ ap option_copied c.in-Some.is in
    let within : c.loop-job.number < length c.args.config.now.jobs = slice_get_within c.args.config.now.jobs c.loop-job.number c.in-Some.field-0.now found in
    omega arith

pub loop-job-preserved-then-not-has_handle : goal.loop-job-preserved-then-not-has_handle
loop-job-preserved-then-not-has_handle c =
    let found : slice_get c.args.config.now.jobs c.loop-job.number ≡ Some c.in-Some.field-0.now = sym c.job.ensures ∙ ap option_copied c.in-Some.is in
    let low : c.loop-job.number < length c.args.config.now.jobs = slice_get_within c.args.config.now.jobs c.loop-job.number c.in-Some.field-0.now found in
    record {
      within = omega arith;
      few = c.loop-job.invariant.few;
      rest = λ s stored.
          let told = c.has_handle.ensures c.args.config.now s stored in
          let other : has_handle (record { 0 = c.loop-job.number }) s.handles c.args.semaphore ≡ false = cc in
          rw add-one (sym (ap (λ (jobs : List JobId). slice_get jobs c.loop-job.left) (from-over number_of_job c.loop-job.number (handles_of c.args.semaphore s.handles) other)) ∙ c.loop-job.invariant.rest s stored);
    }

pub loop-job-preserved : goal.loop-job-preserved
loop-job-preserved c =
    let found : slice_get c.args.config.now.jobs c.loop-job.number ≡ Some c.in-Some.field-0.now = sym c.job.ensures ∙ ap option_copied c.in-Some.is in
    let low : c.loop-job.number < length c.args.config.now.jobs = slice_get_within c.args.config.now.jobs c.loop-job.number c.in-Some.field-0.now found in
    record {
      within = omega arith;
      few = c.loop-job.invariant.few;
      rest = λ s stored.
          let told = c.has_handle.ensures c.args.config.now s stored in
          let has : has_handle (record { 0 = c.loop-job.number }) s.handles c.args.semaphore ≡ true = cc in
          let holders = are-holders c.args.config.now s c.args.tree.now c.args.semaphore stored in
          rw add-one (sym (at-later number_of_job c.loop-job.number c.loop-job.left (record { 0 = c.loop-job.number }) (handles_of c.args.semaphore s.handles) holders.rise (job-found c.loop-job.number (handles_of c.args.semaphore s.handles) has) c.if-left-eq0.false) ∙ c.loop-job.invariant.rest s stored);
    }

pub returns : goal.returns
returns c s stored =
    let none : slice_get c.args.config.now.jobs c.loop-job.number ≡ None = sym c.job.ensures ∙ ap option_copied c.in_default.is in
    let holders = are-holders c.args.config.now s c.args.tree.now c.args.semaphore stored in
    let past = past-end c.args.config.now.jobs c.loop-job.number none in
    sym (ap (λ (jobs : List JobId). slice_get jobs c.loop-job.left) (from-end number_of_job c.loop-job.number (handles_of c.args.semaphore s.handles) (all-weaker (λ (j : JobId). j.0 < length c.args.config.now.jobs) (λ j. j.0 < c.loop-job.number) (λ j low. omega (arith, low, past)) (handles_of c.args.semaphore s.handles) holders.exist))) ∙ c.loop-job.invariant.rest s stored
