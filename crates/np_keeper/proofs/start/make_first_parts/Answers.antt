use Rattle.np_keeper.proofs.Prelude.{◌∙◌}
use Rattle.np_keeper.proofs.Enacted.{first-is}
use Rattle.np_keeper.proofs.start.make_first_parts.Goals as goal

pub returns : goal.returns
returns c =
    first-is c.args.config.now c.new-ops.result.items c.push_directories.new.ops.items c.push_semaphores.new.ops.items c.push_jobs.new.ops.items c.push_launchers.new.ops.items c.push_janitors.new.ops.items c.push_requesters.new.ops.items c.push_make.new.ops.items
    c.as_slice.result.now c.as_slice-2.result.now c.as_slice-3.result.now c.as_slice-4.result.now
    c.new-ops.ensures.items c.in_ok-push_directories.ensures c.in_ok-push_semaphores.ensures
    (c.as_slice.ensures.value ∙ c.in_ok-job.ensures) c.in_ok-push_jobs.ensures
    (c.as_slice-2.ensures.value ∙ c.in_ok-role.ensures) c.in_ok-push_launchers.ensures
    (c.as_slice-3.ensures.value ∙ c.in_ok-role.ensures) c.in_ok-push_janitors.ensures
    (c.as_slice-4.ensures.value ∙ c.in_ok-role.ensures) c.in_ok-push_requesters.ensures
    c.in_ok-push_make.ensures
