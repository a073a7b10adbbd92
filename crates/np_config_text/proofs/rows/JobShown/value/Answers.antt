use Rattle.np_config_text.proofs.Prelude.{ap, object, view-Object, ◌∙◌}
use Rattle.np_config_text.proofs.Again.{job_members}
use Rattle.np_config_text.proofs.rows.JobShown.value.Goals as goal

pub returns : goal.returns
returns c =
    view-Object _
    ∙ ap object (rw (
      c.in_ok-put_given.ensures,
      c.in_ok-put-7.ensures.ok,
      c.in_ok-put-6.ensures.ok,
      c.in_ok-put-5.ensures.ok,
      c.in_ok-put-4.ensures.ok,
      c.in_ok-put-3.ensures.ok,
      c.in_ok-put-2.ensures.ok,
      c.in_ok-put.ensures.ok,
      c.new-members.ensures.empty,
      c.in_ok-name.ensures,
      c.in_ok-labels.ensures,
      c.in_ok-semaphores.ensures,
      c.in_ok-end.ensures,
      c.in_ok-priority.ensures,
      c.in_ok-tenant.ensures,
      c.from-relative.ensures,
      c.from-first.ensures,
      c.word.ensures,
      c.priority_word.ensures,
      c.items.ensures,
      c.items-2.ensures,
      c.items-3.ensures,
    )
    (job_members _ _ _ _ _ _ _ _))
