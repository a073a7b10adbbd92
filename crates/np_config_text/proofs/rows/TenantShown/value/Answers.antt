use Rattle.np_config_text.proofs.Prelude.{ap, object, view-Object, ◌∙◌}
use Rattle.np_config_text.proofs.Again.{tenant_members}
use Rattle.np_config_text.proofs.rows.TenantShown.value.Goals as goal

pub returns : goal.returns
returns c =
    view-Object _
    ∙ ap object (rw (
      c.in_ok-put.ensures.ok,
      c.in_ok-put_limit.ensures,
      c.new-members.ensures.empty,
      c.in_ok-name.ensures,
      c.items.ensures,
    )
    (tenant_members _ _))
