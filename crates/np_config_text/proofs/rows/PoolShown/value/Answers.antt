use Rattle.np_config_text.proofs.Prelude.{ap, object, view-Object, ◌∙◌}
use Rattle.np_config_text.proofs.Again.{pool_members}
use Rattle.np_config_text.proofs.rows.PoolShown.value.Goals as goal

pub returns : goal.returns
returns c =
    view-Object _
    ∙ ap object (rw (
      c.in_ok-put-3.ensures.ok,
      c.in_ok-put_limit.ensures,
      c.in_ok-put-2.ensures.ok,
      c.in_ok-put.ensures.ok,
      c.new-members.ensures.empty,
      c.in_ok-name.ensures,
      c.in_ok-offers.ensures,
      c.in_ok-starts.ensures,
      c.items.ensures,
      c.items-2.ensures,
      c.items-3.ensures,
    )
    (pool_members _ _ _ _))
