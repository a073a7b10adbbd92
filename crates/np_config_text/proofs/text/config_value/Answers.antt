use Rattle.np_config_text.proofs.Prelude.{IsLabel, IsProvider, IsRequester, IsSem, IsTenant, Label, Provider, Requester, Sem, Tenant, ap, object, view-Object, ◌∙◌}
use Rattle.np_config_text.proofs.Again.{names-ascii, top_members}
use Rattle.np_config_text.proofs.text.config_value.Goals as goal

pub list_value-requires-2 : goal.list_value-requires-2
list_value-requires-2 c = rw c.labels.ensures (names-ascii (λ (r : Label). r.name) IsLabel (λ e r is. is.name.named) _ c.know_soundness.ensures.labels)

pub placed_value-requires-clause-shown : goal.placed_value-requires-clause-shown
placed_value-requires-clause-shown c = rw c.providers.ensures (names-ascii (λ (r : Provider). r.name) IsProvider (λ e r is. is.name.named) _ c.know_soundness.ensures.supply.each_provider)

pub placed_value-requires-2-clause-shown : goal.placed_value-requires-2-clause-shown
placed_value-requires-2-clause-shown c = rw c.requesters.ensures (names-ascii (λ (r : Requester). r.name) IsRequester (λ e r is. is.name.named) _ c.know_soundness.ensures.demand.each_requester)

pub list_value-requires-3 : goal.list_value-requires-3
list_value-requires-3 c = rw c.semaphores.ensures (names-ascii (λ (r : Sem). r.name) IsSem (λ e r is. is.name.named) _ c.know_soundness.ensures.semaphores)

pub list_if_any-requires : goal.list_if_any-requires
list_if_any-requires c = rw c.tenants.ensures (names-ascii (λ (r : Tenant). r.name) IsTenant (λ e r is. is.name.named) _ c.know_soundness.ensures.tenants)

pub returns : goal.returns
returns c =
    view-Object _
    ∙ ap object (rw (
      c.in_ok-put_given.ensures,
      c.in_ok-put-6.ensures.ok,
      c.in_ok-put-5.ensures.ok,
      c.in_ok-put-4.ensures.ok,
      c.in_ok-put-3.ensures.ok,
      c.in_ok-put-2.ensures.ok,
      c.in_ok-put.ensures.ok,
      c.new-members.ensures.empty,
      c.in_ok-faults.ensures,
      c.in_ok-labels.ensures,
      c.in_ok-providers.ensures,
      c.in_ok-requesters.ensures,
      c.in_ok-semaphores.ensures,
      c.in_ok-tenants.ensures,
      c.faults.ensures,
      c.labels.ensures,
      c.providers.ensures,
      c.requesters.ensures,
      c.semaphores.ensures,
      c.tenants.ensures,
      c.from-age.ensures,
      c.max_hold_age.ensures,
    ) (top_members _ _ _ _ _ _ _))
