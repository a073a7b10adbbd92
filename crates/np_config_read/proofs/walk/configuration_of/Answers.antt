use Rattle.np_config_read.proofs.Prelude.{err_from_is_err_and, view}
use Rattle.np_config_read.proofs.WalkTakes.{at_tenants}
use Rattle.np_config_read.proofs.walk.configuration_of.Goals as goal

pub returns-in_err-tenants : goal.returns-in_err-tenants
returns-in_err-tenants c =
    let p = err_from_is_err_and c.from_residual-in_err-tenants.result c.from_residual-in_err-tenants.ensures.1 in
    rw (p.1, p.2)
    (at_tenants (view c.args.value.now) _ c.in_ok-object.ensures _ c.in_ok-labels.ensures _ c.in_ok-age.ensures.gives _ c.in_ok-supply.ensures.gives _ c.in_ok-semaphores.ensures _ c.in_err-tenants.ensures)
