use Rattle.np_config_read.proofs.Prelude.{err_from_is_err_and, view}
use Rattle.np_config_read.proofs.WalkTakes.{at_end, at_faults, at_requesters, configuration-takes, providers-few, providers-unused}
use Rattle.np_config_read.proofs.walk.rest_of.Goals as goal

pub returns-in_err-demand : goal.returns-in_err-demand
returns-in_err-demand c =
    let p = err_from_is_err_and c.from_residual.result c.from_residual.ensures.1 in
    rw (p.1, p.2)
    (at_requesters (view c.args.value.now) _ c.requires.keys _ c.requires.labels _ c.requires.age _ c.requires.providers _ c.requires.semaphores _ c.requires.tenants _ c.in_err-demand.ensures)

pub returns-in_err-roles : goal.returns-in_err-roles
returns-in_err-roles c =
    let p = err_from_is_err_and c.from_residual-in_err-roles.result c.from_residual-in_err-roles.ensures.1 in
    rw (p.1, p.2) tt

pub returns-in_err-faults : goal.returns-in_err-faults
returns-in_err-faults c =
    let p = err_from_is_err_and c.from_residual-in_err-faults.result c.from_residual-in_err-faults.ensures.1 in
    let fails = rw (c.in_ok-roles.ensures.pools, c.in_ok-roles.ensures.requesters) at c.in_err-faults.ensures in
    rw (p.1, p.2)
    (at_faults (view c.args.value.now) _ c.requires.keys _ c.requires.labels _ c.requires.age _ c.requires.providers _ c.requires.semaphores _ c.requires.tenants _ c.in_ok-demand.ensures _ fails)

pub roles_of-requires-clause-unused : goal.roles_of-requires-clause-unused
roles_of-requires-clause-unused c = providers-unused _ _ _ c.requires.providers

pub roles_of-requires-clause-few : goal.roles_of-requires-clause-few
roles_of-requires-clause-few c = providers-few _ _ _ c.requires.providers

pub of_parts-requires : goal.of_parts-requires
of_parts-requires c =
    let faults = rw (c.in_ok-roles.ensures.pools, c.in_ok-roles.ensures.requesters) at c.in_ok-faults.ensures in
    let read = at_end (view c.args.value.now) _ c.requires.keys _ c.requires.labels _ c.requires.age _ c.requires.providers _ c.requires.semaphores _ c.requires.tenants _ c.in_ok-demand.ensures _ faults in
    rw (c.into_rows.ensures, c.into_rows-2.ensures, c.into_vec.ensures, c.into_rows-3.ensures, c.into_rows-4.ensures, c.into_rows-5.ensures, c.in_ok-roles.ensures.requesters, c.into_vec-2.ensures, c.into_vec-3.ensures)
    (configuration-takes (view c.args.value.now) _ read)

pub returns : goal.returns
returns c =
    let faults = rw (c.in_ok-roles.ensures.pools, c.in_ok-roles.ensures.requesters) at c.in_ok-faults.ensures in
    let read = at_end (view c.args.value.now) _ c.requires.keys _ c.requires.labels _ c.requires.age _ c.requires.providers _ c.requires.semaphores _ c.requires.tenants _ c.in_ok-demand.ensures _ faults in
    rw (c.in_ok-config.ensures, c.into_rows.ensures, c.into_rows-2.ensures, c.into_vec.ensures, c.into_rows-3.ensures, c.into_rows-4.ensures, c.into_rows-5.ensures, c.in_ok-roles.ensures.requesters, c.into_vec-2.ensures, c.into_vec-3.ensures) read
