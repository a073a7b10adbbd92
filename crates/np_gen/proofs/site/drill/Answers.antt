use Rattle.np_gen.proofs.Prelude.{Configuration, IfOk, IsSound, subst, sym, ◌≡◌}
use Rattle.np_gen.proofs.DrillSite.{drill_site-made, drill_site-sound}
use Rattle.np_gen.proofs.site.drill.Goals as goal

pub of_parts-requires : goal.of_parts-requires
of_parts-requires c =
    let made = drill_site-made c.args.jobs _ _ _ _ _ _ _ _ c.in_ok-labels.ensures c.in_ok-providers.ensures c.in_ok-pools.ensures c.in_ok-semaphores.ensures
    c.new-tenants.ensures.items c.in_ok-requesters.ensures c.in_ok-rows.ensures c.new-faults.ensures.items in
    subst IsSound (sym made) (drill_site-sound c.args.jobs c.requires.1)

pub returns : goal.returns
returns c =
    let made = drill_site-made c.args.jobs _ _ _ _ _ _ _ _ c.in_ok-labels.ensures c.in_ok-providers.ensures c.in_ok-pools.ensures c.in_ok-semaphores.ensures
    c.new-tenants.ensures.items c.in_ok-requesters.ensures c.in_ok-rows.ensures c.new-faults.ensures.items in
    subst (λ (site : Configuration). IfOk c.of_parts.result (λ read. read ≡ site)) made c.of_parts.ensures
