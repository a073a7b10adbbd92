use Rattle.np_index.proofs.Prelude.{Amount, IsFew, arith, subst, sym, ◌∙◌}
use Rattle.np_index.proofs.Nodes.{none-in, part-in, part-few}
use Rattle.np_index.proofs.tenant.taken_in.Goals as goal

pub returns-in_default-clause-taken : goal.returns-in_default-clause-taken
returns-in_default-clause-taken g c =
    none-in (g.R.Rows.site c.args.rows.now) (g.R.Rows.state c.args.rows.now) c.args.classes.now c.requires.classes c.args.group c.requires.tenants
    c.in_default.ensures

pub times-requires-clause-instances : goal.times-requires-clause-instances
times-requires-clause-instances g c =
    let few = part-few _ _ _ c.requires.classes _ c.requires.tenants _ c.in-Some.ensures _ c.taken_by.ensures.taken _ c.nodes_in-number.ensures c.requires.fits in
    omega (arith, few.instances)

pub times-requires-clause-cores : goal.times-requires-clause-cores
times-requires-clause-cores g c =
    let few = part-few _ _ _ c.requires.classes _ c.requires.tenants _ c.in-Some.ensures _ c.taken_by.ensures.taken _ c.nodes_in-number.ensures c.requires.fits in
    omega (arith, few.cores)

pub times-requires-clause-ram : goal.times-requires-clause-ram
times-requires-clause-ram g c =
    let few = part-few _ _ _ c.requires.classes _ c.requires.tenants _ c.in-Some.ensures _ c.taken_by.ensures.taken _ c.nodes_in-number.ensures c.requires.fits in
    omega (arith, few.ram)

pub returns-clause-taken : goal.returns-clause-taken
returns-clause-taken g c =
    c.times.ensures
    ∙ part-in _ _ _ c.requires.classes _ c.requires.tenants _ c.in-Some.ensures _ c.taken_by.ensures.taken _ c.nodes_in-number.ensures

pub returns-clause-few : goal.returns-clause-few
returns-clause-few g c =
    subst (λ (a : Amount). IsFew a 262144) (sym c.times.ensures)
    (part-few _ _ _ c.requires.classes _ c.requires.tenants _ c.in-Some.ensures _ c.taken_by.ensures.taken _ c.nodes_in-number.ensures c.requires.fits)
