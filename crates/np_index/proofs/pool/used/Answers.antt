use Rattle.np_index.proofs.Prelude.{Amount, Offer, ap, arith, refl, ◌+◌, ◌≡◌}
use Rattle.np_index.proofs.Nodes.{offer-part, offer-next, offers-all}
use Rattle.np_index.proofs.pool.used.Goals as goal

-- what is past the end of the offers
abbrev none : Offer
none = record { label = record { 0 = 0 }; amount = record { instances = 0; cores = 0; ram = 0 } }

pub times-requires-clause-instances : goal.times-requires-clause-instances
times-requires-clause-instances g c =
    let part = offer-part _ _ _ c.requires.classes c.requires.fits c.args.pool _ c.config.ensures _ c.offers-offer-items.ensures _ none c.loop-offer-test.true _ c.kind_group.ensures _ c.nodes_in-number.ensures _ refl in
    omega (arith, part.instances)

pub plus-sum-requires-clause-instances : goal.plus-sum-requires-clause-instances
plus-sum-requires-clause-instances g c =
    let part = offer-part _ _ _ c.requires.classes c.requires.fits c.args.pool _ c.config.ensures _ c.offers-offer-items.ensures _ none c.loop-offer-test.true _ c.kind_group.ensures _ c.nodes_in-number.ensures _ c.times.ensures in
    omega (arith, part.few, part.instances, c.loop-offer.invariant.instances)

pub times-requires-clause-cores : goal.times-requires-clause-cores
times-requires-clause-cores g c =
    let part = offer-part _ _ _ c.requires.classes c.requires.fits c.args.pool _ c.config.ensures _ c.offers-offer-items.ensures _ none c.loop-offer-test.true _ c.kind_group.ensures _ c.nodes_in-number.ensures _ refl in
    omega (arith, part.cores)

pub plus-sum-requires-clause-cores : goal.plus-sum-requires-clause-cores
plus-sum-requires-clause-cores g c =
    let part = offer-part _ _ _ c.requires.classes c.requires.fits c.args.pool _ c.config.ensures _ c.offers-offer-items.ensures _ none c.loop-offer-test.true _ c.kind_group.ensures _ c.nodes_in-number.ensures _ c.times.ensures in
    omega (arith, part.few, part.cores, c.loop-offer.invariant.cores)

pub times-requires-clause-ram : goal.times-requires-clause-ram
times-requires-clause-ram g c =
    let part = offer-part _ _ _ c.requires.classes c.requires.fits c.args.pool _ c.config.ensures _ c.offers-offer-items.ensures _ none c.loop-offer-test.true _ c.kind_group.ensures _ c.nodes_in-number.ensures _ refl in
    omega (arith, part.ram)

pub plus-sum-requires-clause-ram : goal.plus-sum-requires-clause-ram
plus-sum-requires-clause-ram g c =
    let part = offer-part _ _ _ c.requires.classes c.requires.fits c.args.pool _ c.config.ensures _ c.offers-offer-items.ensures _ none c.loop-offer-test.true _ c.kind_group.ensures _ c.nodes_in-number.ensures _ c.times.ensures in
    omega (arith, part.few, part.ram, c.loop-offer.invariant.ram)

pub loop-offer-preserved : goal.loop-offer-preserved
loop-offer-preserved g c =
    let part = offer-part _ _ _ c.requires.classes c.requires.fits c.args.pool _ c.config.ensures _ c.offers-offer-items.ensures _ none c.loop-offer-test.true _ c.kind_group.ensures _ c.nodes_in-number.ensures _ c.times.ensures in
    let instances : c.plus-sum.result.instances ≡ c.loop-offer.sum.instances + c.times.result.instances = ap (λ (a : Amount). a.instances) c.plus-sum.ensures in
    let cores : c.plus-sum.result.cores ≡ c.loop-offer.sum.cores + c.times.result.cores = ap (λ (a : Amount). a.cores) c.plus-sum.ensures in
    let ram : c.plus-sum.result.ram ≡ c.loop-offer.sum.ram + c.times.result.ram = ap (λ (a : Amount). a.ram) c.plus-sum.ensures in
    record {
      sum = offer-next (g.R.Rows.site c.args.rows.now) (g.R.Rows.state c.args.rows.now) c.args.classes.now c.requires.classes c.requires.fits c.args.pool c.config.result.now c.config.ensures c.offers-offer-items.result.now c.offers-offer-items.ensures
          c.loop-offer.offer-index none c.loop-offer.sum c.times.result c.plus-sum.result c.loop-offer.invariant.sum part c.plus-sum.ensures;
      instances = omega (arith, part.instances, instances, c.loop-offer.invariant.instances);
      cores = omega (arith, part.cores, cores, c.loop-offer.invariant.cores);
      ram = omega (arith, part.ram, ram, c.loop-offer.invariant.ram);
    }

pub returns-clause-used : goal.returns-clause-used
returns-clause-used g c =
    offers-all (g.R.Rows.site c.args.rows.now) (g.R.Rows.state c.args.rows.now) c.args.classes.now c.requires.classes c.requires.fits c.args.pool c.config.result.now c.config.ensures c.offers-offer-items.result.now c.offers-offer-items.ensures
    c.loop-offer.offer-index c.loop-offer.sum c.loop-offer.invariant.sum c.loop-offer-test.false
