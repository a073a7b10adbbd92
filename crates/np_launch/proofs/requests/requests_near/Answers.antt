use Rattle.np_launch.proofs.Prelude.{Configuration, add-one, ap, arith, count_by-le-length, is_near_below, length, past-end, slice_get_within, suc, sym, ◌∙◌, ◌≡◌}
use Rattle.np_launch.proofs.Registrants.{none-counts, pool-adds, pools-count}
use Rattle.np_launch.proofs.requests.requests_near.Goals as goal

pub loop-count-init : goal.loop-count-init
loop-count-init g c = record { within = omega arith; all = sym (none-counts (g.L.Look.site c.args.look.now) (g.L.Look.state c.args.look.now) c.args.pool) }

pub overflow_add-count : goal.overflow_add-count
overflow_add-count g c =
    let adds = pool-adds (g.L.Look.site c.args.look.now) (g.L.Look.state c.args.look.now) c.requires.reached c.args.pool (record { 0 = c.loop-count.at }) in
    let few = count_by-le-length (is_near_below (g.L.Look.site c.args.look.now) (g.L.Look.state c.args.look.now) c.args.pool (suc c.loop-count.at)) (g.L.Look.state c.args.look.now).requests in
    omega (arith, adds, few, c.loop-count.invariant.all, c.sister_requests-count.ensures, c.requires.fits.requests)

pub loop-count-smaller : goal.loop-count-smaller
loop-count-smaller g c =
    let below = slice_get_within c.config-config.result.now.pools c.loop-count.at c.in-Some.field-0.now (sym c.in-Some.ensures) in
    let same = ap (λ (site : Configuration). length site.pools) (c.config-config.ensures ∙ c.rows.ensures.site) in
    omega (arith, below, same)

pub loop-count-preserved : goal.loop-count-preserved
loop-count-preserved g c =
    let below = slice_get_within c.config-config.result.now.pools c.loop-count.at c.in-Some.field-0.now (sym c.in-Some.ensures) in
    let same = ap (λ (site : Configuration). length site.pools) (c.config-config.ensures ∙ c.rows.ensures.site) in
    let adds = pool-adds (g.L.Look.site c.args.look.now) (g.L.Look.state c.args.look.now) c.requires.reached c.args.pool (record { 0 = c.loop-count.at }) in
    record {
      within = omega (arith, below, same);
      all = rw add-one (omega (arith, adds, c.loop-count.invariant.all, c.sister_requests-count.ensures));
    }

pub returns : goal.returns
returns g c =
    let past = past-end c.config-config.result.now.pools c.loop-count.at (sym c.in_default.ensures) in
    let same = ap (λ (site : Configuration). length site.pools) (c.config-config.ensures ∙ c.rows.ensures.site) in
    let end : c.loop-count.at ≡ length (g.L.Look.site c.args.look.now).pools = omega (arith, past, same, c.loop-count.invariant.within) in
    omega (arith, c.loop-count.invariant.all, pools-count (g.L.Look.site c.args.look.now) (g.L.Look.state c.args.look.now) c.requires.reached c.args.pool c.loop-count.at end)
