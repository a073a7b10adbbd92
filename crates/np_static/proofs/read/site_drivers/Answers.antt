use Rattle.np_static.proofs.Prelude.{HostLine, HostsFault, List, PoolId, Result, Site, Tells, ap, arith, err_from_is_err_and, filter, is_of, length, length-filter_at_most, length-map, option_copied, slice_get, slice_get_within, subst, sym, ◌∙◌, ◌≡◌}
use Rattle.np_static.proofs.Sites.{sites-end, sites-push, sites-tell}
use Rattle.np_static.proofs.read.site_drivers.Goals as goal

pub site_driver-requires : goal.site_driver-requires
site_driver-requires c =
    let p : PoolId = record { 0 = c.len-in-Some.result } in
    omega (arith, ap length c.in_ok-hosts.ensures, length-map (λ (l : HostLine). l.servers) (filter (is_of p) c.args.lines.now), length-filter_at_most (is_of p) c.args.lines.now, c.loop-row.invariant.room)

pub returns-in_err-site_driver : goal.returns-in_err-site_driver
returns-in_err-site_driver c =
    let result = err_from_is_err_and c.from_residual-in_err-site_driver.result c.from_residual-in_err-site_driver.ensures.1 in
    let first : c.len.result ≡ length c.loop-row.drivers.items = omega (arith, c.len.ensures) in
    let second : c.len-in-Some.result ≡ length c.loop-row.drivers.items = omega (arith, c.len-in-Some.ensures) in
    let at = ap (slice_get c.args.config.now.pools) (sym first) ∙ (sym c.pool.ensures ∙ ap option_copied c.in-Some.is) in
    let tells = rw (c.in_ok-hosts.ensures, second) at c.in_err-site_driver.ensures in
    rw (result.1, result.2) (subst (λ (r : Result (List Site) HostsFault). Tells r c.in_err-site_driver.field-0.0) c.loop-row.invariant.said
    (sites-tell c.args.config.now c.args.lines.now c.loop-row.drivers.items c.in_err-site_driver.field-0.0 c.in-Some.row.now at tells))

pub loop-row-smaller : goal.loop-row-smaller
loop-row-smaller c = omega (arith, slice_get_within c.args.config.now.pools c.len.result c.in-Some.row.now (sym c.pool.ensures ∙ ap option_copied c.in-Some.is), c.len.ensures, c.in_ok-push.ensures.len)

pub loop-row-preserved : goal.loop-row-preserved
loop-row-preserved c =
    let first : c.len.result ≡ length c.loop-row.drivers.items = omega (arith, c.len.ensures) in
    let second : c.len-in-Some.result ≡ length c.loop-row.drivers.items = omega (arith, c.len-in-Some.ensures) in
    let at = ap (slice_get c.args.config.now.pools) (sym first) ∙ (sym c.pool.ensures ∙ ap option_copied c.in-Some.is) in
    let said = rw (c.in_ok-hosts.ensures, second) at c.in_ok-site_driver.ensures in
    record {
      few = omega (arith, slice_get_within c.args.config.now.pools (length c.loop-row.drivers.items) c.in-Some.row.now at, c.in_ok-push.ensures.len);
      small = c.loop-row.invariant.small;
      room = c.loop-row.invariant.room;
      said = rw c.in_ok-push.ensures.items (sites-push c.args.config.now c.args.lines.now c.loop-row.drivers.items c.in_ok-site_driver.field-0 c.in-Some.row.now at said ∙ c.loop-row.invariant.said);
    }

pub returns : goal.returns
returns c =
    let first : c.len.result ≡ length c.loop-row.drivers.items = omega (arith, c.len.ensures) in
    let none = ap (slice_get c.args.config.now.pools) (sym first) ∙ (sym c.pool.ensures ∙ ap option_copied c.in_default.is) in
    sym c.loop-row.invariant.said ∙ sites-end c.args.config.now c.args.lines.now c.loop-row.drivers.items none
