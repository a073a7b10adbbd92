use Rattle.np_static.proofs.Prelude.{ap, arith, host_said, length, lines_of, lines_read-few, sym, ◌∙◌}
use Rattle.np_static.proofs.read.read_hosts.Goals as goal

pub site_drivers-requires : goal.site_drivers-requires
site_drivers-requires c =
    omega (arith, ap length c.items.ensures, lines_read-few (host_said (length c.pools.result.now)) 1024 1 (lines_of c.args.bytes.now) c.in-Ok.lines (omega arith) (sym c.in_ok-lines.ensures ∙ c.in-Ok.is))
