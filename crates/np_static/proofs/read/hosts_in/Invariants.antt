use Rattle.np_static.proofs.Prelude.{drop, hosts_in, ◌++◌, ◌≡◌}
use Rattle.np_static.proofs.read.hosts_in.Given as goal

abbrev pub invariant-loop-line : goal.invariant-loop-line
invariant-loop-line l = l.hosts.items ++ hosts_in l.pool (drop l.line-index l.lines) ≡ hosts_in l.pool l.lines
