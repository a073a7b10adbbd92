use Rattle.np_launch.proofs.Prelude.{AllByRecursion, NoneLaunched, take}
use Rattle.np_launch.proofs.launcher.first_of_any.Given as goal

abbrev pub invariant-loop-kind : goal.invariant-loop-kind
invariant-loop-kind g l =
    AllByRecursion (NoneLaunched (g.L.Look.site l.look) (g.L.Look.state l.look) l.rows.pool) (take l.kind-index l.kinds)
