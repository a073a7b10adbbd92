use Rattle.np_launch.proofs.Prelude.{AllByRecursion, NonePlanned, take}
use Rattle.np_launch.proofs.planned.first_planned_of_any.Given as goal

abbrev pub invariant-loop-kind : goal.invariant-loop-kind
invariant-loop-kind g l =
    AllByRecursion (NonePlanned (g.L.Look.site l.look) (g.L.Look.state l.look) l.rows.pool) (take l.kind-index l.kinds)
