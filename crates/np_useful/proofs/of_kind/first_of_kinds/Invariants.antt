use Rattle.np_useful.proofs.Prelude.{AllByRecursion, NoneOf, take}
use Rattle.np_useful.proofs.of_kind.first_of_kinds.Given as goal

abbrev pub invariant-loop-kind : goal.invariant-loop-kind
invariant-loop-kind g l =
    AllByRecursion (NoneOf (g.L.Look.site l.look) (g.L.Look.state l.look) (g.R.RoleRows.role l.rows)) (take l.kind-index l.kinds)
