use Rattle.np_launch.proofs.Prelude.{arith}
use Rattle.np_launch.proofs.Registrants.{pending-few, unserved-few}
use Rattle.np_launch.proofs.near.launcher_requests.Goals as goal

pub overflow_add-result : goal.overflow_add-result
overflow_add-result g c =
    omega (
      arith,
      c.pending_requests-pending.ensures,
      c.unserved_requests.ensures,
      c.requires.requests,
      pending-few (g.L.Look.state c.args.look.now) c.args.other,
      unserved-few (g.L.Look.site c.args.look.now) (g.L.Look.state c.args.look.now) c.args.pool c.in-Some.session,
    )
