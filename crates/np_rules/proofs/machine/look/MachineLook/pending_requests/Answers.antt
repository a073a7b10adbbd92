use Rattle.np_rules.proofs.Prelude.{arith}
use Rattle.np_rules.proofs.Few.{few-pending}
use Rattle.np_rules.proofs.machine.look.MachineLook.pending_requests.Goals as goal

pub number_of-requires : goal.number_of-requires
number_of-requires g c =
    let number = c.pending_requests.ensures c.self.inside.tables.configuration c.self.inside.tables.state c.self.invariant.index in
    omega (arith, number, few-pending c.args.pool c.self.inside.tables.state, c.requests.ensures)
