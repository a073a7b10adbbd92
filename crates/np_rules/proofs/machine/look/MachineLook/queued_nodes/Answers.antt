use Rattle.np_rules.proofs.Prelude.{ap, arith, few-nodes, length}
use Rattle.np_rules.proofs.machine.look.MachineLook.queued_nodes.Goals as goal

pub number_of-requires : goal.number_of-requires
number_of-requires g c =
    let list = c.nodes_of-nodes.ensures c.self.inside.tables.configuration c.self.inside.tables.state c.self.invariant.index in
    omega (arith, ap length list, few-nodes c.args.session c.self.inside.tables.state, c.nodes.ensures)
