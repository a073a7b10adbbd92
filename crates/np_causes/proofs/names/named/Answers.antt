use Rattle.np_causes.proofs.names.named.Goals as goal

pub returns-in-Served : goal.returns-in-Served
returns-in-Served g c = rw c.in-Served.is (rw c.rows-rows.ensures.state at c.then_nodes.ensures)
