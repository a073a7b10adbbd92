use Rattle.np_layout.proofs.Creates.{node_waits-lay-out}
use Rattle.np_layout.proofs.laws.waits_at_nodes_lay_out.Goals as goal

pub returns : goal.returns
returns c = node_waits-lay-out
