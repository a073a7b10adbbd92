use Rattle.np_layout.proofs.Creates.{grown_nodes-lay-out}
use Rattle.np_layout.proofs.laws.grown_nodes_lay_out.Goals as goal

pub returns : goal.returns
returns c = grown_nodes-lay-out
