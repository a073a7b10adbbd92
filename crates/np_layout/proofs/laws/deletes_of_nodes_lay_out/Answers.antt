use Rattle.np_layout.proofs.Deletes.{nodes_go-lay-out}
use Rattle.np_layout.proofs.laws.deletes_of_nodes_lay_out.Goals as goal

pub returns : goal.returns
returns c = nodes_go-lay-out
