use Rattle.np_layout.proofs.Deletes.{node_waits-lay-out}
use Rattle.np_layout.proofs.laws.deletes_of_node_waits_lay_out.Goals as goal

pub returns : goal.returns
returns c = node_waits-lay-out
