use Rattle.np_layout.proofs.Creates.{handles_go-lay-out}
use Rattle.np_layout.proofs.laws.deletes_of_handles_lay_out.Goals as goal

pub returns : goal.returns
returns c = handles_go-lay-out
