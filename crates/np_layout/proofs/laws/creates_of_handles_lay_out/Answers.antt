use Rattle.np_layout.proofs.Creates.{handles-lay-out}
use Rattle.np_layout.proofs.laws.creates_of_handles_lay_out.Goals as goal

pub returns : goal.returns
returns c = handles-lay-out
