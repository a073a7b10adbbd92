use Rattle.np_layout.proofs.Creates.{swept_pairs-lay-out}
use Rattle.np_layout.proofs.laws.creates_of_swept_pairs_lay_out.Goals as goal

pub returns : goal.returns
returns c = swept_pairs-lay-out
