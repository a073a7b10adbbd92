use Rattle.np_layout.proofs.Sets.{mutes-lay-out}
use Rattle.np_layout.proofs.laws.sets_of_sessions_lay_out.Goals as goal

pub returns : goal.returns
returns c = mutes-lay-out
