use Rattle.np_layout.proofs.Sessions.{session_ends-lay-out}
use Rattle.np_layout.proofs.laws.ends_of_sessions_lay_out.Goals as goal

pub returns : goal.returns
returns c = session_ends-lay-out
