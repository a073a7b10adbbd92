use Rattle.np_layout.proofs.Sessions.{sessions-lay-out}
use Rattle.np_layout.proofs.laws.begun_sessions_lay_out.Goals as goal

pub returns : goal.returns
returns c = sessions-lay-out
