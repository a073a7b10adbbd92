use Rattle.np_layout.proofs.Deletes.{request_waits-lay-out}
use Rattle.np_layout.proofs.laws.deletes_of_request_waits_lay_out.Goals as goal

pub returns : goal.returns
returns c = request_waits-lay-out
