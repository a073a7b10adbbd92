use Rattle.np_layout.proofs.Creates.{request_waits-lay-out}
use Rattle.np_layout.proofs.laws.waits_at_requests_lay_out.Goals as goal

pub returns : goal.returns
returns c = request_waits-lay-out
