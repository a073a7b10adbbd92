use Rattle.np_layout.proofs.CreateRequests.{grown_requests-lay-out}
use Rattle.np_layout.proofs.laws.grown_requests_lay_out.Goals as goal

pub returns : goal.returns
returns c = grown_requests-lay-out
