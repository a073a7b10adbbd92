use Rattle.np_layout.proofs.Deletes.{requests_go-lay-out}
use Rattle.np_layout.proofs.laws.deletes_of_requests_lay_out.Goals as goal

pub returns : goal.returns
returns c = requests_go-lay-out
