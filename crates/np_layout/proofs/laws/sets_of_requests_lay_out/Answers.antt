use Rattle.np_layout.proofs.Sets.{requests-lay-out}
use Rattle.np_layout.proofs.laws.sets_of_requests_lay_out.Goals as goal

pub returns : goal.returns
returns c = requests-lay-out
