use Rattle.np_layout.proofs.Sets.{roles-lay-out}
use Rattle.np_layout.proofs.laws.sets_of_roles_lay_out.Goals as goal

pub returns : goal.returns
returns c = roles-lay-out
