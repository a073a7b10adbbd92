use Rattle.np_layout.proofs.Creates.{registrations-lay-out}
use Rattle.np_layout.proofs.laws.creates_of_registrations_lay_out.Goals as goal

pub returns : goal.returns
returns c = registrations-lay-out
