use Rattle.np_static.proofs.Loads.{launch-takes}
use Rattle.np_static.proofs.law.a_launch_takes_the_first_free_host.Goals as goal

pub returns : goal.returns
returns c = launch-takes
