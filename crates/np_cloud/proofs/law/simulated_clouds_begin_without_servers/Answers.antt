use Rattle.np_cloud.proofs.CloudLemmas.{simulations-fresh}
use Rattle.np_cloud.proofs.law.simulated_clouds_begin_without_servers.Goals as goal

pub returns : goal.returns
returns c = simulations-fresh
