use Rattle.np_cloud.proofs.CloudLemmas.{simulations-planned}
use Rattle.np_cloud.proofs.law.simulated_clouds_follow_the_configuration.Goals as goal

pub returns : goal.returns
returns c = simulations-planned
