use Rattle.np_worker.proofs.Hosted.{tick-hosted}
use Rattle.np_worker.proofs.law.hosted.a_tick_keeps_what_is_hosted.Goals as goal

pub returns : goal.returns
returns g = tick-hosted
