use Rattle.np_worker.proofs.Hosted.{round-hosted}
use Rattle.np_worker.proofs.law.hosted.a_round_keeps_what_is_hosted.Goals as goal

pub returns : goal.returns
returns g = round-hosted
