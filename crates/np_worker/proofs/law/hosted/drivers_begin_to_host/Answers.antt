use Rattle.np_worker.proofs.Hosted.{begin-hosted}
use Rattle.np_worker.proofs.law.hosted.drivers_begin_to_host.Goals as goal

pub returns : goal.returns
returns g = begin-hosted
