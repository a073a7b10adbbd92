use Rattle.np_config_read.proofs.DefaultLemmas.{top-defaults, label-defaults, provider-defaults, pool-defaults, offer-defaults, semaphore-defaults, requester-defaults, job-defaults}
use Rattle.np_config_read.proofs.law.an_absent_key_has_its_default.Goals as goal

pub returns : goal.returns
returns c = record {
  top = top-defaults;
  label = label-defaults;
  provider = provider-defaults;
  pool = pool-defaults;
  offer = offer-defaults;
  semaphore = semaphore-defaults;
  requester = requester-defaults;
  job = job-defaults;
}
