use Rattle.np_config_read.proofs.Prelude.{refl}
use Rattle.np_config_read.proofs.Parsed.{reading_on_literals}
use Rattle.np_config_read.proofs.law.texts_have_their_first_faults.Goals as goal

pub returns-clause-labels : goal.returns-clause-labels
unfolding reading_on_literals
returns-clause-labels c = (refl, (refl, (refl, (refl, (refl, (refl, (refl, (refl, (refl, (refl, (refl, (refl, (refl, (refl, (refl, (refl, (refl, (refl, (refl, (refl, (refl, tt)))))))))))))))))))))

pub returns-clause-pools : goal.returns-clause-pools
unfolding reading_on_literals
returns-clause-pools c = (refl, (refl, (refl, (refl, (refl, (refl, (refl, tt)))))))

pub returns-clause-requesters : goal.returns-clause-requesters
unfolding reading_on_literals
returns-clause-requesters c = (refl, (refl, (refl, (refl, (refl, (refl, (refl, tt)))))))

pub returns-clause-tenants : goal.returns-clause-tenants
unfolding reading_on_literals
returns-clause-tenants c = (refl, (refl, (refl, (refl, (refl, (refl, (refl, (refl, (refl, (refl, tt))))))))))

pub returns-clause-faults : goal.returns-clause-faults
unfolding reading_on_literals
returns-clause-faults c = (refl, (refl, (refl, (refl, (refl, (refl, tt))))))
