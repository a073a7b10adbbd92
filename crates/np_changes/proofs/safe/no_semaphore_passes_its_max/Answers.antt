use Rattle.np_changes.proofs.Runs.{invariant-Runs}
use Rattle.np_changes.proofs.safe.no_semaphore_passes_its_max.Goals as goal

pub returns-clause-few : goal.returns-clause-few
returns-clause-few c = λ site journal s x sem runs row. ((invariant-Runs site journal s runs).within.max x sem row).1

pub returns-clause-once : goal.returns-clause-once
returns-clause-once c = λ site journal s x sem runs row. ((invariant-Runs site journal s runs).within.max x sem row).0
