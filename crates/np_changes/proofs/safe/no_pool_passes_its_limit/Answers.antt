use Rattle.np_changes.proofs.Runs.{invariant-Runs}
use Rattle.np_changes.proofs.safe.no_pool_passes_its_limit.Goals as goal

pub returns : goal.returns
returns c = λ site journal s p pool runs row. (invariant-Runs site journal s runs).within.quota p pool row
