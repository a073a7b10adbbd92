use Rattle.np_changes.proofs.Runs.{invariant-Runs}
use Rattle.np_changes.proofs.safe.no_tenant_passes_its_limit.Goals as goal

pub returns : goal.returns
returns c = λ site journal s t tenant runs row. (invariant-Runs site journal s runs).within.tenant_quota t tenant row
