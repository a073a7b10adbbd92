use Rattle.np_config_text.proofs.Prelude.{sym}
use Rattle.np_config_text.proofs.Again.{tenant-ascii}
use Rattle.np_config_text.proofs.names.tenant_name.Goals as goal

pub returns-in-Some-clause-ascii : goal.returns-in-Some-clause-ascii
returns-in-Some-clause-ascii c = rw c.items.ensures (tenant-ascii c.args.config.now c.args.id c.in-Some.tenant.now c.know_soundness.ensures (sym c.in-Some.ensures))
