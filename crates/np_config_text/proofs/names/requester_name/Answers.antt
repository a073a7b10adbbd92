use Rattle.np_config_text.proofs.Prelude.{sym}
use Rattle.np_config_text.proofs.Again.{requester-ascii}
use Rattle.np_config_text.proofs.names.requester_name.Goals as goal

pub returns-in-Some-clause-ascii : goal.returns-in-Some-clause-ascii
returns-in-Some-clause-ascii c = rw c.items.ensures (requester-ascii c.args.config.now c.args.id.0 c.in-Some.requester.now c.know_soundness.ensures (sym c.in-Some.ensures))
