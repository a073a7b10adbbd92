use Rattle.np_config_text.proofs.Prelude.{sym}
use Rattle.np_config_text.proofs.Again.{pool_name-ascii}
use Rattle.np_config_text.proofs.names.pool_name_value.Goals as goal

pub text_value-requires : goal.text_value-requires
text_value-requires c =
    rw (c.as_slice.ensures.value, c.in_ok-name-in-Some.ensures, c.providers.ensures)
    (pool_name-ascii c.args.config.now c.args.id.0 c.in-Some.pool.now c.know_soundness.ensures (sym c.in-Some.ensures))
