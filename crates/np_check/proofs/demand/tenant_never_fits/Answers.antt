use Rattle.np_check.proofs.Prelude.{ap, arith, length, sound_fits, ◌≤◌}
use Rattle.np_check.proofs.demand.tenant_never_fits.Goals as goal

pub amount_of_all-all-requires-clause-few : goal.amount_of_all-all-requires-clause-few
amount_of_all-all-requires-clause-few c =
    let few : length c.args.row.now.labels ≤ 32 = ((sound_fits c.args.config.now c.know_soundness.ensures).job_rows c.args.job c.args.row.now c.requires).labels in
    omega (arith, few, ap length c.items.ensures)

pub amount_of_all-all-requires-clause-small : goal.amount_of_all-all-requires-clause-small
amount_of_all-all-requires-clause-small c = (sound_fits c.args.config.now c.know_soundness.ensures).amounts c.args.pool
