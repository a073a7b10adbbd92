use Rattle.np_check.proofs.Prelude.{ap, arith, length, sound_fits, ◌≤◌}
use Rattle.np_check.proofs.demand.never_fits.Goals as goal

pub is_too_much-requires-clause-few : goal.is_too_much-requires-clause-few
is_too_much-requires-clause-few c =
    let few : length c.args.row.now.labels ≤ 32 = ((sound_fits c.args.config.now c.know_soundness.ensures).job_rows c.args.job c.args.row.now c.requires).labels in
    omega (arith, few, ap length c.items.ensures)

pub is_too_much-requires-clause-small : goal.is_too_much-requires-clause-small
is_too_much-requires-clause-small c = (sound_fits c.args.config.now c.know_soundness.ensures).amounts c.args.pool
