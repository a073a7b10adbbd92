use Rattle.np_steps.proofs.Prelude.{Some, ap, ◌∙◌}
use Rattle.np_steps.proofs.RecordRows.{acts-fit, starts-fit, strikes-fit}
use Rattle.np_steps.proofs.records.push_deed.Goals as goal

pub push_act-requires : goal.push_act-requires
push_act-requires g c = acts-fit c.args.maker c.args.deed c.in-Some-maker.maker (g.R.Rows.state c.args.rows.now) c.in-Some-maker.is (c.in-Some.is ∙ ap Some c.in-Acts.is) c.requires

pub push_start-requires : goal.push_start-requires
push_start-requires g c = starts-fit c.args.maker c.args.deed c.in-StartsAndActs.pool (g.R.Rows.state c.args.rows.now) (c.in-Some.is ∙ ap Some c.in-StartsAndActs.is) c.requires

pub push_strike-requires : goal.push_strike-requires
push_strike-requires g c = strikes-fit c.args.maker c.args.deed c.in-Strikes.role c.in-Strikes.counted (g.R.Rows.state c.args.rows.now) (c.in-Some.is ∙ ap Some c.in-Strikes.is) c.requires
