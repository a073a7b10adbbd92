use Rattle.np_steps.proofs.Prelude.{struck_unless}
use Rattle.np_steps.proofs.RecordRows.{role-there}
use Rattle.np_steps.proofs.records.push_strike.Goals as goal

pub returns : goal.returns
returns g c =
    let s = g.R.Rows.state c.args.rows.now in
    role-there (struck_unless c.args.counted) c.args.who s _ _ _ c.in-Some.old c.struck.result c.in-Some.ensures c.struck.ensures c.push_role.ensures
