use Rattle.np_lookups.proofs.Members.{is-prepared}
use Rattle.np_lookups.proofs.requests.Open.prepare.Goals as goal

pub returns-clause-prepared : goal.returns-clause-prepared
returns-clause-prepared g c ch listed = is-prepared (g.R.Rows.state c.args.rows.now) ch c.args.requests.now c.in_ok-past.past.items c.in_ok-past.ensures listed
