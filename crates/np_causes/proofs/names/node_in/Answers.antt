use Rattle.np_causes.proofs.Places.{node_there}
use Rattle.np_causes.proofs.names.node_in.Goals as goal

pub returns-in-Some : goal.returns-in-Some
returns-in-Some g c = node_there c.args.request (g.R.Rows.state c.args.rows.now) c.args.at c.in_ok-asked.asked c.in-Some.node c.in_ok-asked.ensures c.in-Some.ensures
