use Rattle.np_steps.proofs.ReadyTables.{deeds-spelled, jobs-spelled, nodes-spelled, requests-spelled}
use Rattle.np_steps.proofs.call.push_settled.Goals as goal

pub push_requests-requires-clause-spelled : goal.push_requests-requires-clause-spelled
push_requests-requires-clause-spelled g c = requests-spelled (g.R.Rows.site c.args.rows.now) c.args.changes.now (g.R.Rows.state c.args.rows.now) c.requires.ready

pub push_nodes-requires-clause-spelled : goal.push_nodes-requires-clause-spelled
push_nodes-requires-clause-spelled g c = nodes-spelled (g.R.Rows.site c.args.rows.now) c.args.changes.now (g.R.Rows.state c.args.rows.now) c.requires.ready

pub push_jobs-requires : goal.push_jobs-requires
push_jobs-requires g c = jobs-spelled (g.R.Rows.site c.args.rows.now) c.args.changes.now (g.R.Rows.state c.args.rows.now) c.requires.ready

pub push_deed-requires : goal.push_deed-requires
push_deed-requires g c = deeds-spelled (g.R.Rows.site c.args.rows.now) c.args.changes.now (g.R.Rows.state c.args.rows.now) c.requires.ready
