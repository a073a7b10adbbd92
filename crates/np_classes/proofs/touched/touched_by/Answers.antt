use Rattle.np_classes.proofs.Listed.{is-touched}
use Rattle.np_classes.proofs.touched.touched_by.Goals as goal

pub returns : goal.returns
returns g c =
    is-touched (g.R.Rows.site c.args.rows.now) (g.R.Rows.state c.args.rows.now) c.args.changes.now c.args.ended_nodes.now c.args.ended_requests.now
    c.requires.reached c.requires.planned c.requires.nodes c.requires.requests _
    c.in_ok-nodes.ensures c.in_ok-requests.ensures c.in_ok-queues.ensures c.in_ok-jobs.ensures c.in_ok-sessions.ensures
