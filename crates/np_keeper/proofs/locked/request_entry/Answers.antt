use Rattle.np_keeper.proofs.Prelude.{request_view}
use Rattle.np_keeper.proofs.Queued.{none_seen, request_there}
use Rattle.np_keeper.proofs.locked.request_entry.Goals as goal

pub returns-in_default : goal.returns-in_default
returns-in_default g c = none_seen request_view _ c.in_default.ensures

pub returns : goal.returns
returns g c = request_there (g.R.Rows.site c.args.rows.now) (g.R.Rows.state c.args.rows.now) c.requires.reached c.args.at c.in-Some.view c.in_ok-queue.queue c.in-Some.ensures c.in_ok-queue.ensures
