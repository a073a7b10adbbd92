use Rattle.np_jobs.proofs.Prelude.{sym}
use Rattle.np_jobs.proofs.Nodes.{lock-none, lock-chooses}
use Rattle.np_jobs.proofs.step.first_lock.Goals as goal

pub returns-in-None : goal.returns-in-None
returns-in-None g c =
    lock-none (g.L.Look.site c.args.look.now) (g.L.Look.state c.args.look.now) c.requires.reached c.args.rows.now.requester c.args.session c.requires.current (sym c.in-None.ensures)

pub returns-in-Some : goal.returns-in-Some
returns-in-Some g c =
    lock-chooses (g.L.Look.site c.args.look.now) (g.L.Look.state c.args.look.now) c.requires.reached c.args.rows.now.requester c.args.session c.requires.current c.in-Some.node (sym c.in-Some.ensures)
