use Rattle.np_low_tests.proofs.LockLemmas.{ends-lock}
use Rattle.np_low_tests.proofs.locks.ends.Goals as goal

pub returns : goal.returns
returns c = ends-lock c.args.tree.now c.end_session.new.self c.args.dir.now c.args.session c.end_session.result c.changes.ensures.tree c.requires c.end_session.ensures.yes c.end_session.ensures.no
