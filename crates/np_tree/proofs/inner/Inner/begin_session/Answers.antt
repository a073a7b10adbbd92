use Rattle.np_tree.proofs.CallLemmas.{Holds-begin}
use Rattle.np_tree.proofs.inner.Inner.begin_session.Goals as goal

pub returns-clause-holds : goal.returns-clause-holds
returns-clause-holds c =
    Holds-begin c.args.self.now c.begin.new.self c.begin.result c.requires c.begin.ensures.ok c.begin.ensures.err
