use Rattle.np_nodestep.proofs.Respelled.{held-respelled, state-respelled}
use Rattle.np_nodestep.proofs.law.a_respelled_node_is_the_same.Goals as goal

pub returns-clause-held : goal.returns-clause-held
returns-clause-held c x t n bytes held low is whole = held-respelled x t n bytes held low is whole

pub returns-clause-state : goal.returns-clause-state
returns-clause-state c x t n bytes held low is whole = state-respelled x t n bytes held low is whole
