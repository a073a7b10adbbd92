use Rattle.np_worked.proofs.Prelude.{arith, node, refl, request}
use Rattle.np_worked.proofs.refused.a_journal_is_kept_in_three_ways.Goals as goal

pub returns-clause-requests : goal.returns-clause-requests
returns-clause-requests c = λ kept. grind (arith, kept.requests.0 (request 0) refl)

pub returns-clause-nodes : goal.returns-clause-nodes
returns-clause-nodes c = λ kept. grind (arith, kept.nodes.0 (node 0) refl)
