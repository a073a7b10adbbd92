use Rattle.np_lookups.proofs.Prelude.{queued_nodes}
use Rattle.np_lookups.proofs.QueueLemmas.{AreBelow}
use Rattle.np_lookups.proofs.lookups.nodes_by_session.Given as goal

abbrev pub invariant-loop-number : goal.invariant-loop-number
invariant-loop-number g l = AreBelow (λ x. queued_nodes x (g.R.Rows.state l.rows)) l.number l.lists.items
