use Rattle.np_tree_rows.proofs.Prelude.{Configuration, IsStored, State, length, queued_requests, ◌+◌, ◌≡◌, ◌≤◌}
use Rattle.np_tree_rows.proofs.Registered.{requests_from}
use Rattle.np_tree_rows.proofs.queues.queued_requests.Given as goal

abbrev pub invariant-loop-at : goal.invariant-loop-at
invariant-loop-at l = record {
  few : l.count ≤ l.at;
  all : (c : Configuration) (s : State) → IsStored c s l.tree → l.count + length (requests_from l.session l.at s) ≡ length (queued_requests l.session s);
}
