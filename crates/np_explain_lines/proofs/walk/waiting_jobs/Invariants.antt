use Rattle.np_explain_lines.proofs.Prelude.{IsPending, IsWaiting, JobId, Thing, true, waits, ◌≡◌, ◌≤◌}
use Rattle.np_explain_lines.proofs.walk.waiting_jobs.Given as goal

abbrev pub invariant-loop-left : goal.invariant-loop-left
invariant-loop-left g l = record {
  all : (j : JobId) → waits (g.R.Rows.state l.rows) j ≡ true → l.left ≤ j.0 → IsPending l.pending.items (Thing.Job j);
  alone : (it : Thing) → IsPending l.pending.items it → IsWaiting (g.R.Rows.state l.rows) it;
}

abbrev pub decreases-loop-left : goal.decreases-loop-left
decreases-loop-left g l = l.left
