use Rattle.np_index.proofs.Prelude.{candidate_ranks, lines_left}
use Rattle.np_index.proofs.Firsts.{passes}
use Rattle.np_index.proofs.CandidateLemmas.{IsBefore, IsBest}
use Rattle.np_index.proofs.index.Index.candidate_at.Given as goal

abbrev pub invariant-loop-place : goal.invariant-loop-place
invariant-loop-place g l = IsBefore (candidate_ranks (g.R.Rows.site l.rows) (g.R.Rows.state l.rows) l.pool) l._place l.after

abbrev pub invariant-loop-next : goal.invariant-loop-next
invariant-loop-next g l = IsBest (passes (g.R.Rows.site l.rows) (g.R.Rows.state l.rows) l.pool l.after) l.requested.members l.next l.best

abbrev pub decreases-loop-next : goal.decreases-loop-next
decreases-loop-next g l = lines_left l.next
