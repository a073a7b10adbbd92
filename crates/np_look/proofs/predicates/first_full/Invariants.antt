use Rattle.np_look.proofs.Prelude.{drop, find, first_full, has_handle, is_full, not, ◌&&◌, ◌≡◌}
use Rattle.np_look.proofs.predicates.first_full.Given as goal

abbrev pub invariant-loop-semaphore : goal.invariant-loop-semaphore
invariant-loop-semaphore g l =
    find (λ x. not (has_handle l.id (g.R.Rows.state l.rows).handles x) && is_full (g.R.Rows.site l.rows) (g.R.Rows.state l.rows) x) (drop l.semaphore-index l.semaphore-items) ≡ first_full (g.R.Rows.site l.rows) (g.R.Rows.state l.rows) l.id l.job
