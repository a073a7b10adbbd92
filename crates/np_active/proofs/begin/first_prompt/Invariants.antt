use Rattle.np_active.proofs.Prelude.{drop, find, ids_in, may_begin_of, ◌≡◌}
use Rattle.np_active.proofs.begin.first_prompt.Given as goal

abbrev pub invariant-loop-at : goal.invariant-loop-at
invariant-loop-at g l =
    find (may_begin_of (g.R.Rows.site l.rows) (g.R.Rows.state l.rows)) (drop l.at (ids_in l.group l.jobs.members)) ≡ find (may_begin_of (g.R.Rows.site l.rows) (g.R.Rows.state l.rows)) (ids_in l.group l.jobs.members)
