use Rattle.np_explain.proofs.Prelude.{lines_of_job, places, slice_get, ◌≡◌}
use Rattle.np_explain.proofs.fails.failures.Given as goal

abbrev pub invariant-loop-at : goal.invariant-loop-at
invariant-loop-at g l =
    let c = g.R.Rows.site l.rows in
    let s = g.R.Rows.state l.rows in
    l.out.items ≡ places (λ n. lines_of_job c s n (slice_get s.jobs n)) l.at
