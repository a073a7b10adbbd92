use Rattle.np_listing.proofs.Prelude.{count_by, has_fate, take, ◌≡◌, ◌≤◌}
use Rattle.np_listing.proofs.fates.fate_count.Given as goal

abbrev pub invariant-loop-at : goal.invariant-loop-at
invariant-loop-at g l = record {
  few : l.count ≤ l.at;
  all : l.count ≡ count_by (λ job. has_fate l.fate job.ending) (take l.at (g.R.Rows.state l.rows).jobs);
}
