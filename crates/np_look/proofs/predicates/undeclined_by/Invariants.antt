use Rattle.np_look.proofs.Prelude.{drop, undeclined, ◌+◌, ◌≡◌, ◌≤◌}
use Rattle.np_look.proofs.predicates.undeclined_by.Given as goal

abbrev pub invariant-loop-at : goal.invariant-loop-at
invariant-loop-at g l = record {
  few : l.count ≤ l.at;
  all : l.count + undeclined (drop l.at (g.R.Rows.state l.rows).registrations) l.kept ≡ undeclined (g.R.Rows.state l.rows).registrations l.kept;
}
