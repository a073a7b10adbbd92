use Rattle.np_lookups.proofs.Prelude.{AreBy, length, line_of, take}
use Rattle.np_lookups.proofs.Members.{is_row_in}
use Rattle.np_lookups.proofs.requests.all_requests.Given as goal

abbrev pub invariant-loop-at : goal.invariant-loop-at
invariant-loop-at g l =
    AreBy (is_row_in (length (g.R.Rows.site l.rows).pools) (line_of (g.R.Rows.site l.rows) l.lines) (take l.at (g.R.Rows.state l.rows).requests)) l.groups.members
