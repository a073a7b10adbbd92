use Rattle.np_classes.proofs.Prelude.{RequestEntry, groups_of_request, is_id_before, same_request, ◌≡◌}
use Rattle.np_classes.proofs.MemberLemmas.{made, requests-in_order}
use Rattle.np_classes.proofs.members.all_requests.Given as goal

abbrev pub invariant-loop-at : goal.invariant-loop-at
invariant-loop-at g l = l.groups.members ≡ made is_id_before same_request requests-in_order (λ (e : RequestEntry). e.id) (groups_of_request (g.R.Rows.state l.rows)) (g.R.Rows.state l.rows).requests l.at
