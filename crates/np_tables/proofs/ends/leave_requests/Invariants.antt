use Rattle.np_tables.proofs.Prelude.{drop, same_request, ◌≡◌}
use Rattle.np_tables.proofs.TableLemmas.{each_left}
use Rattle.np_tables.proofs.ends.leave_requests.Given as goal

abbrev pub invariant-loop-request : goal.invariant-loop-request
invariant-loop-request l = each_left same_request l.session (drop l.request-index l.ids) l.requests.rows ≡ each_left same_request l.session l.ids l.initial.requests.rows
