use Rattle.np_launch.proofs.Prelude.{drop, is_in_hand_at, list_any, queued_requests, ◌≡◌}
use Rattle.np_launch.proofs.requests.has_request_in_hand.Given as goal

abbrev pub invariant-loop-at : goal.invariant-loop-at
invariant-loop-at g l =
    list_any (is_in_hand_at l.pool l.session (g.L.Look.state l.look)) (drop l.at (queued_requests l.session (g.L.Look.state l.look))) ≡ list_any (is_in_hand_at l.pool l.session (g.L.Look.state l.look)) (queued_requests l.session (g.L.Look.state l.look))
