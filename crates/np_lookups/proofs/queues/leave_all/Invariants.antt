use Rattle.np_lookups.proofs.Prelude.{drop, lists_without, ◌≡◌}
use Rattle.np_lookups.proofs.queues.leave_all.Given as goal

abbrev pub invariant-loop-session : goal.invariant-loop-session
invariant-loop-session g l =
    lists_without (λ a b. g.O.Order.same (g.O.Order.key a) (g.O.Order.key b)) l.row (drop l.session-index l.queue) l.lists.items
    ≡ lists_without (λ a b. g.O.Order.same (g.O.Order.key a) (g.O.Order.key b)) l.row l.queue l.initial.lists.items
