use Rattle.np_tables.proofs.Prelude.{drop, filter, is_queued, map, slice_get, ◌≡◌}
use Rattle.np_tables.proofs.queues.queued_at.Given as goal

abbrev pub invariant-loop-row : goal.invariant-loop-row
invariant-loop-row g l =
    slice_get (map (λ e. e.id) (filter (λ e. is_queued l.session e.queue) (drop l.row-index l.rows))) l.left ≡ slice_get (map (λ e. e.id) (filter (λ e. is_queued l.session e.queue) l.rows)) l.at
