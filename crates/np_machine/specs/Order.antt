-- the order of requests, and whose they are
use Rattle.std.specs.Prelude.{List, Bool, false, ◌==◌, ◌&&◌, not, if◌then◌else◌, Option, Some, None, nat_lt}
use Rattle.std.specs.List.{list_any}
use Rattle.np_machine.specs.Entries.{RequestEntry}
use Rattle.np_machine.specs.Kinds.{is_pending}
use Rattle.np_machine.specs.Lower.{Declined, PoolId, RequestId, RequestRecord}

-- the id comes before the other in the byte order of their texts
abbrev pub is_id_before : RequestId → RequestId → Bool
is_id_before a b = if a.priority == b.priority then nat_lt a.seq b.seq else nat_lt a.priority b.priority

-- by priority, then relative priority, then sequence (Nodepool: priority; the middle part is own in its place)
abbrev pub comes_before : RequestEntry → RequestEntry → Bool
comes_before a b =
    if a.id.priority == b.id.priority
    then (if a.kept.relative_priority == b.kept.relative_priority
    then nat_lt a.id.seq b.id.seq
    else nat_lt a.kept.relative_priority b.kept.relative_priority)
    else nat_lt a.id.priority b.id.priority

abbrev pub is_pool : PoolId → Option PoolId → Bool
is_pool p None = false
is_pool p (Some other) = other.0 == p.0

-- not this pool, if there is one
abbrev pub is_elsewhere : PoolId → Option PoolId → Bool
is_elsewhere p None = false
is_elsewhere p (Some other) = not (other.0 == p.0)

-- pinned to another pool (own: a min-ready request is served only by the pool that made it)
abbrev pub is_pinned_away : PoolId → RequestRecord → Bool
is_pinned_away p request = is_elsewhere p request.pinned

abbrev pub is_declined_by : PoolId → List Declined → Bool
is_declined_by p declined = list_any (λ d. d.pool.0 == p.0) declined

-- pending, and this pool serves it
abbrev pub is_pending_by : PoolId → RequestRecord → Bool
is_pending_by p request = is_pending request.state && is_pool p request.pool
