-- what a plan reads of a state beyond the machine's own words
use Rattle.std.specs.Prelude.{List, Bool, ◌==◌, ◌||◌, Option}
use Rattle.np_changes.specs.Lower.{JobId, JobRecord, NodeId, PoolId, Registration, RequestRecord, is_declined_by, is_marked, list_all, option_map, position}

-- every registered pool has declined the request, or is this one
abbrev pub is_last_pool : List Registration → RequestRecord → PoolId → Bool
is_last_pool registrations request p = list_all (λ g. is_declined_by g.pool request.declined || (p.0 == g.pool.0)) registrations

-- the first job that has the node
abbrev pub owner_of : NodeId → List JobRecord → Option JobId
owner_of n jobs = option_map (λ at. record { 0 = at }) (position (is_marked n) jobs)
