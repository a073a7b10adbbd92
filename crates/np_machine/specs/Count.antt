-- what a pool uses, and what it may use
use Rattle.std.specs.Prelude.{ℕ, List, [], Bool, ◌==◌, ◌&&◌, not, Option, is_some, length, map, filter, find, slice_get, option_and_then}
use Rattle.std.specs.Option.{option_map_or}
use Rattle.np_machine.specs.Entries.{NodeEntry}
use Rattle.np_machine.specs.State.{State}
use Rattle.np_machine.specs.Lower.{Amount, Configuration, LabelId, Limit, Offer, PoolId, fits, no_limit, nothing, plus, total}

-- what the pool offers (Nodepool: a pool's labels)
abbrev pub offers_of : Configuration → PoolId → List Offer
offers_of c p = option_map_or (λ pool. pool.offers) (slice_get c.pools p.0) []

abbrev pub limit_of : Configuration → PoolId → Limit
limit_of c p = option_map_or (λ pool. pool.limit) (slice_get c.pools p.0) no_limit

-- how many times a node of the pool may be launched (Nodepool: launch-retries, here the total of
-- attempts)
abbrev pub retries_of : Configuration → PoolId → ℕ
retries_of c p = option_map_or (λ provider. provider.retries) (option_and_then (λ pool. slice_get c.providers pool.provider) (slice_get c.pools p.0)) 0

abbrev pub offer_of : Configuration → PoolId → LabelId → Option Offer
offer_of c p l = find (λ o. o.label.0 == l.0) (offers_of c p)

-- the pool offers the label
abbrev pub is_offered : Configuration → PoolId → LabelId → Bool
is_offered c p l = is_some (offer_of c p l)

-- what a node of the label takes of the pool, nothing if the pool does not offer it
abbrev pub amount_of : Configuration → PoolId → LabelId → Amount
amount_of c p l = option_map_or (λ o. o.amount) (offer_of c p l) nothing

-- what the labels that the pool offers take together
abbrev pub amount_of_all : Configuration → PoolId → List LabelId → Amount
amount_of_all c p labels = total (map (amount_of c p) labels)

-- the nodes of the pool, in whatever state
abbrev pub nodes_of : PoolId → State → List NodeEntry
nodes_of p s = filter (λ e. e.kept.pool.0 == p.0) s.nodes

-- the node is of the pool and the label
abbrev pub is_kind : PoolId → LabelId → NodeEntry → Bool
is_kind p l e = (e.kept.pool.0 == p.0) && (e.kept.label.0 == l.0)

-- how many nodes of the pool and the label there are
abbrev pub number_of : PoolId → LabelId → List NodeEntry → ℕ
number_of p l nodes = length (filter (is_kind p l) nodes)

-- what the pool uses: the amounts of all its node records (own: each counts until it is removed)
abbrev pub count_of : Configuration → State → PoolId → Amount
count_of c s p = total (map (λ e. amount_of c p e.kept.label) (nodes_of p s))

-- one more node of the label would pass a limit of the pool (Nodepool: quota)
abbrev pub is_short : Configuration → State → PoolId → LabelId → Bool
is_short c s p l = not (fits (plus (count_of c s p) (amount_of c p l)) (limit_of c p))
