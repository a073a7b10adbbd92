-- what the simulated cloud does, by the configuration alone
use Rattle.std.specs.Prelude.{ℕ, List, [], ◌==◌, if◌then◌else◌, slice_get}
use Rattle.std.specs.Option.{option_map_or}
use Rattle.std.specs.List.{list_any}
use Rattle.np_machine.specs.Lower.{Configuration, Outcome, PoolId}

-- which starts of the pool fail
abbrev pub fail_starts_of : Configuration → PoolId → List ℕ
fail_starts_of c p = option_map_or (λ pool. pool.fail_starts) (slice_get c.pools p.0) []

-- a planned start fails; any other launches the server of its own number (own)
abbrev pub outcome_of : Configuration → PoolId → ℕ → Outcome
outcome_of c p m = if list_any (λ k. k == m) (fail_starts_of c p) then Outcome.Failed else Outcome.Launched m
