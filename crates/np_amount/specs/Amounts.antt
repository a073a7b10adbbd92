-- sums of amounts, and what fits a limit
use Rattle.std.specs.Prelude.{ℕ, ◌+◌, ◌-◌, ◌*◌, ◌≤◌, List, [], ◌∷◌, Bool, true, ◌&&◌, nat_le, Option, Some, None}
use Rattle.np_amount.specs.declared.amount.Amount.{Amount}
use Rattle.np_amount.specs.declared.amount.Limit.{Limit}

-- the amount of no node (own)
abbrev pub nothing : Amount
nothing = record { instances = 0; cores = 0; ram = 0 }

-- no limit at all (Nodepool: a pool without max-servers, max-cores and max-ram)
abbrev pub no_limit : Limit
no_limit = record { instances = None; cores = None; ram = None }

-- the sum of both, part by part (own)
abbrev pub plus : Amount → Amount → Amount
plus a b = record { instances = a.instances + b.instances; cores = a.cores + b.cores; ram = a.ram + b.ram }

-- what is left of the first without the second, part by part (own)
abbrev pub minus : Amount → Amount → Amount
minus a b = record { instances = a.instances - b.instances; cores = a.cores - b.cores; ram = a.ram - b.ram }

-- the same amount n times (own)
abbrev pub times : ℕ → Amount → Amount
times n a = record { instances = n * a.instances; cores = n * a.cores; ram = n * a.ram }

-- no part of the first is above that of the second (own)
pub record IsAtMost (a b : Amount) : Type 0 where
  pub instances : a.instances ≤ b.instances
  pub cores : a.cores ≤ b.cores
  pub ram : a.ram ≤ b.ram

-- at most the limit, if there is one (own)
abbrev pub is_within : Option ℕ → ℕ → Bool
is_within None used = true
is_within (Some most) used = nat_le used most

-- each part within its limit (Nodepool: max-servers, max-cores, max-ram)
abbrev pub fits : Amount → Limit → Bool
fits a limit = is_within limit.instances a.instances && is_within limit.cores a.cores && is_within limit.ram a.ram

-- the sum of the amounts of a list (own)
abbrev pub total : List Amount → Amount
total [] = nothing
total (a ∷ amounts) = plus a (total amounts)
