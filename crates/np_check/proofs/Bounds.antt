use Rattle.np_check.proofs.Prelude.{arith, ℕ, ◌*◌, ◌<◌, ◌^◌, ◌≤◌}

-- a product of a number of 32 bits and one of at most a million
pub times_fit : (n a : ℕ) → n < 2 ^ 32 → a ≤ 1000000 → n * a < 2 ^ 64
times_fit n a few small = grind arith
