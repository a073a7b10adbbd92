-- the order of keys, which are numbers
use Rattle.std.proofs.Common.{◌≡◌, arith, true, false}
use Rattle.std.specs.Prelude.{ℕ, nat_lt, ◌==◌}
use Rattle.std.proofs.lemmas.Bool.Decides.{nat_tests}

pub key_transitive : (a b k : ℕ) → nat_lt a b ≡ true → nat_lt b k ≡ true → nat_lt a k ≡ true
key_transitive a b k first second = grind (arith, nat_tests)

pub key_one_way : (a b : ℕ) → nat_lt a b ≡ true → nat_lt b a ≡ false
key_one_way a b first = grind (arith, nat_tests)

pub key_some_way : (a b : ℕ) → nat_lt a b ≡ false → (a == b) ≡ false → nat_lt b a ≡ true
key_some_way a b past other = grind (arith, nat_tests)

pub key_equal : (a b : ℕ) → (a == b) ≡ true → a ≡ b
key_equal a b same = grind (arith, nat_tests)
