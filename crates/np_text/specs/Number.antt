-- Numbers and their decimal spelling.
use Rattle.std.specs.Prelude.{ℕ, ◌-◌, Bool, true, false, not, ◌&&◌, ◌==◌, nat_le, if◌then◌else◌, List, [], ◌∷◌, ◌++◌, length, replicate, drop, position, unwrap_or, Option, Some, None}
use Rattle.std.specs.Fmt.{decimal}
use Rattle.std.specs.Str.{all_ascii_digits}
use Rattle.std.specs.Str.Parse.{digits_value}

-- the number that decimal digits spell, with any zeros in front, if it is at most max (own)
unfoldable pub digits_within : ℕ → List ℕ → Option ℕ
digits_within max text = if all_ascii_digits text && nat_le (digits_value 10 text) max then Some (digits_value 10 text) else None

-- there is a byte, and no zero in front of others
abbrev pub begins_as_number : List ℕ → Bool
begins_as_number [] = false
begins_as_number (c ∷ []) = true
begins_as_number (c ∷ d ∷ cs) = not (c == 48)

-- the number of at most max that a text spells, in the one spelling of numbers (own)
unfoldable pub number_of : ℕ → List ℕ → Option ℕ
number_of max text = if begins_as_number text then digits_within max text else None

-- the decimal spelling of n, with zeros in front up to k digits
abbrev pub padded : ℕ → ℕ → List ℕ
padded k n = replicate (k - length (decimal n)) 48 ++ decimal n

-- the ten digits of a sequence number (ZooKeeper Programmer's Guide, sequence nodes)
unfoldable pub ten_digits_of : ℕ → List ℕ
ten_digits_of n = padded 10 n

-- digits without the zeros in front of them; the last digit stays
unfoldable pub without_zeros : List ℕ → List ℕ
without_zeros digits = drop (unwrap_or (position (λ digit. not (digit == 48)) digits) (length digits - 1)) digits
