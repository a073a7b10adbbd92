-- Lemmas on names.
use Rattle.np_text.proofs.Prelude.{IsAscii, IsAscii-cons, IsAscii-nil, List, and_parts, arith, is_name_byte, is_name_text, length, list_all, nat_le, nat_tests, true, ℕ, [], ◌&&◌, ◌∷◌, ◌≡◌}

IsAscii-name_bytes : (text : List ℕ) → list_all is_name_byte text ≡ true → IsAscii text
IsAscii-name_bytes [] named = IsAscii-nil
IsAscii-name_bytes (b ∷ bs) named =
    let parts = and_parts (is_name_byte b) (list_all is_name_byte bs) named in
    IsAscii-cons b bs (grind (arith, nat_tests, parts.0)) (IsAscii-name_bytes bs parts.1)

-- a name's bytes are ASCII
pub IsAscii-name : (text : List ℕ) → is_name_text text ≡ true → IsAscii text
unfolding is_name_text
IsAscii-name text named =
    IsAscii-name_bytes text (and_parts (nat_le 1 (length text) && nat_le (length text) 64) (list_all is_name_byte text) named).1
