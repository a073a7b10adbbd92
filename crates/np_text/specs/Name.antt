-- Names of labels, providers, pools, semaphores, requesters and jobs.
use Rattle.std.specs.Prelude.{ℕ, Bool, ◌&&◌, ◌||◌, ◌==◌, nat_le, List, length}
use Rattle.std.specs.Char.{is_ascii_alphanumeric}
use Rattle.std.specs.List.{list_all}
use Rattle.np_text.specs.declared.limit.TheConstants.{NAME_BYTES}

-- a letter, a digit, or one of `.`, `_` and `-`
abbrev pub is_name_byte : ℕ → Bool
is_name_byte b = is_ascii_alphanumeric b || (b == 46) || (b == 95) || (b == 45)

-- one such byte or more, up to the most of a name (own)
unfoldable pub is_name_text : List ℕ → Bool
is_name_text text = nat_le 1 (length text) && nat_le (length text) NAME_BYTES && list_all is_name_byte text
