-- what the lines of a text say, or the first of them that says nothing
use Rattle.std.specs.Prelude.{◌≡◌, ◌≤◌, ℕ, ◌+◌, nat_lt, Bool, true, if◌then◌else◌, List, [], ◌∷◌, ◌++◌, length, Result, Ok, Err, is_ok}
use Rattle.std.specs.List.{list_all}
use Rattle.np_report.specs.declared.lines.LinesFault.{LinesFault}
use Rattle.np_report.specs.declared.lines.LinesFault.TheVariants.{Line, TooMany}

-- the line's own fault, then that of a later line, or what it says before what the later ones say
abbrev pub with_line : {A F : Type 0} → ℕ → Result A F → Result (List A) (LinesFault F) → Result (List A) (LinesFault F)
with_line n (Err fault) later = Err (Line n fault)
with_line n (Ok x) (Err fault) = Err fault
with_line n (Ok x) (Ok xs) = Ok (x ∷ xs)

-- what these lines say; the first has the number n, and none may have a number above `most`
abbrev pub lines_read : {A F : Type 0} → (List ℕ → Result A F) → ℕ → ℕ → List (List ℕ) → Result (List A) (LinesFault F)
lines_read said most n [] = Ok []
lines_read said most n (line ∷ lines) =
    if nat_lt most n then Err (TooMany n) else with_line n (said line) (lines_read said most (n + 1) lines)

-- each of these lines says something
abbrev pub are_read : {A F : Type 0} → (List ℕ → Result A F) → List (List ℕ) → Bool
are_read said lines = list_all (λ line. is_ok (said line)) lines

-- line n, of those from the number `first` on, is the first that is at fault: all before it are
-- read, and it is not
pub record IsFirstFault {A F : Type 0} (said : List ℕ → Result A F) (most first : ℕ) (lines : List (List ℕ)) (n : ℕ) (fault : F) : Type 0 where
  pub before : List (List ℕ)
  pub line : List ℕ
  pub later : List (List ℕ)
  pub stand : lines ≡ before ++ line ∷ later
  pub number : n ≡ first + length before
  pub few : n ≤ most
  pub read : are_read said before ≡ true
  pub unread : said line ≡ Err fault
