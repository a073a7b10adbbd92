-- whether bytes are the Text of a run, and otherwise which of their lines is the first that a Text
-- cannot have
use Rattle.std.specs.Prelude.{◌≡◌, ℕ, ◌+◌, true, List, ◌++◌, length}
use Rattle.np_report.specs.Told.{IsPrinted}
use Rattle.np_report.specs.declared.finding.Finding.{Finding}
use Rattle.np_report.specs.declared.finding.Finding.TheVariants.{Yes, No}
use Rattle.np_report.specs.Lower.{Configuration, Entry, flat_map, is_line, line, list_all}

-- the text is the Text of a run: of a journal over a configuration
pub record IsAText (text : List ℕ) : Type 0 where
  pub configuration : Configuration
  pub journal : List Entry
  pub printed : IsPrinted configuration journal text

-- a Text begins with these bytes
pub record BeginsAText (bytes : List ℕ) : Type 0 where
  pub rest : List ℕ
  pub whole : IsAText (bytes ++ rest)

-- the bytes are no Text. They are whole lines and a rest: a Text begins with these lines, but none
-- begins with these and the next whole line of the rest, if it has one. The number is that of the
-- line after these lines
pub record IsNoText (bytes : List ℕ) (number : ℕ) : Type 0 where
  pub none : ¬ (IsAText bytes)
  pub lines : List (List ℕ)
  pub rest : List ℕ
  pub parts : bytes ≡ flat_map line lines ++ rest
  pub whole : list_all is_line lines ≡ true
  pub begin : BeginsAText (flat_map line lines)
  pub ends : (next later : List ℕ) → is_line next ≡ true → rest ≡ line next ++ later → ¬ (BeginsAText (flat_map line lines ++ line next))
  pub count : number ≡ length lines + 1

-- what is found of the bytes is true
abbrev pub IsSo : Finding → List ℕ → Type 0
IsSo Yes bytes = IsAText bytes
IsSo (No number) bytes = IsNoText bytes number
