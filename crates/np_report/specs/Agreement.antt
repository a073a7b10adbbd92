-- how far two texts agree
use Rattle.std.specs.Prelude.{ℕ, ◌+◌, ◌==◌, if◌then◌else◌, List, [], ◌∷◌}
use Rattle.std.specs.List.{count_by}
use Rattle.std.specs.Str.{bytes_eq}
use Rattle.np_report.specs.declared.finding.Finding.{Finding}
use Rattle.np_report.specs.declared.finding.Finding.TheVariants.{Yes, No}

-- how many newlines a text has
abbrev pub newlines : List ℕ → ℕ
newlines text = count_by (λ b. b == 10) text

-- a newline counts, and no other byte
abbrev pub newline_count : ℕ → ℕ
newline_count b = if b == 10 then 1 else 0

-- how many lines, each with its newline, both texts begin with
abbrev pub common_lines : List ℕ → List ℕ → ℕ
common_lines [] other = 0
common_lines (b ∷ text) [] = 0
common_lines (b ∷ text) (d ∷ other) = if b == d then newline_count b + common_lines text other else 0

-- the bytes are this text, or differ from it after the lines that both begin with
abbrev pub finding_of : List ℕ → List ℕ → Finding
finding_of text bytes = if bytes_eq text bytes then Yes else No (common_lines text bytes + 1)
