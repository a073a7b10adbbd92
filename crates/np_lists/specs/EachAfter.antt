-- lists of which each member may follow those before it
use Rattle.std.specs.Prelude.{List, [], ◌∷◌, ◌++◌}

-- each member may follow those before it
abbrev pub EachAfter : {T : Type 0} → (List T → T → Type 0) → List T → List T → Type 0
EachAfter P earlier [] = Unit {0}
EachAfter P earlier (x ∷ xs) = P earlier x × EachAfter P (earlier ++ x ∷ []) xs
