-- How a record comes behind a closed gate, which is then opened.
use Rattle.std.specs.Prelude.{◌⊎◌, ℕ, ◌+◌, List, [], ◌∷◌, ◌++◌, length, IfSome}
use Rattle.np_log.specs.Log.{record_text}
use Rattle.np_log.specs.Lower.{AfterTornWrite, DiskFacts, TornWrite, put_at}

-- a record with this payload, and a closed gate behind it
abbrev pub record_and_gate : List ℕ → List ℕ
record_and_gate payload = record_text payload ++ 0 ∷ []

-- the file, with these bytes behind the gate at this place
abbrev pub behind_gate : ℕ → List ℕ → List ℕ → List ℕ
behind_gate gate bytes file = put_at (gate + 1) bytes file

-- the same, and the gate is open
abbrev pub behind_open_gate : ℕ → List ℕ → List ℕ → List ℕ
behind_open_gate gate bytes file = put_at gate (1 ∷ []) (behind_gate gate bytes file)

-- an image from before, torn behind the gate alone; or the file with all of these bytes behind the
-- gate, torn at the gate alone (own)
abbrev pub TornBehindOrAt : DiskFacts → ℕ → List ℕ → List ℕ → Type 0
TornBehindOrAt before gate bytes image =
    AfterTornWrite before.may_leave (gate + 1) (length bytes) image
    ⊎ IfSome before.now (λ file. TornWrite gate 1 (behind_gate gate bytes file) image)

-- an image from before; or, if the file was empty: its first gate, torn; or these bytes torn behind
-- the closed gate; or these bytes, with the gate torn (own)
abbrev pub TornFirst : DiskFacts → List ℕ → List ℕ → Type 0
TornFirst before bytes image =
    before.may_leave image
    ⊎ IfSome before.now (λ _. TornWrite 0 1 [] image
    ⊎ (TornWrite 1 (length bytes) (0 ∷ []) image ⊎ TornWrite 0 1 (behind_gate 0 bytes (0 ∷ [])) image))
