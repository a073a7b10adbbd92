-- The end of what is read, and of what is written.
use Rattle.std.specs.Prelude.{ℕ, ◌==◌, Bool, true, false, Result, Ok, Err}

-- whether a source is at its end after a read: if and only if the read returned no byte (own)
abbrev pub ended_by : {E : Type 0} → Bool → Result ℕ E → Bool
ended_by before (Ok n) = n == 0
ended_by before (Err fault) = before

-- whether a sink is finished after a write: what was written after the last finish is not (own)
abbrev pub opened_by : {E : Type 0} → Bool → Result ℕ E → Bool
opened_by before (Ok n) = false
opened_by before (Err fault) = before

-- whether a sink is finished after a finish (own)
abbrev pub finished_by : {A E : Type 0} → Bool → Result A E → Bool
finished_by before (Ok done) = true
finished_by before (Err fault) = before
