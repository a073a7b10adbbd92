-- A real file is a disk of unknown content, on which each failure is counted.
use Rattle.np_io.proofs.Prelude.{Elapses, Err, IfOk, Ok, OnErr, OnOk, Result, Rose, Settles, Stays, Tears, arith, counted, if◌then◌else◌, inl, is_ok, refl, unknown_disk, ℕ, ◌≡◌}
use Rattle.np_io.proofs.Moments.{torn_same}

-- what always holds holds at each answer
pub always_if : {A E : Type 0} (result : Result A E) (P : A → Type 0) → ((x : A) → P x) → IfOk result P
always_if (Ok x) P holds = holds x
always_if (Err e) P holds = tt

pub always_on : {A E : Type 0} (result : Result A E) (P : Type 0) → P → OnOk result P
always_on (Ok x) P holds = holds
always_on (Err e) P holds = tt

-- a count of each failure rose at a failure
pub rose_by_count : {A E : Type 0} (result : Result A E) (old new : ℕ)
    → new ≡ (if is_ok result then old else counted old) → OnErr result (Rose old new)
rose_by_count (Ok x) old new counts = tt
rose_by_count (Err e) old new counts = omega (arith, counts)

unknown_elapses : (old new : ℕ) → Elapses (unknown_disk old) (unknown_disk new)
unknown_elapses old new =
    record { later = omega arith; keeps = λ t c le was. tt; nothing_else = λ t c le left. inl tt }

pub unknown_stays : (old new : ℕ) → Stays (unknown_disk old) (unknown_disk new)
unknown_stays old new =
    record { bytes = refl; images = λ c. (λ h. h, λ h. h); time = unknown_elapses old new }

pub unknown_tears : (at n old new : ℕ) → Tears at n (unknown_disk old) (unknown_disk new)
unknown_tears at n old new =
    record { images = λ c left. (c, tt, torn_same at n c); time = unknown_elapses old new }

pub unknown_settles : (old new : ℕ) → Settles (unknown_disk old) (unknown_disk new)
unknown_settles old new =
    record { bytes = refl; images = λ c left. tt; time = unknown_elapses old new }
