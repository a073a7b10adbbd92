-- when a session begins
use Rattle.std.specs.Prelude.{◌≡◌, ℕ, ◌+◌, ◌<◌, Result, Ok, Err}
use Rattle.np_session.specs.declared.fault.SessionFault.{SessionFault}
use Rattle.np_session.specs.declared.fault.SessionFault.TheVariants.{Spent, NoMemory}

-- after `begun` sessions, and with room for `spare` more: the next session gets the next number, if
-- and only if there is one; running out of memory is answered only if there was no room
abbrev pub Begins : ℕ → ℕ → Result ℕ SessionFault → Type 0
Begins begun spare (Ok id) = (id ≡ begun + 1) × (begun < 4_294_967_295)
Begins begun spare (Err Spent) = begun ≡ 4_294_967_295
Begins begun spare (Err NoMemory) = (spare ≡ 0) × (begun < 4_294_967_295)
