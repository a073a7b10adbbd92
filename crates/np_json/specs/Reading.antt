-- faults with their places, and what a reader of the code returns
use Rattle.std.specs.Prelude.{◌≡◌, ℕ, List, ◌∷◌, ◌++◌, decimal, Option, Some, None, Result, Ok, Err}
use Rattle.np_json.specs.declared.fault.ConfigKind.{ConfigKind}
use Rattle.np_json.specs.declared.fault.ConfigFault.{ConfigFault}
use Rattle.np_json.specs.declared.fault.ConfigRead.{ConfigRead}
use Rattle.np_json.specs.declared.fault.Place.{Place}
use Rattle.np_json.specs.declared.fault.Place.TheVariants.{Member, Item}

-- the fault of this kind, at this place
abbrev pub fault : ConfigKind → List ℕ → ConfigFault
fault kind at = record { kind = kind; pointer = at }

-- the place of a member or of an item, as a JSON pointer (RFC 6901; no key of the configuration has `~` or `/`)
abbrev pub below : List ℕ → List ℕ → List ℕ
below at key = at ++ 47 ∷ key

-- the pointer to a place
abbrev pub pointer_to : Place → List ℕ
pointer_to (Member object key) = below object.now key.now
pointer_to (Item list index) = below list.now (decimal index)

-- the fault, if there is one
abbrev pub fault_of : {A : Type 0} → Result A ConfigFault → Option ConfigFault
fault_of (Ok x) = None
fault_of (Err f) = Some f

-- an error of the code has this fault, unless memory ran out
abbrev pub Fails : ConfigRead → Option ConfigFault → Type 0
Fails (ConfigRead.Fault f) told = told ≡ Some f
Fails ConfigRead.NoMemory told = Unit {0}

-- what the code returns, seen by view, is the result of reading, unless memory ran out
abbrev pub Gives : {X A : Type 0} → (X → A) → Result X ConfigRead → Result A ConfigFault → Type 0
Gives view (Ok x) read = read ≡ Ok (view x)
Gives view (Err e) read = Fails e (fault_of read)

-- what the code leaves behind a `&mut` is the result of reading, unless memory ran out
abbrev pub Leaves : {X S : Type 0} → Result X ConfigRead → S → Result S ConfigFault → Type 0
Leaves (Ok done) left read = read ≡ Ok left
Leaves (Err e) left read = Fails e (fault_of read)
