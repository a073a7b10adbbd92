-- tests one after another: the first one that fails determines the answer
use Rattle.std.specs.Prelude.{Bool, true, false, Option, Some, None, Result, Ok, Err}

-- what was found, and then the rest; a refusal ends it
infixr 10 ◌>>=◌
abbrev pub ◌>>=◌ : {A B E : Type 0} → Result A E → (A → Result B E) → Result B E
(Ok a) >>= rest = rest a
(Err refusal) >>= rest = Err refusal

-- a test, and then the rest; a refusal ends it
infixr 10 ◌>>◌
abbrev pub ◌>>◌ : {B E : Type 0} → Result (Unit {0}) E → Result B E → Result B E
(Ok _) >> rest = rest
(Err refusal) >> rest = Err refusal

-- refused unless it is true
abbrev pub need : {E : Type 0} → Bool → E → Result (Unit {0}) E
need true refusal = Ok tt
need false refusal = Err refusal

-- refused if nothing is found
abbrev pub found : {A E : Type 0} → Option A → E → Result A E
found None refusal = Err refusal
found (Some a) refusal = Ok a

-- refused if something is there, with a refusal that depends on it
abbrev pub vacant : {A E : Type 0} → Option A → (A → E) → Result (Unit {0}) E
vacant None refusal = Ok tt
vacant (Some a) refusal = Err (refusal a)
