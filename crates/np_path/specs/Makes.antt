use Rattle.std.specs.Prelude.{◌≡◌, ⊤, ℕ, List, Option, Some, None, Result, Ok, Err}
use Rattle.np_path.specs.declared.path.Path.{Path}
use Rattle.np_path.specs.declared.fault.PathFault.{PathFault}
use Rattle.np_path.specs.declared.fault.PathFault.TheVariants.{Bad, NoMemory}

-- the path of that text is made if there is no fault, unless memory runs out; a fault is reported
-- if and only if there is one
abbrev pub Makes : Option ℕ → List ℕ → Result Path PathFault → Type 0
Makes None text (Ok path) = path ≡ text
Makes None text (Err (Bad place)) = ⊥
Makes None text (Err NoMemory) = ⊤
Makes (Some fault) text (Ok path) = ⊥
Makes (Some fault) text (Err (Bad place)) = place ≡ fault
Makes (Some fault) text (Err NoMemory) = ⊥
