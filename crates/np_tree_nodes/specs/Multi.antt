-- several operations in one call
use Rattle.std.specs.Prelude.{◌≡◌, ◌<◌, ℕ, ◌+◌, Bool, true, false, not, List, [], ◌∷◌, length, take, Result, Ok, Err, IsOk, if◌then◌else◌}
use Rattle.std.specs.List.{list_any}
use Rattle.np_tree_nodes.specs.TreeState.{TreeState}
use Rattle.np_tree_nodes.specs.Answer.{part_answer}
use Rattle.np_tree_nodes.specs.Tests.{is_sequential}
use Rattle.np_tree_nodes.specs.After.{with_next_number, after_part}
use Rattle.np_tree_nodes.specs.declared.op.Op.{Op}
use Rattle.np_tree_nodes.specs.declared.op.OpDone.{OpDone}
use Rattle.np_tree_nodes.specs.declared.refusal.MultiFault.{MultiFault}
use Rattle.np_tree_nodes.specs.declared.refusal.MultiFault.TheVariants.{Refused, NoMemory}
use Rattle.np_tree_nodes.specs.declared.refusal.TreeRefusal.{TreeRefusal}

-- a part that was refused, and why
pub record AtPart : Type 0 where
  pub index : ℕ
  pub refusal : TreeRefusal

-- the answer to a part, and then to the parts after it; the first refusal is the answer
abbrev pub and_then : ℕ → Result OpDone TreeRefusal → Result (List OpDone) AtPart → Result (List OpDone) AtPart
and_then at (Err refusal) others = Err (record { index = at; refusal = refusal })
and_then at (Ok done) (Err later) = Err later
and_then at (Ok done) (Ok others) = Ok (done ∷ others)

-- each part is answered in the state that those before it made (client API: `multi`)
abbrev pub answers_from : ℕ → TreeState → ℕ → List Op → Result (List OpDone) AtPart
answers_from at t s [] = Ok []
answers_from at t s (part ∷ parts) = and_then at (part_answer t s part) (answers_from (at + 1) (after_part t s part) s parts)

-- what all parts together do to the tree
abbrev pub after_parts : TreeState → ℕ → List Op → TreeState
after_parts t s [] = t
after_parts t s (part ∷ parts) = after_parts (after_part t s part) s parts

abbrev pub is_check : Op → Bool
is_check (Op.Create path bytes mode) = false
is_check (Op.CreateUnder parent bytes mode) = false
is_check (Op.Set path bytes expect) = false
is_check (Op.Delete path expect) = false
is_check (Op.Check path expect) = true

-- all parts under one change number; if all are checks, under none
abbrev pub after_multi : TreeState → ℕ → List Op → TreeState
after_multi t s parts = if list_any (λ part. not (is_check part)) parts then with_next_number (after_parts t s parts) else t

-- the path that a part names
abbrev pub path_of : Op → List ℕ
path_of (Op.Create path bytes mode) = path
path_of (Op.CreateUnder parent bytes mode) = parent
path_of (Op.Set path bytes expect) = path
path_of (Op.Delete path expect) = path
path_of (Op.Check path expect) = path

-- each part that creates under a parent makes a sequence node
abbrev pub is_numbered : Op → Bool
is_numbered (Op.Create path bytes mode) = true
is_numbered (Op.CreateUnder parent bytes mode) = is_sequential mode
is_numbered (Op.Set path bytes expect) = true
is_numbered (Op.Delete path expect) = true
is_numbered (Op.Check path expect) = true

-- why nothing was done: a part was refused, or memory ran out at a part that was accepted, as those
-- before it were
abbrev pub Stops : TreeState → ℕ → List Op → MultiFault → Type 0
Stops t s parts (Refused index refusal) = answers_from 0 t s parts ≡ Err (record { index = index; refusal = refusal })
Stops t s parts NoMemory = (k : ℕ) × (k < length parts) × IsOk (answers_from 0 t s (take (k + 1) parts))
