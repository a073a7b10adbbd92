use Rattle.np_tree_rows.proofs.Prelude.{IsStored, State, slice_get, ◌≡◌}
use Rattle.np_tree_rows.proofs.Registered.{from_number, pool_of}
use Rattle.np_tree_rows.proofs.session_table.registration_at.Given as goal

abbrev pub invariant-loop-number : goal.invariant-loop-number
invariant-loop-number l = (s : State) → IsStored l.config s l.tree → slice_get s.registrations l.at ≡ slice_get (from_number pool_of l.number s.registrations) l.left
