use Rattle.np_event.proofs.Prelude.{blank, drop, fields_from, left_of, option_copied, ◌+◌, ◌≡◌}
use Rattle.np_event.proofs.row.read_fields.Given as goal

abbrev pub invariant-loop-at : goal.invariant-loop-at
invariant-loop-at l = fields_from (l.at + 2) (drop l.at l.kinds) (left_of (option_copied l.left)) l.fields ≡ fields_from 2 l.kinds (left_of (option_copied l.fn.words)) blank
