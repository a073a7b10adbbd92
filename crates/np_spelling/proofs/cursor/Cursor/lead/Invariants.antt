use Rattle.np_spelling.proofs.Prelude.{drop, lead, ◌≡◌}
use Rattle.np_spelling.proofs.cursor.Cursor.lead.Given as goal

abbrev pub invariant-loop-byte : goal.invariant-loop-byte
invariant-loop-byte l = lead (drop l.byte-index l.text) l.self ≡ lead l.text l.fn.self
