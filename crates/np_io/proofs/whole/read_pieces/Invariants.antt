use Rattle.np_io.proofs.Prelude.{Takes, vec_len, ◌+◌, ◌-◌, ◌≤◌}
use Rattle.np_io.proofs.whole.read_pieces.Given as goal

-- the bytes so far are those that were taken
abbrev pub invariant-pieces : goal.invariant-pieces
invariant-pieces g l = record {
  fits : vec_len l.bytes ≤ l.limit;
  taken : Takes (g.S.Source.facts l.fn.source).left (g.S.Source.facts l.source).left l.bytes.items;
  later : (g.S.Source.facts l.fn.source).faults ≤ (g.S.Source.facts l.source).faults;
}

-- each turn takes at least one byte
abbrev pub decreases-pieces : goal.decreases-pieces
decreases-pieces g l = (l.limit + 1) - vec_len l.bytes
