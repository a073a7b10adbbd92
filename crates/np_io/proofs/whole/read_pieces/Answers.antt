use Rattle.np_io.proofs.Prelude.{arith, length, length-append, length-take, take, ◌++◌, ◌+◌, ◌≡◌}
use Rattle.np_io.proofs.BytesLemmas.{Takes-trans, Takes-too_long}
use Rattle.np_io.proofs.whole.read_pieces.Goals as goal

pub returns-then-room-count-clause-too_long : goal.returns-then-room-count-clause-too_long
returns-then-room-count-clause-too_long g c = λ _.
    let same_len = c.pieces.bytes.ok.0 in
    let asked = length-take (c.min-asked.result + 1) c.pieces.piece in
    let count : length (take c.in_ok-count.count c.read.new.buf) ≡ c.in_ok-count.count =
    simp length-take (omega (arith, c.in_ok-count.ensures.bound)) in
    Takes-too_long _ _ _ _ _ _ c.pieces.invariant.taken c.in_ok-count.ensures.read
    (omega (arith, count, asked, same_len, c.in_ok-count.ensures.bound, c.if-room-count.true))

pub returns-then-room-count-clause-taken : goal.returns-then-room-count-clause-taken
returns-then-room-count-clause-taken g c =
    let same_len = c.pieces.bytes.ok.0 in
    let asked = length-take (c.min-asked.result + 1) c.pieces.piece in (
      c.pieces.bytes.items ++ take c.in_ok-count.count c.read.new.buf,
      simp (length-append, length-take) (omega (arith, asked, same_len, c.in_ok-count.ensures.bound)),
      Takes-trans _ _ _ _ _ c.pieces.invariant.taken c.in_ok-count.ensures.read,
    )

pub returns-in_err-extend_from_slice-clause-taken : goal.returns-in_err-extend_from_slice-clause-taken
returns-in_err-extend_from_slice-clause-taken g c =
    let same_len = c.pieces.bytes.ok.0 in (
      c.pieces.bytes.items ++ take c.in_ok-count.count c.read.new.buf,
      simp (length-append, length-take) (omega (arith, same_len, c.if-room-count.false)),
      Takes-trans _ _ _ _ _ c.pieces.invariant.taken c.in_ok-count.ensures.read,
    )
