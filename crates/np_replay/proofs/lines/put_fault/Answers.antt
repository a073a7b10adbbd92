use Rattle.np_replay.proofs.Prelude.{append_assoc, codes, decimal}
use Rattle.np_replay.proofs.lines.put_fault.Goals as goal

pub returns-in_ok-put_number-in-BadArgument : goal.returns-in_ok-put_number-in-BadArgument
returns-in_ok-put_number-in-BadArgument c =
    rw (c.in-BadArgument.is, c.in_ok-put_number-in-BadArgument.ensures.ok, c.in_ok-extend_from_slice-in-BadArgument.ensures.items, c.from.ensures)
    (append_assoc c.args.line.now.items (codes "bad-argument ") (decimal c.in-BadArgument.word))
