use Rattle.np_board.proofs.Prelude.{arith, length, there-at, ◌<◌}
use Rattle.np_board.proofs.BoardTurns.{set-next}
use Rattle.np_board.proofs.board.peek.watch_all.Goals as goal

pub loop-place-preserved : goal.loop-place-preserved
loop-place-preserved c =
    let within : c.loop-place.place < length c.args.paths.now = omega arith in
    set-next c.args.tree.now c.args.paths.now c.loop-place.place c.index-paths-place.result c.loop-place.watches c.set.new.self c.in_ok-set.field-0 within
    (there-at c.args.paths.now c.loop-place.place c.index-paths-place.result within c.index-paths-place.is) c.loop-place.invariant c.in_ok-set.ensures.answer c.in_ok-set.ensures.ok
