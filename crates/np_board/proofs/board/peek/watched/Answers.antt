use Rattle.np_board.proofs.Prelude.{Holds, TreeState, subst, ◌++◌}
use Rattle.np_board.proofs.BoardTurns.{stored-of}
use Rattle.np_board.proofs.board.peek.watched.Goals as goal

pub paths_of-requires : goal.paths_of-requires
paths_of-requires c =
    let m = c.args.machine.now in
    let holds : Holds m.configuration m.state m.store = subst (λ (t : TreeState). Holds m.configuration m.state t) c.store.ensures.same c.store.ensures.held in
    let have = c.spots_have_paths.ensures.paths m.configuration (c.know_soundness.ensures.runs.before ++ m.journal) m.state m.store c.args.event c.know_soundness.ensures.runs.runs (stored-of m.configuration m.state m.store holds) c.requires.planned c.requires.useful.accepted in
    rw (c.spots-spots.ensures, c.rows.ensures.state) have.good
