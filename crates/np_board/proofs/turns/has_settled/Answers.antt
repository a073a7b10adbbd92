use Rattle.np_board.proofs.Prelude.{RunsOn-fits}
use Rattle.np_board.proofs.turns.has_settled.Goals as goal

pub is_settled-requires-clause-fits : goal.is_settled-requires-clause-fits
is_settled-requires-clause-fits c = RunsOn-fits _ _ _ _ c.know_soundness.ensures.site c.know_soundness.ensures.runs
