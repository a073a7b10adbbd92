use Rattle.np_board.proofs.Prelude.{Launcher, RunsOn-fits, RunsOn-reached, false, outside-idle, takes_part, ◌≡◌}
use Rattle.np_board.proofs.board.peek.chosen.Goals as goal

pub choose_planned-requires-clause-fits : goal.choose_planned-requires-clause-fits
choose_planned-requires-clause-fits c = RunsOn-fits _ _ _ _ c.know_soundness.ensures.site c.know_soundness.ensures.runs

pub returns-then-not-takes_part : goal.returns-then-not-takes_part
returns-then-not-takes_part c =
    let outside : takes_part c.args.machine.now.configuration (Launcher c.args.pool) ≡ false = cc in
    λ e planned useful. outside-idle c.args.machine.now.configuration c.args.machine.now.state (Launcher c.args.pool) (RunsOn-reached _ _ _ _ c.know_soundness.ensures.runs) outside e useful
