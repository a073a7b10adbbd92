use Rattle.np_board.proofs.Prelude.{IfOk-weaker, Runs-first, RunsOn-fits, ran_of}
use Rattle.np_board.proofs.BoardTurns.{act-taken, idle-taken}
use Rattle.np_board.proofs.turns.act.Goals as goal

pub choose-requires-clause-fits : goal.choose-requires-clause-fits
choose-requires-clause-fits c = RunsOn-fits _ _ _ _ c.know_soundness.ensures.site c.know_soundness.ensures.runs

pub returns-in-None-clause-turn : goal.returns-in-None-clause-turn
returns-in-None-clause-turn c = idle-taken (ran_of c.args.machine.now) c.args.role (Runs-first _ _ _ _ c.requires c.know_soundness.ensures.runs) c.in-None.ensures

pub returns-in-Some-clause-turn : goal.returns-in-Some-clause-turn
returns-in-Some-clause-turn c =
    IfOk-weaker c.record.result _ _ (λ t taken. act-taken (ran_of c.args.machine.now) (ran_of c.record.new.machine) c.args.role c.in-Some.event t (Runs-first _ _ _ _ c.requires c.know_soundness.ensures.runs) c.in-Some.ensures taken) c.record.ensures.turn
