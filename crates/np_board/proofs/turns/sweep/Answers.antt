use Rattle.np_board.proofs.Prelude.{IfOk-weaker, IsNotKept, Janitor, Runs-first, current-has, inl, inr, ran_of, sym}
use Rattle.np_board.proofs.BoardTurns.{kept-taken, swept-taken, sweep-taken}
use Rattle.np_board.proofs.turns.sweep.Goals as goal

pub returns-in_default-clause-turn : goal.returns-in_default-clause-turn
returns-in_default-clause-turn c =
    kept-taken (ran_of c.args.machine.now) c.args.pool c.args.node c.args.server (Runs-first _ _ _ _ c.requires c.know_soundness.ensures.runs) (inl c.in_default.ensures)

pub returns-then-is_wanted-clause-turn : goal.returns-then-is_wanted-clause-turn
returns-then-is_wanted-clause-turn c =
    kept-taken (ran_of c.args.machine.now) c.args.pool c.args.node c.args.server (Runs-first _ _ _ _ c.requires c.know_soundness.ensures.runs) (inr (sym c.if-is_wanted.ensures))

pub returns-then-was_swept-clause-turn : goal.returns-then-was_swept-clause-turn
returns-then-was_swept-clause-turn c =
    let lost : IsNotKept c.args.pool c.args.node c.args.server c.args.machine.now.state = record { current = current-has (Janitor c.args.pool) c.args.machine.now.state c.in-Some.session c.in-Some.ensures; unwanted = sym c.if-is_wanted.ensures } in
    swept-taken (ran_of c.args.machine.now) c.args.pool c.args.node c.args.server (Runs-first _ _ _ _ c.requires c.know_soundness.ensures.runs) lost (sym c.if-was_swept.ensures)

pub returns-clause-turn : goal.returns-clause-turn
returns-clause-turn c =
    let lost : IsNotKept c.args.pool c.args.node c.args.server c.args.machine.now.state = record { current = current-has (Janitor c.args.pool) c.args.machine.now.state c.in-Some.session c.in-Some.ensures; unwanted = sym c.if-is_wanted.ensures } in
    IfOk-weaker c.record.result _ _ (λ t taken. sweep-taken (ran_of c.args.machine.now) (ran_of c.record.new.machine) c.args.pool c.in-Some.session c.args.node c.args.server t (Runs-first _ _ _ _ c.requires c.know_soundness.ensures.runs) lost (sym c.if-was_swept.ensures) c.in-Some.ensures taken) c.record.ensures.turn
