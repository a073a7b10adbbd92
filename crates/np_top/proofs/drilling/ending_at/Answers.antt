use Rattle.np_top.proofs.Prelude.{State, ap, false, fates, jobs-Runs, planning_ran, ran_of, refl, summary_of, true, ◌∙◌}
use Rattle.np_top.proofs.Sites.{drill_shown, ended_is, rows_jobs, rows_state}
use Rattle.np_top.proofs.drilling.ending_at.Goals as goal

pub summary-requires : goal.summary-requires
summary-requires c =
    let board = c.args.board.now in
    record {
      jobs = rows_jobs (planning_ran board) (ran_of c.machine.result.now) c.machine.ensures.same _ _ c.rows.ensures.site c.rows.ensures.state
          (jobs-Runs board.configuration board.journal board.state c.requires.sound c.know_soundness.ensures.runs);
    }

pub returns-then-full : goal.returns-then-full
returns-then-full c =
    let board = c.args.board.now in let text = c.in_ok-text.text.items in
    let state = rows_state (planning_ran board) (ran_of c.machine.result.now) c.machine.ensures.same _ _ c.rows.ensures.site c.rows.ensures.state in
    drill_shown board.configuration board.configuration board.journal board.state text true refl c.requires.sound c.know_soundness.ensures.runs
    c.requires.lines c.requires.driven (ended_is false board.configuration board.journal c.args.full true c.if-full.true c.requires.ended)
    (c.in_ok-text.ensures ∙ ap (λ (s : State). summary_of (fates s)) state)

pub returns : goal.returns
returns c =
    let board = c.args.board.now in let text = c.in_ok-text.text.items in
    let state = rows_state (planning_ran board) (ran_of c.machine.result.now) c.machine.ensures.same _ _ c.rows.ensures.site c.rows.ensures.state in (
      refl,
      drill_shown board.configuration board.configuration board.journal board.state text false refl c.requires.sound c.know_soundness.ensures.runs
          c.requires.lines c.requires.driven (ended_is false board.configuration board.journal c.args.full false c.if-full.false c.requires.ended)
          (c.in_ok-text.ensures ∙ ap (λ (s : State). summary_of (fates s)) state),
    )
