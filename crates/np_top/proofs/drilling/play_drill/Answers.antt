use Rattle.np_top.proofs.Prelude.{Configuration, Driven, EndsDrill, HasEnded, IfOk, IsSound, false, subst, sym, ◌∙◌}
use Rattle.np_top.proofs.drilling.play_drill.Goals as goal

pub ending_at-ending-requires-clause-sound : goal.ending_at-ending-requires-clause-sound
ending_at-ending-requires-clause-sound g c = subst IsSound (sym c.in_ok-board.ensures.configuration) c.know_soundness.ensures

pub ending_at-ending-requires-clause-driven : goal.ending_at-ending-requires-clause-driven
ending_at-ending-requires-clause-driven g c =
    let board = c.in_ok-board.board in let told = c.in_ok-board.ensures in
    subst (λ (x : Configuration). Driven x board.journal) (sym told.configuration) told.driven

pub ending_at-ending-requires-clause-ended : goal.ending_at-ending-requires-clause-ended
ending_at-ending-requires-clause-ended g c =
    let board = c.in_ok-board.board in let told = c.in_ok-board.ensures in
    subst (λ (x : Configuration). HasEnded false x board.journal c.in_ok-board.full) (sym told.configuration) told.ended

pub returns : goal.returns
returns g c =
    subst (λ (x : Configuration). IfOk c.ending_at-ending.result (EndsDrill x)) (c.in_ok-board.ensures.configuration ∙ c.in_ok-config.ensures) c.ending_at-ending.ensures
