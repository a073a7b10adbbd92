use Rattle.np_board.proofs.Prelude.{Entry, List, Runs-first, answer-first, applied-first, arith, length, ran_of, subst, ◌<◌, ◌∙◌}
use Rattle.np_board.proofs.BoardTurns.{do-taken}
use Rattle.np_board.proofs.turns.record.Goals as goal

pub returns-clause-turn : goal.returns-clause-turn
returns-clause-turn c =
    let told : length c.journal.result.now < 262144 = omega (arith, c.if-journal-ge-JOURNAL_ENTRIES.false) in
    let room : length c.args.machine.now.journal < 262144 = subst (λ (xs : List Entry). length xs < 262144) c.journal.ensures told in
    do-taken (ran_of c.args.machine.now) (ran_of c.apply.new.self) c.args.event c.in_ok-reply.reply (Runs-first _ _ _ _ c.requires c.know_soundness.ensures.runs) room
    (c.in_ok-reply.ensures.reply ∙ answer-first c.args.machine.now.earlier (ran_of c.args.machine.now) c.args.event c.requires) (c.in_ok-reply.ensures.ok ∙ applied-first c.args.machine.now.earlier (ran_of c.args.machine.now) c.args.event c.requires)
