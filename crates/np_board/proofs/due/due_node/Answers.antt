use Rattle.np_board.proofs.Prelude.{arith, below_more, length, not-past, queued_nodes, sym, ◌<◌}
use Rattle.np_board.proofs.BoardTurns.{IsNotDueAt, not-due-at, none-left}
use Rattle.np_board.proofs.due.due_node.Goals as goal

pub returns-in_default : goal.returns-in_default
returns-in_default g c =
    let nodes = queued_nodes c.args.session (g.L.Look.state c.args.look.now) in
    let within : c.loop-at.at < length nodes = omega (arith, c.queued_nodes-at-end.ensures, c.loop-at-test.true) in
    absurd (not-past nodes c.loop-at.at within (sym c.in_default.ensures))

pub loop-at-preserved : goal.loop-at-preserved
loop-at-preserved g c =
    below_more (IsNotDueAt (g.L.Look.state c.args.look.now) c.args.pool c.args.session) c.loop-at.at c.loop-at.invariant
    (not-due-at (g.L.Look.state c.args.look.now) c.args.pool c.args.session c.loop-at.at c.in-Some.node (sym c.in-Some.ensures) (sym c.if-is_due.ensures))

pub returns-clause-none : goal.returns-clause-none
returns-clause-none g c =
    λ none. none-left (g.L.Look.state c.args.look.now) c.args.pool c.args.session
    (λ k within. c.loop-at.invariant k (omega (arith, within, c.queued_nodes-at-end.ensures, c.loop-at-test.false)))
