use Rattle.np_board.proofs.Prelude.{IsDue, Runs-first, State, refl, subst, sym}
use Rattle.np_board.proofs.BoardTurns.{due-is, none-due, no-node, no-janitor}
use Rattle.np_board.proofs.turns.due.Goals as goal

pub returns-in_default : goal.returns-in_default
returns-in_default c =
    λ n x due. no-janitor c.args.machine.now.state c.args.pool c.in_default.ensures n x (subst (λ (s : State). IsDue c.args.pool s n x) (Runs-first _ _ _ _ c.requires c.know_soundness.ensures.runs).ends due)

pub returns-in_default-due_node : goal.returns-in_default-due_node
returns-in_default-due_node c =
    λ n x due. none-due c.args.machine.now.state c.args.pool c.in-Some.session c.in-Some.ensures n x (c.in_default-due_node.ensures.none refl n)
    (subst (λ (s : State). IsDue c.args.pool s n x) (Runs-first _ _ _ _ c.requires c.know_soundness.ensures.runs).ends due)

pub returns-in-None : goal.returns-in-None
returns-in-None c =
    absurd (no-node c.args.machine.now.state c.args.pool c.in-Some.session c.in-Some-due_node.found (sym c.in-None.ensures) c.in-Some-due_node.ensures.some)

pub returns-in-Some-node : goal.returns-in-Some-node
returns-in-Some-node c =
    let node = c.in-Some-due_node.found in
    let kept = c.in-Some-node.kept in
    subst (λ (s : State). IsDue c.args.pool s node kept.server) (sym (Runs-first _ _ _ _ c.requires c.know_soundness.ensures.runs).ends)
    (due-is c.args.machine.now.state c.args.pool c.in-Some.session c.in-Some.ensures node kept (sym c.in-Some-node.ensures) c.in-Some-due_node.ensures.some)
