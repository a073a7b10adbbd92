use Rattle.np_board.proofs.Prelude.{FreshAreAccepted, Holds, IsPlanning, Planning, Runs, Runs-first, TreeState, planning_of, subst}
use Rattle.np_board.proofs.BoardTurns.{fresh-accepted}
use Rattle.np_board.proofs.board.Board.know_soundness.Goals as goal

pub returns-clause-plans : goal.returns-clause-plans
returns-clause-plans c =
    let m = c.self.inside.machine in
    let holds : Holds m.configuration m.state m.store = subst (λ (t : TreeState). Holds m.configuration m.state t) c.store-tree.ensures.same c.store-tree.ensures.held in
    subst (λ (k : Planning). FreshAreAccepted k) c.self.view_is
    (fresh-accepted (planning_of m c.self.inside.commits c.self.inside.plans) c.fresh_spots_commit.ensures c.self.invariant.1 (Runs-first m.configuration m.earlier m.journal m.state c.self.invariant.0 c.know_soundness.ensures.runs) holds)

pub returns-clause-planning : goal.returns-clause-planning
returns-clause-planning c = subst (λ (m : Planning). IsPlanning m) c.self.view_is c.self.invariant.1

pub returns-clause-runs : goal.returns-clause-runs
returns-clause-runs c =
    let m = c.self.inside.machine in
    subst (λ (k : Planning). Runs k.configuration k.journal k.state) c.self.view_is (Runs-first m.configuration m.earlier m.journal m.state c.self.invariant.0 c.know_soundness.ensures.runs)
