use Rattle.np_board.proofs.Prelude.{Holds, IsOutstanding, Outstanding, Planning, Runs, Some, TreeState, planning_of, subst, sym, ◌≡◌}
use Rattle.np_board.proofs.BoardTurns.{new-outstanding, planning-with}
use Rattle.np_board.proofs.board.Board.peek.Goals as goal

pub invariant_of-self : goal.invariant_of-self
invariant_of-self c = (
  c.self.invariant.0,
  let m = c.self.inside.machine in
      let runs : Runs m.configuration m.journal m.state = subst (λ (k : Planning). Runs k.configuration k.journal k.state) (sym c.self.view_is) c.know_soundness.ensures.runs in
      let holds : Holds m.configuration m.state m.store = subst (λ (t : TreeState). Holds m.configuration m.state t) c.store-tree.ensures.same c.store-tree.ensures.held in
      let out = new-outstanding m.configuration m.journal m.state m.store c.args.pool c.in-Some.watched runs holds (rw c.in-Some.is at c.in_ok-found.ensures) in
      rw c.put.ensures (planning-with (planning_of m c.self.inside.commits c.self.inside.plans) c.args.pool (Some c.in-Some.watched) c.self.invariant.1 (λ x is.
      let same : c.in-Some.watched ≡ x = cc in
      subst (λ (y : Outstanding). IsOutstanding m.configuration m.journal m.store c.args.pool.0 y) same out)),
)
