use Rattle.np_board.proofs.Prelude.{Entry, Holds, IsBarred, List, Planning, Runs, StaleHasParent, TreeState, arith, length, planning_of, subst, sym, ◌∙◌, ◌≤◌}
use Rattle.np_board.proofs.BoardTurns.{plan-few, plan-out, plan-parent}
use Rattle.np_board.proofs.board.Board.test.Goals as goal

pub stale_spot-requires-clause-few : goal.stale_spot-requires-clause-few
stale_spot-requires-clause-few c =
    plan-few (planning_of c.self.inside.machine c.self.inside.commits c.self.inside.plans) c.args.pool c.in-Some.watched.now c.self.invariant.1 (sym c.in-Some.ensures) c.spots_have_paths.ensures.paths

pub stale_spot-requires-clause-paths : goal.stale_spot-requires-clause-paths
stale_spot-requires-clause-paths c =
    (plan-out (planning_of c.self.inside.machine c.self.inside.commits c.self.inside.plans) c.args.pool c.in-Some.watched.now c.self.invariant.1 (sym c.in-Some.ensures)).paths

pub stale_spot-requires-clause-parent : goal.stale_spot-requires-clause-parent
stale_spot-requires-clause-parent c =
    let m = c.self.inside.machine in
    let runs : Runs m.configuration m.journal m.state = subst (λ (k : Planning). Runs k.configuration k.journal k.state) (sym c.self.view_is) c.know_soundness.ensures.runs in
    let holds : Holds m.configuration m.state m.store = subst (λ (t : TreeState). Holds m.configuration m.state t) c.store.ensures.same c.store.ensures.held in
    subst (λ (t : TreeState). StaleHasParent t c.in-Some.watched.now.plan.at c.in-Some.watched.now.paths) (sym (c.tree-tree.ensures ∙ c.store.ensures.same))
    (plan-parent (planning_of m c.self.inside.commits c.self.inside.plans) c.args.pool c.in-Some.watched.now c.self.invariant.1 (sym c.in-Some.ensures) runs holds c.spots_have_paths.ensures.parents)

pub returns-then-journal-ge-JOURNAL_ENTRIES : goal.returns-then-journal-ge-JOURNAL_ENTRIES
returns-then-journal-ge-JOURNAL_ENTRIES c =
    let told : 262144 ≤ length c.journal.result.now = omega (arith, c.if-journal-ge-JOURNAL_ENTRIES.true) in
    subst (λ (k : Planning). IsBarred k c.args.pool) c.self.view_is
    (record { plan = c.in-Some.watched.now; there = sym c.in-Some.ensures; full = subst (λ (xs : List Entry). 262144 ≤ length xs) c.journal.ensures told })
