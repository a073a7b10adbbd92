use Rattle.np_top.proofs.Prelude.{AllByRecursion, Configuration, EndsPlay, Entry, HasEnded, HasEventLine, IfOk, List, planning_ran, ran_of, site_run}
use Rattle.np_top.proofs.Sites.{ends_site, from_machine, to_machine}
use Rattle.np_top.proofs.running.played.Goals as goal

pub ending_at-ending-requires-clause-lines : goal.ending_at-ending-requires-clause-lines
ending_at-ending-requires-clause-lines g c =
    let told = c.in_ok-board.ensures in
    to_machine (ran_of c.machine.result.now) (planning_ran c.in_ok-board.board) c.machine.ensures.same c.args.config told.configuration
    (λ (x : Configuration) (journal : List Entry). AllByRecursion (λ (e : Entry). HasEventLine e.event) journal) told.lines

pub returns : goal.returns
returns g c =
    let board = c.in_ok-board.board in let told = c.in_ok-board.ensures in
    ends_site (site_run c.args.plans) c.args.config board.journal c.ending_at-ending.result told.driven
    (from_machine (ran_of c.machine.result.now) (planning_ran c.in_ok-board.board) c.machine.ensures.same c.args.config told.configuration
    (λ (x : Configuration) (journal : List Entry). IfOk c.ending_at-ending.result (EndsPlay c.args.plans x journal)) (c.ending_at-ending.ensures c.args.plans
    (to_machine (ran_of c.machine.result.now) (planning_ran c.in_ok-board.board) c.machine.ensures.same c.args.config told.configuration
    (λ (x : Configuration) (journal : List Entry). HasEnded c.args.plans x journal c.in_ok-board.full) told.ended)))
