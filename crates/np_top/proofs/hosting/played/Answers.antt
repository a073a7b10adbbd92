use Rattle.np_top.proofs.Prelude.{AllByRecursion, Configuration, EndsPlay, Entry, HasEnded, HasEventLine, IfOk, List, false, hosted_run, hosted_view, planning_ran, ran_of}
use Rattle.np_top.proofs.Sites.{ends_site, from_machine, to_machine}
use Rattle.np_top.proofs.hosting.played.Goals as goal

pub ending_at-ending-requires-clause-lines : goal.ending_at-ending-requires-clause-lines
ending_at-ending-requires-clause-lines g c =
    let told = c.in_ok-board.ensures in
    to_machine (ran_of c.machine.result.now) (planning_ran c.in_ok-board.board) c.machine.ensures.same (hosted_view c.args.site).configuration told.configuration
    (λ (x : Configuration) (journal : List Entry). AllByRecursion (λ (e : Entry). HasEventLine e.event) journal) told.lines

pub returns : goal.returns
returns g c =
    let board = c.in_ok-board.board in let told = c.in_ok-board.ensures in
    ends_site hosted_run (hosted_view c.args.site) board.journal c.ending_at-ending.result told.driven
    (from_machine (ran_of c.machine.result.now) (planning_ran board) c.machine.ensures.same (hosted_view c.args.site).configuration told.configuration
    (λ (x : Configuration) (journal : List Entry). IfOk c.ending_at-ending.result (EndsPlay false x journal)) (c.ending_at-ending.ensures false
    (to_machine (ran_of c.machine.result.now) (planning_ran c.in_ok-board.board) c.machine.ensures.same (hosted_view c.args.site).configuration told.configuration
    (λ (x : Configuration) (journal : List Entry). HasEnded false x journal c.in_ok-board.full) told.ended)))
