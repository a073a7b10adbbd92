use Rattle.std.proofs.Common.{◌≡◌, ◌∙◌, sym, ap}
use Rattle.np_changes.specs.Prelude.{Configuration, Fits}
use Rattle.np_rules.proofs.RunLemmas.{RunsOn-fits}
use Rattle.np_layout.specs.Decoded.{decoded}
use Rattle.np_rules.specs.Running.{Ran}
use Rattle.np_board_tests.proofs.index.answers_as_its_tree_does.Goals as goal

pub are_equal-requires-clause-one : goal.are_equal-requires-clause-one
are_equal-requires-clause-one c =
    let machine = c.machine-machine.result.now in
    RunsOn-fits machine.configuration machine.earlier machine.journal machine.state c.know_soundness.ensures.site c.know_soundness.ensures.runs

pub are_equal-requires-clause-other : goal.are_equal-requires-clause-other
are_equal-requires-clause-other c =
    let machine = c.machine-machine.result.now in let board = c.args.board.now in let tree = c.tree.result.now in
    let fits : Fits machine.configuration machine.state = RunsOn-fits machine.configuration machine.earlier machine.journal machine.state c.know_soundness.ensures.site c.know_soundness.ensures.runs in
    let site : c.config.result.now ≡ machine.configuration = c.config.ensures ∙ c.rows.ensures.site in
    let of_board : machine.configuration ≡ board.configuration = ap (λ (r : Ran). r.configuration) c.machine-machine.ensures.same in
    let state : decoded c.config.result.now tree ≡ machine.state =
    ap (λ (x : Configuration). decoded x tree) (site ∙ of_board) ∙ (c.tree.ensures.state ∙ sym (ap (λ (r : Ran). r.state) c.machine-machine.ensures.same)) in
    rw (c.over.ensures, c.new-tree.ensures, state, site) fits
