use Rattle.np_changes.specs.Fits.{Fits}
use Rattle.np_rules.proofs.RunLemmas.{RunsOn-fits}
use Rattle.np_board_tests.proofs.index.answers_as_its_rows_do.Goals as goal

pub are_equal-requires-clause-one : goal.are_equal-requires-clause-one
are_equal-requires-clause-one c = RunsOn-fits _ _ _ _ c.know_soundness.ensures.site c.know_soundness.ensures.runs

pub are_equal-requires-clause-other : goal.are_equal-requires-clause-other
are_equal-requires-clause-other c =
    let machine = c.args.machine.now in
    let fits : Fits machine.configuration machine.state = RunsOn-fits machine.configuration machine.earlier machine.journal machine.state c.know_soundness.ensures.site c.know_soundness.ensures.runs in
    rw (c.over.ensures, c.rows.ensures.site, c.rows.ensures.state) fits
