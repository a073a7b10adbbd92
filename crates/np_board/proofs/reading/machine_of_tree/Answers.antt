use Rattle.np_board.proofs.Prelude.{RunsOn-fits, RunsOn-reached, sound_fits}
use Rattle.np_board.proofs.reading.machine_of_tree.Goals as goal

pub tables_of_tree-requires-clause-reached : goal.tables_of_tree-requires-clause-reached
tables_of_tree-requires-clause-reached c = RunsOn-reached _ _ _ _ c.requires.runs

pub tables_of_tree-requires-clause-fits : goal.tables_of_tree-requires-clause-fits
tables_of_tree-requires-clause-fits c = RunsOn-fits _ _ _ _ (sound_fits c.args.config c.know_soundness.ensures) c.requires.runs
