use Rattle.np_changes.proofs.Shapes.{Fits-Runs, sound_fits}
use Rattle.np_board_tests.proofs.bare.know_soundness.Goals as goal

pub returns-clause-fits : goal.returns-clause-fits
returns-clause-fits c = Fits-Runs _ _ _ (sound_fits c.args.config.now c.know_soundness.ensures) c.requires.runs
