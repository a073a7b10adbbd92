use Rattle.np_index.proofs.Prelude.{sound_fits}
use Rattle.np_index.proofs.awaited.rest_by.Goals as goal

pub rest_of-requires : goal.rest_of-requires
rest_of-requires c = record { small = λ p l. (sound_fits c.args.config.now c.know_soundness.ensures).amounts p l }
