use Rattle.np_replay.proofs.Prelude.{digits_within, number_of, refl}
use Rattle.np_replay.proofs.law.worked_commands.Goals as goal

pub returns : goal.returns
unfolding number_of digits_within
returns c = record {
  bare = (refl, refl, refl);
  hosts = (refl, refl, refl, refl, refl, refl);
  planned = (refl, refl, refl, refl, refl);
  drill = (refl, refl, refl, refl, refl);
  file = (refl, refl, refl, refl, refl, refl);
  dashes = (refl, refl, refl, refl, refl, refl);
  none = (refl, refl);
}
