use Rattle.np_path.proofs.PathLaws.{halves-whole}
use Rattle.np_path.proofs.laws.texts_are_their_halves.Goals as goal

pub returns : goal.returns
returns c = halves-whole
