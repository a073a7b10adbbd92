use Rattle.np_path.proofs.PartsLemmas.{is_path-below}
use Rattle.np_path.proofs.PathLaws.{HasParts-below}
use Rattle.np_path.proofs.laws.children_have_their_parts.Goals as goal

pub returns : goal.returns
returns c = record {
  path = is_path-below;
  parent = λ path name is named. (HasParts-below path name is named).above;
  name = λ path name is named. (HasParts-below path name is named).last;
}
