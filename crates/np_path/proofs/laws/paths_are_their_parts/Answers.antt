use Rattle.np_path.proofs.PathLaws.{IsChild-of, root-of}
use Rattle.np_path.proofs.laws.paths_are_their_parts.Goals as goal

pub returns : goal.returns
returns c = record {
  parent = λ path above is there. (IsChild-of path above is there).is;
  name = λ path above is there. (IsChild-of path above is there).named;
  whole = λ path above is there. (IsChild-of path above is there).whole;
  root = root-of;
}
