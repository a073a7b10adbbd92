use Rattle.np_layout.proofs.Prelude.{IsAscii, subst, sym}
use Rattle.np_layout.proofs.Names.{IsAscii-of}
use Rattle.np_layout.proofs.path_text.PathText.of.Goals as goal

pub invariant_of-result : goal.invariant_of-result
invariant_of-result c = subst IsAscii (sym c.path_bytes.ensures) (IsAscii-of c.args.place c.requires)
