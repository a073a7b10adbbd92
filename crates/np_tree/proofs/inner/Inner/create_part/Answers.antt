use Rattle.np_tree.proofs.Prelude.{MakesName-child, sym}
use Rattle.np_tree.proofs.inner.Inner.create_part.Goals as goal

pub make-requires-clause-name : goal.make-requires-clause-name
make-requires-clause-name c =
    rw c.name.ensures (MakesName-child c.args.path.now c.in-Some.above.now c.args.mode c.text.ensures.path (sym c.in-Some.ensures))
